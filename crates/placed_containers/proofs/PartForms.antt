-- The forms of parts: how deep they nest, and that they have no float.
use Rattle.std.specs.Prelude.{◌≡◌, ◌≤◌, ◌||◌, ℕ, List, Some, false}
use Rattle.std.proofs.Common.{ap, arith}
use Rattle.serde_json.specs.Data.{Data, depth}
use Rattle.serde_json.specs.Written.{has_float}
use Rattle.placed_containers.specs.Parts.{part_form}

pub part_form-shallow : (job : List ℕ) (from to of : ℕ) (d : Data) → depth d ≤ 126 → depth (part_form job from to of d) ≤ 127
part_form-shallow job from to of d h = omega (arith, h)

pub part_form-plain : (job : List ℕ) (from to of : ℕ) (d : Data) → has_float d ≡ false → has_float (part_form job from to of d) ≡ false
part_form-plain job from to of d h = ap (λ t. t || false) h

pub some-same : {X : Type 0} {x y : X} → Some x ≡ Some y → x ≡ y
some-same h = cc

pub part_form-from : {job : List ℕ} {f t n f' t' n' : ℕ} {d d' : Data} → part_form job f t n d ≡ part_form job f' t' n' d' → f ≡ f'
part_form-from h = cc

pub part_form-to : {job : List ℕ} {f t n f' t' n' : ℕ} {d d' : Data} → part_form job f t n d ≡ part_form job f' t' n' d' → t ≡ t'
part_form-to h = cc

pub part_form-of : {job : List ℕ} {f t n f' t' n' : ℕ} {d d' : Data} → part_form job f t n d ≡ part_form job f' t' n' d' → n ≡ n'
part_form-of h = cc

pub part_form-container : {job : List ℕ} {f t n f' t' n' : ℕ} {d d' : Data} → part_form job f t n d ≡ part_form job f' t' n' d' → d ≡ d'
part_form-container h = cc
