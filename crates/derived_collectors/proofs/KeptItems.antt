-- The item that is kept beside its key.
use Rattle.std.proofs.Common.{◌≡◌, Option, Some, None, option_map, refl}
use Rattle.derived_collectors.specs.declared.keyed.Keyed.{Keyed}

pub kept-item : {T J C D : Type 0} (content : T → C) (of_keys : J → D) (kept : Option (Keyed T J))
    → option_map (λ (p : C × D). p.0) (option_map (λ (k : Keyed T J). (content k.item, of_keys k.key)) kept) ≡ option_map content (option_map (λ (k : Keyed T J). k.item) kept)
kept-item content of_keys None = refl
kept-item content of_keys (Some k) = refl
