-- What is told of a reader, in other words for the same.
use Rattle.std.specs.Prelude.{◌≡◌, ℕ, Bool, not, List, Option, Some, None, Result, Ok, Err, IfOk, IfErr, IfSome, OnErr}
use Rattle.std.proofs.Common.{ap, subst, ◌∙◌}
use Rattle.line_blocks.specs.declared.error.LinesError.{LinesError}
use Rattle.line_blocks.specs.Faults.{IsFault}

pub same-fault : {V : Type 0} {n m : ℕ} {k l : Option (List ℕ)} (result : Result V LinesError) → n ≡ m → k ≡ l → IfErr result (IsFault n k) → IfErr result (IsFault m l)
same-fault {m = m} {k = k} result sizes bytes told =
    subst (λ k. IfErr result (IsFault m k)) bytes (subst (λ n. IfErr result (IsFault n k)) sizes told)

some-value : {V Z : Type 0} (Gives : List Z → V → Type 0) (v w : List ℕ → List Z) (out : V) (k : Option (List ℕ)) → ((bytes : List ℕ) → v bytes ≡ w bytes)
    → IfSome k (λ bytes. Gives (v bytes) out) → IfSome k (λ bytes. Gives (w bytes) out)
some-value Gives v w out None same told = tt
some-value Gives v w out (Some bytes) same told = subst (λ l. Gives l out) (same bytes) told

pub same-value : {V Z E : Type 0} {v w : List ℕ → List Z} {k l : Option (List ℕ)} (Gives : List Z → V → Type 0) (result : Result V E) → k ≡ l → ((bytes : List ℕ) → v bytes ≡ w bytes)
    → IfOk result (λ out. IfSome k (λ bytes. Gives (v bytes) out)) → IfOk result (λ out. IfSome l (λ bytes. Gives (w bytes) out))
same-value {v = v} {w = w} {k = k} Gives (Ok out) bytes same told = subst (λ k. IfSome k (λ bytes. Gives (w bytes) out)) bytes (some-value Gives v w out k same told)
same-value Gives (Err e) bytes same told = tt

pub on-err : {V E : Type 0} (result : Result V E) (P : Type 0) → P → OnErr result P
on-err (Ok x) P holds = tt
on-err (Err e) P holds = holds

pub if-not : {X : Type 0} (o : Option X) (met : Bool) (f g : X → Bool) → ((x : X) → not (f x) ≡ g x) → IfSome o (λ x. met ≡ f x) → IfSome o (λ x. not met ≡ g x)
if-not None met f g same told = tt
if-not (Some x) met f g same told = ap not told ∙ same x
