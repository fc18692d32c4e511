-- A container that holds an error is decided.
use Rattle.std.specs.Prelude.{◌≡◌, ◌≤◌, ◌++◌, ◌∷◌, true, cond, List, All, Result, Ok, Err, count_by, fold, map}
use Rattle.std.specs.Result.{is_err, result_map_both}
use Rattle.std.proofs.Common.{sym, subst, arith, true≢false}
use Rattle.std.proofs.lemmas.List.Sums.{sum_by-cons, sum_by-append}
use Rattle.derived_collectors.specs.Tried.{try_add, IsTried, has_failed}
use Rattle.derived_collectors.specs.TriedLaws.{is_item, err_of}
use Rattle.derived_collectors.specs.Decided.{decided-tried}

counted : {X E : Type 0} (front rest : List (Result X E)) (e : E) → 1 ≤ count_by (has_failed {X = X} {E = E}) (front ++ Err e ∷ rest)
counted {X} {E} front rest e =
    let one = λ (i : Result X E). cond (has_failed i) 1 0 in
    let all = sum_by-append one front (Err e ∷ rest) in
    let here = sum_by-cons one (Err e) rest in
    omega (arith, all, here)

module _ {X E A B F O : Type 0} (add : A → X → A) (is_value : X → Type 0) (is_error : E → Type 0) (empty : A) (content : B → A) (error : F → E) (Gives : List X → O → Type 0) where
  pub decided-held : (acc : Result B F) → is_err acc ≡ true → (l more : List (Result X E)) → All (is_item is_value is_error) l
      → result_map_both content error acc ≡ fold (try_add add) (Ok empty) l → (out : Result O F) → IsTried Gives error l out → IsTried Gives error (l ++ more) out
  decided-held (Ok b) h l more v made out told = absurd (true≢false (sym h))
  decided-held (Err f) h l more v made out told =
      let first = err_of add is_value is_error empty l (error f) made in
      let enough = subst (λ (l : List (Result X E)). 1 ≤ count_by (has_failed {X = X} {E = E}) l) (sym first.2) (counted (map {A = X} {B = Result X E} (λ x. Ok x) first.0) first.1 (error f)) in
      decided-tried Gives error l more out enough told
