-- Maps that refuse a repeated key: the entries before the first repeat, in their order, and the key that came again, if any.
use Rattle.std.specs.Prelude.{◌≡◌, Bool, true, cond, List, [], ◌∷◌, ◌++◌, fold, map, Option, Some, None}
use Rattle.std.specs.Option.{option_or}
use Rattle.std.specs.List.{list_any}
use Rattle.stages.specs.Distinct.{AllApart}

-- whether an entry has key k
abbrev pub has_key : {K C : Type 0} → (K → K → Bool) → K → List (K × C) → Bool
has_key same k es = list_any (λ e. same k e.0) es

-- A new entry goes last. One whose key is there is the repeat, and after a repeat nothing changes.
abbrev pub strict_put : {K C : Type 0} → (K → K → Bool) → List (K × C) → Option K → K × C → List (K × C) × Option K
strict_put same es (Some k) e = (es, Some k)
strict_put same es None e = cond (has_key same e.0 es) (es, Some e.0) (es ++ e ∷ [], None)

-- an item is put under its key
abbrev pub strict_add : {X K C : Type 0} → (K → K → Bool) → (X → K) → (X → C) → List (K × C) × Option K → X → List (K × C) × Option K
strict_add same key value s x = strict_put same s.0 s.1 (key x, value x)

-- The entries of the right side are put behind those of the left side. The right side's own repeat came after all of them.
abbrev pub strict_merge : {K C : Type 0} → (K → K → Bool) → List (K × C) × Option K → List (K × C) × Option K → List (K × C) × Option K
strict_merge same s t =
    let put = fold (λ u e. strict_put same u.0 u.1 e) s t.0 in
    (put.0, option_or put.1 t.1)

-- Key k is that of the earliest place whose key came before. Which of the duplicates is told is this library's own.
abbrev pub IsFirstRepeat : {K : Type 0} → (K → K → Bool) → List K → K → Type 0
IsFirstRepeat same ks k = (front : List _) × (back : List _) × (ks ≡ front ++ k ∷ back) × AllApart same front × (list_any (same k) front ≡ true)

-- No key repeats, and each item has its entry, in the order of the items. java.util.stream.Collectors, toMap by two functions.
abbrev pub IsStrictMap : {X K C : Type 0} → (K → K → Bool) → (X → K) → (X → C) → List X → List (K × C) → Type 0
IsStrictMap same key value l es = AllApart same (map key l) × (es ≡ map (λ x. (key x, value x)) l)
