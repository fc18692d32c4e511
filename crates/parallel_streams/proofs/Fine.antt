-- Sources that split finely, and how much is read of them.
use Rattle.std.specs.Prelude.{◌≡◌, ◌≤◌, ◌+◌, ℕ, true, false, List, [], ◌∷◌, ◌++◌, Option, Some, length, refl}
use Rattle.std.proofs.Common.{sym, ap, ◌∙◌, arith}
use Rattle.std.proofs.lemmas.List.{length-append}
use Rattle.spliterator.specs.Spliterator.{IsPartition}
use Rattle.parallel_streams.specs.Reading.{Each, HasRead, HasReadFrom, SplitsFinely}

module _ {X : Type 0} (P : X → Type 0) where
  pub Each-push : (xs : List X) (x : X) → Each P xs → P x → Each P (xs ++ x ∷ [])
  Each-push [] x all one = (one, tt)
  Each-push (y ∷ xs) x all one = (all.0, Each-push xs x all.1 one)

  pub Each-last : (xs : List X) (x : X) → Each P (xs ++ x ∷ []) → Each P xs × P x
  Each-last [] x all = (tt, all.0)
  Each-last (y ∷ xs) x all = let rest = Each-last xs x all.1 in ((all.0, rest.0), rest.1)

module _ {S C : Type 0} (items : S → List C) (weight estimate told : S → ℕ) (gives : S → Option S → S → Type 0) where
  -- both sides of a split split finely
  pub fine-split : (s part rest : S) → SplitsFinely estimate told gives s → gives s (Some part) rest → IsPartition items weight estimate told s part rest
      → SplitsFinely estimate told gives part × SplitsFinely estimate told gives rest
  fine-split s part rest fine given split =
      let both = split.subsized fine.subsized in (
        record {
          sized = both.part_sized;
          subsized = both.part_subsized;
          splits = λ path t left by none. fine.splits (true ∷ path) t left (part, rest, given, by) none;
        },
        record {
          sized = both.rest_sized;
          subsized = both.rest_subsized;
          splits = λ path t left by none. fine.splits (false ∷ path) t left (part, rest, given, by) none;
        },
      )

module _ {S C : Type 0} (fine : S → Type 0) (source : S) (items : List C) (segment unread : List C) (rest : List S) (told : Option ℕ) where
  -- the next one stands behind what was read
  pub reads-next : (unread_old : List C) (rest_old : List S) (told_old : Option ℕ) (n : ℕ) → HasRead fine source items unread_old rest_old told_old n → segment ++ unread ≡ unread_old
      → (fine source → (told ≡ Some (n + length segment)) × Each fine rest) → HasReadFrom fine source items segment unread rest told n (n + length segment)
  reads-next unread_old rest_old told_old n read joins tells =
      let at = read.0 in
      ((at.0, at.1 ∙ ap (λ l. at.0 ++ l) (sym joins), at.2, refl), tells)

  -- so many fit a number of the machine
  pub reads-within : (unread_old : List C) (rest_old : List S) (told_old : Option ℕ) (n : ℕ) → HasRead fine source items unread_old rest_old told_old n → segment ++ unread ≡ unread_old
      → n + length segment ≤ length items
  reads-within unread_old rest_old told_old n read joins =
      let at = read.0 in
      let whole : length items ≡ length at.0 + length unread_old = ap length at.1 ∙ length-append at.0 unread_old in
      let parts : length segment + length unread ≡ length unread_old = sym (length-append segment unread) ∙ ap length joins in
      let done = at.2 in
      omega (arith, whole, parts, done)
