-- Where one text stands in another.
use Rattle.std.specs.Prelude.{◌≡◌, ◌↔◌, ℕ, Bool, true, ◌==◌, List, [], ◌∷◌, ◌++◌, length, drop, refl}
use Rattle.std.specs.Cmp.{both_ways}
use Rattle.std.specs.List.{starts_with}
use Rattle.std.specs.Str.Iter.{HasSubslice}
use Rattle.std.proofs.Common.{ap, arith, ⊎_elim}
use Rattle.std.proofs.lemmas.Bool.{or_left, or_right, or_cases}
use Rattle.std.proofs.lemmas.Bool.Decides.{Decides-eqb}
use Rattle.std.proofs.lemmas.Slice.Eq.{starts_is}
use Rattle.stream_functions.specs.Texts.{contains}

module _ (part : List ℕ) where
  at_front : (text : List ℕ) → starts_with ◌==◌ text part ≡ true → HasSubslice text part
  at_front text is = ([], drop (length part) text, (starts_is Decides-eqb text part _ refl).0 is)

  standing : (text : List ℕ) → contains part text ≡ true → HasSubslice text part
  unfolding contains
  standing [] is = at_front [] is
  standing (b ∷ text) is = ⊎_elim (at_front (b ∷ text)) (λ behind. let there = standing text behind in (b ∷ there.0, there.1, ap (λ l. b ∷ l) there.2))
      (or_cases (starts_with ◌==◌ (b ∷ text) part) (contains part text) is)

  stands : (text front back : List ℕ) → text ≡ front ++ (part ++ back) → contains part text ≡ true
  unfolding contains
  stands [] [] back e = (starts_is Decides-eqb [] part _ refl).1 back e
  stands [] (x ∷ front) back e = absurd (omega (arith, ap length e))
  stands (b ∷ text) [] back e = or_left (starts_with ◌==◌ (b ∷ text) part) (contains part text) ((starts_is Decides-eqb (b ∷ text) part _ refl).1 back e)
  stands (b ∷ text) (x ∷ front) back e = or_right (starts_with ◌==◌ (b ∷ text) part) (contains part text) (stands text front back (ap (drop 1) e))

  pub contained : (r : Bool) (text : List ℕ) → ((r ≡ true) ↔ HasSubslice text part) → r ≡ contains part text
  contained r text h = both_ways r (contains part text) (λ is. let there = h.0 is in stands text there.0 there.1 there.2) (λ is. h.1 (standing text is))
