-- Where lines begin, and what a reader gives from there on.
use Rattle.std.specs.Prelude.{◌≡◌, ℕ, zero, suc, ◌+◌, ◌-◌, ◌<◌, ◌≤◌, ◌==◌, Bool, if◌then◌else◌, true, false, List, [], ◌∷◌, ◌++◌, length, take, drop, Option, Some, None, IfSome, refl}
use Rattle.std.proofs.Common.{ap, sym, subst, ◌∙◌, append-nil, arith}
use Rattle.std.specs.Option.{option_map}
use Rattle.std.proofs.lemmas.List.{length-append, length-drop, take_all}
use Rattle.std.proofs.Math.Seq.{take-append_seam}
use Rattle.std.specs.Io.BufRead.{take_through, drop_through}
use Rattle.file_parts.specs.Between.{IsLineBegin, from_line, before_line, bytes_between}
use Rattle.file_parts.specs.BetweenLaws.{bytes-cut, from-cut}

through-taken : (bs : List ℕ) → take (length (take_through 10 bs)) bs ≡ take_through 10 bs
through-taken [] = refl
through-taken (b ∷ bs) =
    elim (b == 10) as (λ t. take (length (if t then b ∷ [] else b ∷ take_through 10 bs)) (b ∷ bs) ≡ (if t then b ∷ [] else b ∷ take_through 10 bs)) [ true ↦ refl | false ↦ ap (λ xs. b ∷ xs) (through-taken bs) ]

through-dropped : (bs : List ℕ) → drop (length (take_through 10 bs)) bs ≡ drop_through 10 bs
through-dropped [] = refl
through-dropped (b ∷ bs) =
    elim (b == 10) as (λ t. drop (length (if t then b ∷ [] else b ∷ take_through 10 bs)) (b ∷ bs) ≡ (if t then bs else drop_through 10 bs)) [ true ↦ refl | false ↦ through-dropped bs ]

take-none : (n : ℕ) → take {A = ℕ} n [] ≡ []
take-none zero = refl
take-none (suc n) = refl

drop-none : (n : ℕ) → drop {A = ℕ} n [] ≡ []
drop-none zero = refl
drop-none (suc n) = refl

taken-on : (p n : ℕ) (bs : List ℕ) → take (p + n) bs ≡ take p bs ++ take n (drop p bs)
taken-on zero n bs =
    let e : 0 + n ≡ n = omega arith in
    ap (λ k. take k bs) e
taken-on (suc p) n [] = take-none (suc p + n) ∙ sym (take-none n)
taken-on (suc p) n (b ∷ bs) =
    let e : suc p + n ≡ suc (p + n) = omega arith in
    ap (λ k. take k (b ∷ bs)) e ∙ ap (λ xs. b ∷ xs) (taken-on p n bs)

dropped-on : (p n : ℕ) (bs : List ℕ) → drop (p + n) bs ≡ drop n (drop p bs)
dropped-on zero n bs =
    let e : 0 + n ≡ n = omega arith in
    ap (λ k. drop k bs) e
dropped-on (suc p) n [] = drop-none (suc p + n) ∙ sym (drop-none n)
dropped-on (suc p) n (b ∷ bs) =
    let e : suc p + n ≡ suc (p + n) = omega arith in
    ap (λ k. drop k (b ∷ bs)) e ∙ dropped-on p n bs

-- a line begins where the one ends in which the byte before the place stands
pub found-behind : (before count : ℕ) (all : List ℕ) → count ≡ length (take_through 10 (drop before all)) → IsLineBegin (suc before) all (before + count)
found-behind before count all e =
    let rest = drop before all in
    record {
      before = taken-on before count all ∙ ap (λ n. take before all ++ take n rest) e ∙ ap (λ xs. take before all ++ xs) (through-taken rest);
      on = dropped-on before count all ∙ ap (λ n. drop n rest) e ∙ through-dropped rest;
    }

-- so many of these are taken that no more than the first are left, or none stand behind them
part-taken : (part rest : List ℕ) (n a b : ℕ) → n - a ≡ length part + length rest → n - b ≡ length rest → take (b - a) (part ++ rest) ≡ part
part-taken part [] n a b whole behind =
    let most : length part ≤ b - a = omega arith in
    ap (take (b - a)) (append-nil part) ∙ take_all (b - a) part most
part-taken part (c ∷ rest) n a b whole behind =
    let exact : b - a ≡ length part = omega arith in
    ap (λ k. take k (part ++ c ∷ rest)) exact ∙ take-append_seam part (c ∷ rest)

-- what stands between two found places
pub between-found : (p q a b : ℕ) (all : List ℕ) → p ≤ q → IsLineBegin p all a → IsLineBegin q all b → take (b - a) (drop a all) ≡ bytes_between p q all
between-found p q a b all h first second =
    let part = bytes_between p q all in
    let rest = from_line q all in
    let cut = first.on ∙ from-cut (λ xs. xs) refl bytes-cut p q h all in
    let all_length = sym (length-drop a all) ∙ ap length cut ∙ length-append part rest in
    let rest_length = sym (length-drop b all) ∙ ap length second.on in
    ap (take (b - a)) cut ∙ part-taken part rest (length all) a b all_length rest_length

pub found-known : (known left : Option (List ℕ)) (place before count found : ℕ) → IfSome known (λ all. left ≡ Some (drop before all)) → IfSome left (λ xs. count ≡ length (take_through 10 xs))
    → place ≡ suc before → found ≡ before + count → IfSome known (λ all. IsLineBegin place all found)
found-known None left place before count found reads counts is_place is_found = tt
found-known (Some all) left place before count found reads counts is_place is_found =
    let count_is = subst (λ l. IfSome l (λ xs. count ≡ length (take_through 10 xs))) reads counts in
    subst (λ p. IsLineBegin p all found) (sym is_place) (subst (λ f. IsLineBegin (suc before) all f) (sym is_found) (found-behind before count all count_is))

pub between-known : (known left : Option (List ℕ)) (p q a b limit : ℕ) → p ≤ q → IfSome known (λ all. IsLineBegin p all a) → IfSome known (λ all. IsLineBegin q all b)
    → IfSome known (λ all. left ≡ Some (drop a all)) → limit ≡ b - a → IfSome known (λ all. option_map (take limit) left ≡ Some (bytes_between p q all))
between-known None left p q a b limit h first second reads most = tt
between-known (Some all) left p q a b limit h first second reads most =
    ap (λ n. option_map (take n) left) most ∙ ap (option_map (take (b - a))) reads ∙ ap Some (between-found p q a b all h first second)
