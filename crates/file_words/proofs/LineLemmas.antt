-- Cutting a file into lines.
use Rattle.std.proofs.Common.{◌≡◌, ◌==◌, ℕ, ◌+◌, ◌<◌, ◌≤◌, Bool, true, false, List, [], ◌∷◌, ◌++◌, length, take, drop, slice_index, get_or, All, le_refl, suc-le-suc, refl, subst, sym, ap, ◌∙◌, arith, add-one, ◌-◌, Some, None, Option, Err, ◌^◌, cond, eqb, map, w64, IsUtf8, IsSome, Result, Ok, not}
use Rattle.std.specs.List.{slice_split, join_with_byte}
use Rattle.std.proofs.lemmas.Bool.{false_from_ne_true, eqb-true, false≢true}
use Rattle.std.proofs.lemmas.List.{take-append-drop, drop-drop, take_all, length-take, get_or-take, get_or-drop, length-drop, get_or-map, length-map}
use Rattle.std.proofs.lemmas.List.Elements.{All-cons, All-from_get_or, All-head, All-tail}
use Rattle.std.{proofs.Math.Seq.drop-cons, proofs.lemmas.List.Sums.count_by-le-length, specs.Result.result_ok, specs.Borrow.Bor, specs.Str.IsCharBoundary, specs.Option.is_some, proofs.lemmas.Nat.Bits.bit_at-trailing_zeros, proofs.Math.ListN.get_or-eq_default, proofs.Math.Nat.pow-le-pow_right}
use Rattle.std.proofs.lemmas.List.Splits.{slice_split_none, slice_split_at, length-slice_split, join_with_byte-slice_split}
use Rattle.std.proofs.lemmas.Str.{IsUtf8-append, IsUtf8-drop, IsUtf8-encode, IsUtf8-nil, IsCharBoundary-before_ascii, IsCharBoundary-after_ascii, is_utf8-from_IsUtf8}
use Rattle.file_words.specs.{declared.fault.FileError.FileError, Pieces.IsTextOf, declared.fault.FileError.TheVariants.BadArity}
use Rattle.file_words.specs.Words.{lines_of, without_empty_last, words_of, words_left}
use Rattle.memchr.specs.Find.{Nowhere, NoneBefore, Passes, is_byte, IsFirstByte}
use Rattle.file_words.specs.WordReading.{ended, is_done}
use Rattle.std.specs.Int.{bit_at, trailing_zeros}
use Rattle.std.specs.Simd.Lanes.{chunk, mask_l}
use Rattle.std.proofs.lemmas.Simd.{bit_mask_l, mask_l-lt, get_or-chunk, length-chunk}

abbrev is_end : ℕ → Bool
is_end b = b == 10

clear_front : (byte : ℕ) (bytes : List ℕ) (n : ℕ) → n ≤ length bytes → Nowhere (Passes (is_byte byte) bytes) 0 n → All (λ b. (b == byte) ≡ false) (take n bytes)
clear_front byte bytes n within none =
    All-from_get_or (λ b. (b == byte) ≡ false) (take n bytes) 0
    (λ i l.
    let below : i < n = omega (arith, length-take n bytes) in
    ap (λ b. b == byte) (get_or-take n bytes i 0 below) ∙ false_from_ne_true _ (none i (omega arith) below))

-- no such byte
abbrev pub no_byte : ℕ → List ℕ → Type 0
no_byte byte bytes = Nowhere (Passes (is_byte byte) bytes) 0 (length bytes)

-- the first one
abbrev pub first_byte : ℕ → ℕ → List ℕ → Type 0
first_byte byte end bytes = NoneBefore (Passes (is_byte byte) bytes) 0 (length bytes) end × Passes (is_byte byte) bytes end

-- where no such byte is, one piece
uncut : (byte : ℕ) (bytes : List ℕ) → no_byte byte bytes → slice_split (λ b. b == byte) bytes ≡ bytes ∷ []
uncut byte bytes none = slice_split_none (λ b. b == byte) bytes (subst (All (λ b. (b == byte) ≡ false)) (take_all (length bytes) bytes (le_refl _)) (clear_front byte bytes (length bytes) (le_refl _) none))

-- the piece in front of the first one, and the others
cut_at : (byte : ℕ) (bytes : List ℕ) (end : ℕ) → first_byte byte end bytes → slice_split (λ b. b == byte) bytes ≡ take end bytes ∷ slice_split (λ b. b == byte) (drop (end + 1) bytes)
cut_at byte bytes end first =
    let parts : bytes ≡ take end bytes ++ slice_index bytes end ∷ drop (end + 1) bytes = sym (take-append-drop end bytes) ∙ ap (λ l. take end bytes ++ l) (drop-cons bytes end 0 first.0.high ∙ ap (λ n. slice_index bytes end ∷ drop n bytes) (sym (add-one end))) in
    ap (slice_split (λ b. b == byte)) parts
    ∙ slice_split_at (λ b. b == byte) (take end bytes) (slice_index bytes end) (drop (end + 1) bytes) (clear_front byte bytes end (omega (arith, first.0.high)) first.0.before) first.1

-- the same with what stands behind it
cut_behind : (byte : ℕ) (bytes behind rest : List ℕ) (end : ℕ) → first_byte byte end bytes → behind ≡ drop end bytes → rest ≡ drop 1 behind
    → slice_split (λ b. b == byte) bytes ≡ take end bytes ∷ slice_split (λ b. b == byte) rest
cut_behind byte bytes behind rest end first back left =
    let rest_left : drop (end + 1) bytes ≡ rest = sym (left ∙ ap (drop 1) back ∙ drop-drop 1 end bytes) in
    cut_at byte bytes end first ∙ ap (λ l. take end bytes ∷ slice_split (λ b. b == byte) l) rest_left

-- the last line, which nothing ends
pub line_alone : (bytes : List ℕ) → 0 < length bytes → no_byte 10 bytes → lines_of bytes ≡ bytes ∷ []
line_alone [] some none = absurd (omega arith)
line_alone (b ∷ bs) some none = ap without_empty_last (uncut 10 (b ∷ bs) none)

cut_first : (line : List ℕ) (pieces : List (List ℕ)) → 0 < length pieces → without_empty_last (line ∷ pieces) ≡ line ∷ without_empty_last pieces
cut_first line [] some = absurd (omega arith)
cut_first [] (piece ∷ pieces) some = refl
cut_first (b ∷ bs) (piece ∷ pieces) some = refl

-- the first line, and what stands behind its end
pub line_cut : (bytes line behind rest : List ℕ) (end : ℕ) → first_byte 10 end bytes → line ≡ take end bytes → behind ≡ drop end bytes → rest ≡ drop 1 behind → lines_of bytes ≡ line ∷ lines_of rest
line_cut bytes line behind rest end first front back left =
    ap without_empty_last (cut_behind 10 bytes behind rest end first back left)
    ∙ cut_first (take end bytes) (slice_split is_end rest) (omega (arith, length-slice_split is_end rest)) ∙ ap (λ l. l ∷ lines_of rest) (sym front)

-- the same of words and the spaces between them
pub word_alone : (line : List ℕ) → no_byte 32 line → words_of line ≡ line ∷ []
word_alone line none = uncut 32 line none

pub word_cut : (line word behind rest : List ℕ) (end : ℕ) → first_byte 32 end line → word ≡ take end line → behind ≡ drop end line → rest ≡ drop 1 behind → words_of line ≡ word ∷ words_of rest
word_cut line word behind rest end first front back left = cut_behind 32 line behind rest end first back left ∙ ap (λ w. w ∷ words_of rest) (sym front)

plus_zero : (n : ℕ) → n + 0 ≡ n
plus_zero n = omega arith

-- a text may be cut behind the first such byte
pub cut_is_boundary : (byte : ℕ) (bytes behind : List ℕ) (end : ℕ) → byte < 128 → IsUtf8 bytes → first_byte byte end bytes → behind ≡ drop end bytes → IsCharBoundary behind 1
cut_is_boundary byte bytes behind end ascii text first back =
    let at : slice_index bytes end ≡ byte = eqb-true _ _ first.1 in
    let rest : IsUtf8 behind = subst IsUtf8 (sym back) (IsUtf8-drop bytes end text (IsCharBoundary-before_ascii bytes end first.0.high (omega (arith, at)))) in
    let some : 0 < length behind = omega (arith, first.0.high, ap length back, length-drop end bytes) in
    let head : get_or behind 0 0 ≡ get_or bytes (end + 0) 0 = ap (λ l. get_or l 0 0) back ∙ get_or-drop end bytes 0 0 in
    IsCharBoundary-after_ascii behind 0 rest some (omega (arith, head ∙ ap (λ n. get_or bytes n 0) (plus_zero end), at))

-- a file has no more lines than bytes, and one
fewer : (pieces : List (List ℕ)) → length (without_empty_last pieces) ≤ length pieces
fewer [] = le_refl 0
fewer ([] ∷ []) = omega arith
fewer ((b ∷ bs) ∷ []) = le_refl 1
fewer (piece ∷ next ∷ pieces) = suc-le-suc (fewer (next ∷ pieces))

pub line_count : (bytes : List ℕ) → length (lines_of bytes) ≤ length bytes + 1
line_count bytes = omega (arith, fewer (slice_split is_end bytes), length-slice_split is_end bytes, count_by-le-length is_end bytes)

line_end : IsUtf8 (10 ∷ [])
unfolding lib.Utf8.encode
line_end = IsUtf8-encode 10 refl

-- where each line is text, so is the file
joined : (pieces : List (List ℕ)) → All IsUtf8 pieces → IsUtf8 (join_with_byte 10 pieces)
joined [] texts = IsUtf8-nil
joined (piece ∷ []) texts = All-head IsUtf8 piece [] texts
joined (piece ∷ next ∷ pieces) texts =
    let behind : List ℕ = join_with_byte 10 (next ∷ pieces) in
    let rest : IsUtf8 behind = joined (next ∷ pieces) (All-tail IsUtf8 piece (next ∷ pieces) texts) in
    IsUtf8-append piece (10 ∷ behind) (All-head IsUtf8 piece (next ∷ pieces) texts) (IsUtf8-append (10 ∷ []) behind line_end rest)

all_pieces : (pieces : List (List ℕ)) → All IsUtf8 (without_empty_last pieces) → All IsUtf8 pieces
all_pieces [] texts = texts
all_pieces ([] ∷ []) texts = All-cons IsUtf8 [] [] IsUtf8-nil texts
all_pieces ((b ∷ bs) ∷ []) texts = texts
all_pieces (piece ∷ next ∷ pieces) texts =
    let kept : List (List ℕ) = without_empty_last (next ∷ pieces) in
    All-cons IsUtf8 piece (next ∷ pieces) (All-head IsUtf8 piece kept texts) (all_pieces (next ∷ pieces) (All-tail IsUtf8 piece kept texts))

file_is_text : (bytes : List ℕ) → All IsUtf8 (lines_of bytes) → IsUtf8 bytes
file_is_text bytes texts = subst IsUtf8 (join_with_byte-slice_split 10 bytes) (joined (slice_split is_end bytes) (all_pieces (slice_split is_end bytes) texts))

-- so it is given as one
pub given_as_text : (bytes : List ℕ) (result : Result (Bor (List ℕ)) FileError) → All IsUtf8 (lines_of bytes) → IsTextOf bytes result → IsSome (result_ok result)
given_as_text bytes (Ok text) texts told = refl
given_as_text bytes (Err e) texts told = absurd (let e : true ≡ false = sym (is_utf8-from_IsUtf8 bytes (file_is_text bytes texts)) ∙ told.1 in cc)

-- The words of a line, cut one by one.

-- each line has a word
pub some_word : (line : List ℕ) → (word : List ℕ) × (words : List (List ℕ)) × (words_of line ≡ word ∷ words)
some_word line = by_words (words_of line) refl (omega (arith, length-slice_split (λ b. b == 32) line))
  where
    by_words : (ws : List (List ℕ)) → words_of line ≡ ws → 0 < length ws → (word : List ℕ) × (words : List (List ℕ)) × (words_of line ≡ word ∷ words)
    by_words [] e some = absurd (omega arith)
    by_words (w ∷ ws) e some = (w, ws, e)

-- what tells that no word is left
pub is_empty : (left : Option (Bor (List ℕ))) (t : Bool) → is_some left ≡ not t → t ≡ is_done (words_left left)
is_empty None true is = refl
is_empty None false is = cc
is_empty (Some line) true is = cc
is_empty (Some line) false is = sym (ap is_done (some_word line.now).2)

pub left_over : (left : Option (Bor (List ℕ))) (good : Bool) → is_some left ≡ true → Err BadArity ≡ ended (words_left left) good
left_over None good is = cc
left_over (Some line) good is = sym (ap (λ ws. ended ws good) (some_word line.now).2)

-- Where a byte stands first among those that are compared at once.

set_tells : (b : Bool) → cond {A = ℕ} b 1 0 ≡ 1 → b ≡ true
set_tells true is = refl
set_tells false is = absurd (omega (arith, is))

clear_tells : (b : Bool) → cond {A = ℕ} b 1 0 ≡ 0 → b ≡ false
clear_tells true is = absurd (omega (arith, is))
clear_tells false is = refl

inside_of_set : (marks : List Bool) (k : ℕ) → get_or marks k false ≡ true → k < length marks
inside_of_set marks k set = grind (arith, get_or-eq_default)

module _ (n byte : ℕ) (bytes : List ℕ) (mask : ℕ) (few : n ≤ 32) (room : n ≤ length bytes) (is : mask ≡ mask_l (map (λ b. eqb b byte) (chunk 0 n bytes))) (some : 0 < mask) where
  abbrev lanes : List Bool
  lanes = map (λ b. eqb b byte) (chunk 0 n bytes)

  long : length (chunk 0 n bytes) ≡ n
  long = length-chunk 0 n bytes (omega (arith, room))

  all : length lanes ≡ n
  all = length-map (chunk 0 n bytes) (λ b. eqb b byte) ∙ long

  fits : mask < 2 ^ 64
  fits = let low : mask_l lanes < 2 ^ n = subst (λ k. mask_l lanes < 2 ^ k) all (mask_l-lt lanes) in let most : 2 ^ n ≤ 2 ^ 32 = pow-le-pow_right (omega arith) few in omega (arith, is, low, most)

  bit : (k : ℕ) → bit_at mask k ≡ cond (get_or lanes k false) 1 0
  bit k = ap (λ m. bit_at m k) is ∙ bit_mask_l lanes k

  lane : (k : ℕ) → k < n → get_or lanes k false ≡ eqb (get_or bytes k 0) byte
  lane k less =
      let first : 0 + k ≡ k = omega arith in
      get_or-map (λ b. eqb b byte) (chunk 0 n bytes) k 0 false (omega (arith, long, less))
      ∙ ap (λ b. eqb b byte) (get_or-chunk 0 n bytes k 0 less ∙ ap (λ j. get_or bytes j 0) first)

  pub near_found : IsFirstByte (is_byte byte) bytes (Some (trailing_zeros w64 mask))
  near_found =
      let lowest = bit_at-trailing_zeros w64 mask some fits in
      let at : ℕ = trailing_zeros w64 mask in
      let set : get_or lanes at false ≡ true = set_tells _ (sym (bit at) ∙ lowest.1) in
      let less : at < n = omega (arith, inside_of_set lanes at set, all) in (
        record {
          low = omega arith;
          high = omega (arith, less, room);
          before = λ k low before is. false≢true (sym (sym (lane k (omega (arith, before, less))) ∙ clear_tells _ (sym (bit k) ∙ lowest.2 k before)) ∙ is);
        },
        sym (lane at less) ∙ set,
      )
