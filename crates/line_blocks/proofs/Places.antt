-- Where bytes stop being text, of which a front was taken off in whole lines.
use Rattle.std.specs.Prelude.{◌≡◌, ◌⊎◌, ◌<◌, ◌≤◌, ◌+◌, ◌-◌, ℕ, List, [], ◌∷◌, ◌++◌, length, take, drop}
use Rattle.std.proofs.Common.{ap, sym, subst, ◌∙◌, append_assoc, append-nil, arith, length-append, ⊎_elim}
use Rattle.std.proofs.Math.ListN.{get_or}
use Rattle.std.proofs.Math.Seq.{take-append-add, take-append_seam, drop-append_seam, take-length, get_or-append_seam}
use Rattle.std.proofs.lemmas.Bool.{cases_lt}
use Rattle.std.proofs.lemmas.List.{take-append-le}
use Rattle.std.proofs.lemmas.Str.{IsUtf8-append, IsUtf8-take, IsUtf8-drop, IsCharBoundary-after_ascii, IsCharBoundary-from_take}
use Rattle.std.specs.Str.{IsUtf8, IsValidUpTo}
use Rattle.line_blocks.specs.Blocks.{EndsLine, IsBlock}
use Rattle.line_blocks.specs.Faults.{IsBehind}

-- what follows some text in a text is text
text-behind : (front more : List ℕ) → IsUtf8 front → IsUtf8 (front ++ more) → IsUtf8 more
text-behind front more text all =
    let within : length front ≤ length (front ++ more) = let e = length-append front more in omega (arith, e) in
    let at = IsCharBoundary-from_take (front ++ more) (length front) all within (subst IsUtf8 (sym (take-append_seam front more)) text) in
    subst IsUtf8 (drop-append_seam front more) (IsUtf8-drop (front ++ more) (length front) all at)

-- a text up to a line feed is text
text-before : (front more : List ℕ) → IsUtf8 ((front ++ 10 ∷ []) ++ more) → IsUtf8 (front ++ 10 ∷ [])
text-before front more all =
    let line = front ++ 10 ∷ [] in
    let size : length line ≡ length front + 1 = let e = length-append front (10 ∷ []) in omega (arith, e) in
    let within : length front < length (line ++ more) = let e = length-append line more in omega (arith, e, size) in
    let feed : get_or (line ++ more) (length front) 0 ≡ 10 = ap (λ l. get_or l (length front) 0) (append_assoc front (10 ∷ []) more) ∙ get_or-append_seam front 10 more 0 in
    let at = IsCharBoundary-after_ascii (line ++ more) (length front) all within (omega (arith, feed)) in
    subst IsUtf8 (ap (λ n. take n (line ++ more)) (sym size) ∙ take-append_seam line more) (IsUtf8-take (line ++ more) (length front + 1) all at)

module _ (block rest : List ℕ) (k : ℕ) (valid : IsValidUpTo block k) (ends : EndsLine block ⊎ (rest ≡ [])) where
  -- no longer front of a block and of what follows it is text
  no-longer : (n : ℕ) → k < n → ¬ (IsUtf8 (take n (block ++ rest)))
  no-longer n more text =
      ⊎_elim
      (λ past.
      ⊎_elim
      (λ line.
      let beyond : take n (block ++ rest) ≡ block ++ take (n - length block) rest =
      let e : n ≡ length block + (n - length block) = omega (arith, past) in ap (λ i. take i (block ++ rest)) e ∙ take-append-add block rest (n - length block) in
      let cut : IsUtf8 (line.0 ++ 10 ∷ []) = text-before line.0 (take (n - length block) rest) (subst (λ b. IsUtf8 (b ++ take (n - length block) rest)) line.1 (subst IsUtf8 beyond text)) in
      valid.longest (length block) valid.short (subst IsUtf8 (sym line.1 ∙ sym (take-length block)) cut))
      (λ none. valid.longest n more (subst (λ l. IsUtf8 (take n l)) (ap (λ r. block ++ r) none ∙ append-nil block) text))
      ends)
      (λ within. valid.longest n more (subst IsUtf8 (take-append-le n block rest within) text))
      (cases_lt (length block) n)

  -- the place within a block is one in all bytes
  valid-after : (front : List ℕ) → IsUtf8 front → IsValidUpTo (front ++ (block ++ rest)) (length front + k)
  valid-after front text = record {
    short = let e = length-append front (block ++ rest) in let f = length-append block rest in let s = valid.short in omega (arith, e, f, s);
    front =
        subst IsUtf8 (sym (take-append-add front (block ++ rest) k ∙ ap (λ l. front ++ l) (take-append-le k block rest (let s = valid.short in omega (arith, s)))))
        (IsUtf8-append front (take k block) text valid.front);
    longest = λ m more all.
        let n = m - length front in
        let e : m ≡ length front + n = omega (arith, more) in
        let same : take m (front ++ (block ++ rest)) ≡ front ++ take n (block ++ rest) = ap (λ i. take i (front ++ (block ++ rest))) e ∙ take-append-add front (block ++ rest) n in
        no-longer n (omega (arith, more)) (text-behind front (take n (block ++ rest)) text (subst IsUtf8 same all));
  }

pub valid-behind : (all left block rest : List ℕ) (place within at : ℕ) → IsBehind all left place → IsBlock left block rest → IsValidUpTo block within → at ≡ place + within
    → IsValidUpTo all at
valid-behind all left block rest place within at behind taken valid is =
    let bytes : all ≡ behind.front ++ (block ++ rest) = behind.bytes ∙ ap (λ l. behind.front ++ l) taken.bytes in
    let there : at ≡ length behind.front + within = is ∙ ap (λ n. n + within) behind.length_is in
    subst (λ l. IsValidUpTo l at) (sym bytes) (subst (λ n. IsValidUpTo (behind.front ++ (block ++ rest)) n) (sym there) (valid-after block rest within valid taken.ends behind.front behind.text))
