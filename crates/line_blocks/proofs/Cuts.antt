-- Blocks of known bytes, and what they become.
use Rattle.std.specs.Prelude.{◌≡◌, ◌⊎◌, ℕ, ◌==◌, if◌then◌else◌, true, false, List, [], ◌∷◌, ◌++◌, Option, Some, None, refl}
use Rattle.std.proofs.Common.{ap, sym, subst, ◌∙◌, append_assoc, append-nil, inl, inr, ⊎_elim}
use Rattle.std.specs.Io.KnownBytes.{Keeps, Consumes, IsAtEnd, prepend_known}
use Rattle.sources.specs.Lines.{text_lines, begin_line}
use Rattle.line_blocks.specs.Blocks.{IsBlock, TakesBlock, EndsLine, IsFolded}

begin-append : (b : ℕ) (xs ys : List (List ℕ)) (line : List ℕ) (lines : List (List ℕ)) → xs ≡ line ∷ lines → begin_line b (xs ++ ys) ≡ begin_line b xs ++ ys
begin-append b [] ys line lines e = cc
begin-append b (x ∷ xs) ys line lines e = refl

-- a text that ends with a line feed has a first line
first-line : (front : List ℕ) → (line : List ℕ) × (lines : List (List ℕ)) × (text_lines (front ++ 10 ∷ []) ≡ line ∷ lines)
first-line [] = ([], [], refl)
first-line (b ∷ front) =
    let more = first-line front in
    elim (b == 10) as (λ t. (line : List ℕ) × (lines : List (List ℕ)) × ((if t then [] ∷ text_lines (front ++ 10 ∷ []) else begin_line b (text_lines (front ++ 10 ∷ []))) ≡ line ∷ lines)) [
      | true ↦ ([], text_lines (front ++ 10 ∷ []), refl)
      | false ↦ (b ∷ more.0, more.1, ap (begin_line b) more.2)
    ]

-- behind a line feed the lines of a text begin anew
pub lines-behind : (front more : List ℕ) → text_lines ((front ++ 10 ∷ []) ++ more) ≡ text_lines (front ++ 10 ∷ []) ++ text_lines more
lines-behind [] more = refl
lines-behind (b ∷ front) more =
    let rest = lines-behind front more in
    let first = first-line front in
    let here = text_lines (front ++ 10 ∷ []) in
    elim (b == 10) as (λ t. (if t then [] ∷ text_lines ((front ++ 10 ∷ []) ++ more) else begin_line b (text_lines ((front ++ 10 ∷ []) ++ more))) ≡ (if t then [] ∷ here else begin_line b here) ++ text_lines more) [
      | true ↦ ap (λ xs. [] ∷ xs) rest
      | false ↦ ap (begin_line b) rest ∙ begin-append b here (text_lines more) first.0 first.1 first.2
    ]

pub keeps-self : (known : Option (List ℕ)) → Keeps known known
keeps-self None = tt
keeps-self (Some xs) = refl

pub keeps-both : (old now new : Option (List ℕ)) → Keeps old now → Keeps now new → Keeps old new
keeps-both None now new first second = tt
keeps-both (Some xs) None new first second = absurd first
keeps-both (Some xs) (Some ys) None first second = absurd second
keeps-both (Some xs) (Some ys) (Some zs) first second = second ∙ first

-- some bytes were read behind those that were there
pub keeps-more : (old : Option (List ℕ)) (bytes chunk : List ℕ) (known left : Option (List ℕ)) → Keeps old (prepend_known bytes known) → Consumes known left chunk
    → Keeps old (prepend_known (bytes ++ chunk) left)
keeps-more None bytes chunk known left kept read = tt
keeps-more (Some xs) bytes chunk None left kept read = absurd kept
keeps-more (Some xs) bytes chunk (Some ys) None kept read = absurd read
keeps-more (Some xs) bytes chunk (Some ys) (Some zs) kept read = append_assoc bytes chunk zs ∙ ap (λ l. bytes ++ l) (sym read) ∙ kept

-- a block is what stands up to a line feed
pub takes-cut : (old known : Option (List ℕ)) (bytes block rest : List ℕ) → Keeps old (prepend_known bytes known) → bytes ≡ block ++ rest → EndsLine block
    → TakesBlock old block (prepend_known rest known)
takes-cut None known bytes block rest kept cut ends = tt
takes-cut (Some xs) None bytes block rest kept cut ends = absurd kept
takes-cut (Some xs) (Some ys) bytes block rest kept cut ends =
    record { bytes = sym kept ∙ ap (λ l. l ++ ys) cut ∙ append_assoc block rest ys; ends = inl ends }

-- the last one is all that is left
pub takes-last : (old known : Option (List ℕ)) (bytes rest : List ℕ) → Keeps old (prepend_known bytes known) → IsAtEnd known → rest ≡ []
    → TakesBlock old bytes (prepend_known rest known)
takes-last None known bytes rest kept end none = tt
takes-last (Some xs) None bytes rest kept end none = absurd kept
takes-last (Some xs) (Some ys) bytes rest kept end none =
    let nothing : rest ++ ys ≡ [] = ap (λ r. r ++ ys) none ∙ end in
    record { bytes = sym kept ∙ ap (λ l. bytes ++ l) (end ∙ sym nothing); ends = inr nothing }

-- the lines of all are those of the block, and of what is left
pub block-lines : (all block rest : List ℕ) → IsBlock all block rest → text_lines all ≡ text_lines block ++ text_lines rest
block-lines all block rest is =
    ap text_lines is.bytes
    ∙ ⊎_elim
    (λ line.
    subst (λ b. text_lines (b ++ rest) ≡ text_lines b ++ text_lines rest) (sym line.1) (lines-behind line.0 rest))
    (λ none.
    ap (λ r. text_lines (block ++ r)) none
    ∙ ap text_lines (append-nil block)
    ∙ sym (append-nil (text_lines block))
    ∙ ap (λ r. text_lines block ++ text_lines r) (sym none))
    is.ends

-- and then nothing is left
pub end-rest : (known : Option (List ℕ)) (rest : List ℕ) → IsAtEnd known → rest ≡ [] → IsAtEnd (prepend_known rest known)
end-rest None rest end none = tt
end-rest (Some ys) rest end none = ap (λ r. r ++ ys) none ∙ end

module _ {C : Type 0} (made : List (List ℕ) → C → Type 0) where
  -- nothing was read yet
  pub folded-none : (all left : Option (List ℕ)) (acc : C) → left ≡ all → made [] acc → IsFolded made all acc left
  folded-none None left acc same is = tt
  folded-none (Some xs) None acc same is = absurd (none-some same)
    where
      none-some : ◌≡◌ {A = Option (List ℕ)} None (Some xs) → ⊥
      none-some h = cc
  folded-none (Some xs) (Some ys) acc same is = ([], is, ap text_lines (sym (some-same same)))
    where
      some-same : Some ys ≡ Some xs → ys ≡ xs
      some-same h = cc

  -- one more block was taken in
  pub folded-more : (all left after : Option (List ℕ)) (acc next : C) (block : List ℕ) → IsFolded made all acc left → TakesBlock left block after
      → ((l : List (List ℕ)) → made l acc → made (l ++ text_lines block) next) → IsFolded made all next after
  folded-more None left after acc next block so_far taken step = tt
  folded-more (Some xs) None after acc next block so_far taken step = absurd so_far
  folded-more (Some xs) (Some ys) None acc next block so_far taken step = absurd taken
  folded-more (Some xs) (Some ys) (Some zs) acc next block so_far taken step = (
    so_far.0 ++ text_lines block,
    step so_far.0 so_far.1,
    so_far.2 ∙ ap (λ l. so_far.0 ++ l) (block-lines ys block zs taken) ∙ sym (append_assoc so_far.0 (text_lines block) (text_lines zs)),
  )

  -- all was
  pub folded-all : (xs : List ℕ) (left : Option (List ℕ)) (acc : C) → IsFolded made (Some xs) acc left → IsAtEnd left → made (text_lines xs) acc
  folded-all xs None acc so_far end = absurd so_far
  folded-all xs (Some ys) acc so_far end =
      subst (λ l. made l acc) (sym (so_far.2 ∙ ap (λ l. so_far.0 ++ text_lines l) end ∙ append-nil so_far.0)) so_far.1

-- what a container gives that is enough, it gives whatever is left
pub folded-enough : {C O : Type 0} (made : List (List ℕ) → C → Type 0) (gives : List (List ℕ) → O → Type 0) (xs : List ℕ) (left : Option (List ℕ)) (acc : C) (out : O)
    → IsFolded made (Some xs) acc left → ((l more : List (List ℕ)) → made l acc → (out : O) → gives l out → gives (l ++ more) out)
    → ((l : List (List ℕ)) → made l acc → gives l out) → gives (text_lines xs) out
folded-enough made gives xs None acc out so_far enough finished = absurd so_far
folded-enough {C} {O} made gives xs (Some ys) acc out so_far enough finished =
    subst (λ (l : List (List ℕ)). gives l out) (sym so_far.2) (enough so_far.0 (text_lines ys) so_far.1 out (finished so_far.0 so_far.1))
