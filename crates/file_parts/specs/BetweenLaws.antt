-- What holds of the lines that begin between two places.
use Rattle.std.specs.Prelude.{◌≡◌, ℕ, zero, suc, ◌+◌, ◌-◌, ◌<◌, ◌≤◌, ◌==◌, Bool, if◌then◌else◌, true, false, List, [], ◌∷◌, ◌++◌, length, take, drop, nat_lt, flat_map, map, refl}
use Rattle.std.proofs.Common.{ap, sym, subst, ◌∙◌, append-nil, arith}
use Rattle.std.proofs.lemmas.List.{map-append}
use Rattle.std.proofs.lemmas.List.Concat.{flat_map-append}
use Rattle.std.specs.Io.BufRead.{take_through, drop_through}
use Rattle.sources.specs.Lines.{text_lines, begin_line}
use Rattle.placed_containers.specs.Parts.{Joins}
use Rattle.file_parts.specs.Between.{from_line, before_line, bytes_between}

begin-append : (b : ℕ) (xs ys : List (List ℕ)) (line : List ℕ) (lines : List (List ℕ)) → xs ≡ line ∷ lines → begin_line b (xs ++ ys) ≡ begin_line b xs ++ ys
begin-append b [] ys line lines e = cc
begin-append b (x ∷ xs) ys line lines e = refl

-- bytes have a first line
first-line : (b : ℕ) (bs : List ℕ) → (line : List ℕ) × (lines : List (List ℕ)) × (text_lines (b ∷ bs) ≡ line ∷ lines)
first-line b bs =
    elim (b == 10) as (λ t. (line : List ℕ) × (lines : List (List ℕ)) × ((if t then [] ∷ text_lines bs else begin_line b (text_lines bs)) ≡ line ∷ lines)) [
      | true ↦ ([], text_lines bs, refl)
      | false ↦ elim (text_lines bs) as (λ ls. (line : List ℕ) × (lines : List (List ℕ)) × (begin_line b ls ≡ line ∷ lines)) [ [] ↦ (b ∷ [], [], refl) | l ∷ ls ↦ (b ∷ l, ls, refl) ]
    ]

-- a byte before a cut text; what is cut off at the begin is nothing only where all is
with-byte : (b : ℕ) (bs front back : List ℕ) → text_lines bs ≡ text_lines front ++ text_lines back → (front ≡ [] → back ≡ [])
    → text_lines (b ∷ bs) ≡ text_lines (b ∷ front) ++ text_lines back
with-byte b bs [] back cut none =
    let nothing : text_lines bs ≡ [] = cut ∙ ap text_lines (none refl) in
    let more = ap text_lines (none refl) in
    ap (λ ls. if b == 10 then [] ∷ ls else begin_line b ls) nothing ∙ sym (append-nil (text_lines (b ∷ []))) ∙ ap (λ ls. text_lines (b ∷ []) ++ ls) (sym more)
with-byte b bs (c ∷ front) back cut none =
    let some = first-line c front in
    let here = text_lines (c ∷ front) in
    elim (b == 10) as (λ t. (if t then [] ∷ text_lines bs else begin_line b (text_lines bs)) ≡ (if t then [] ∷ here else begin_line b here) ++ text_lines back) [
      | true ↦ ap (λ ls. [] ∷ ls) cut
      | false ↦ ap (begin_line b) cut ∙ begin-append b here (text_lines back) some.0 some.1 some.2
    ]

no-front : (bs : List ℕ) → take_through 10 bs ≡ [] → drop_through 10 bs ≡ []
no-front [] e = refl
no-front (b ∷ bs) e =
    (elim (b == 10) as (λ t. (if t then b ∷ [] else b ∷ take_through 10 bs) ≡ [] → (if t then bs else drop_through 10 bs) ≡ []) [ true ↦ λ e. cc | false ↦ λ e. cc ]) e

-- the first line, and those behind it
first-cut : (bs : List ℕ) → text_lines bs ≡ text_lines (take_through 10 bs) ++ text_lines (drop_through 10 bs)
first-cut [] = refl
first-cut (b ∷ bs) =
    let feed = λ (t : Bool). if t then [] ∷ text_lines bs else begin_line b (text_lines bs) in
    (elim (b == 10) as (λ t. b == 10 ≡ t → text_lines (b ∷ bs) ≡ text_lines (if t then b ∷ [] else b ∷ take_through 10 bs) ++ text_lines (if t then bs else drop_through 10 bs)) [
      | true ↦ λ e. ap feed e ∙ sym (ap (λ t. (if t then [] ∷ [] else begin_line b []) ++ text_lines bs) e)
      | false ↦ λ e. with-byte b bs (take_through 10 bs) (drop_through 10 bs) (first-cut bs) (no-front bs)
    ]) refl

no-lines : (p : ℕ) (bs : List ℕ) → before_line (suc p) bs ≡ [] → from_line (suc p) bs ≡ []
no-lines zero bs e = no-front bs e
no-lines (suc p) [] e = refl
no-lines (suc p) (b ∷ bs) e = cc

-- a text has the lines before a place and those from it on
pub lines-cut : (p : ℕ) (bs : List ℕ) → text_lines bs ≡ text_lines (before_line p bs) ++ text_lines (from_line p bs)
lines-cut zero bs = refl
lines-cut (suc zero) bs = first-cut bs
lines-cut (suc (suc p)) [] = refl
lines-cut (suc (suc p)) (b ∷ bs) = with-byte b bs (before_line (suc p) bs) (from_line (suc p) bs) (lines-cut (suc p) bs) (no-lines p bs)

through-cut : (bs : List ℕ) → bs ≡ take_through 10 bs ++ drop_through 10 bs
through-cut [] = refl
through-cut (b ∷ bs) =
    elim (b == 10) as (λ t. b ∷ bs ≡ (if t then b ∷ [] else b ∷ take_through 10 bs) ++ (if t then bs else drop_through 10 bs)) [ true ↦ refl | false ↦ ap (λ xs. b ∷ xs) (through-cut bs) ]

-- .. and its bytes
pub bytes-cut : (p : ℕ) (bs : List ℕ) → bs ≡ before_line p bs ++ from_line p bs
bytes-cut zero bs = refl
bytes-cut (suc zero) bs = through-cut bs
bytes-cut (suc (suc p)) [] = refl
bytes-cut (suc (suc p)) (b ∷ bs) = ap (λ xs. b ∷ xs) (bytes-cut (suc p) bs)

-- nothing stands behind the first line of the first line
none-behind : (bs : List ℕ) → drop_through 10 (take_through 10 bs) ≡ []
none-behind [] = refl
none-behind (b ∷ bs) =
    (elim (b == 10) as (λ t. b == 10 ≡ t → drop_through 10 (if t then b ∷ [] else b ∷ take_through 10 bs) ≡ []) [
      | true ↦ λ e. ap (λ t. if t then [] else []) e
      | false ↦ λ e. ap (λ t. if t then take_through 10 bs else drop_through 10 (take_through 10 bs)) e ∙ none-behind bs
    ]) refl

same-front : (bs : List ℕ) → take_through 10 (take_through 10 bs) ≡ take_through 10 bs
same-front [] = refl
same-front (b ∷ bs) =
    (elim (b == 10) as (λ t. b == 10 ≡ t → take_through 10 (if t then b ∷ [] else b ∷ take_through 10 bs) ≡ (if t then b ∷ [] else b ∷ take_through 10 bs)) [
      | true ↦ λ e. ap (λ t. if t then b ∷ [] else b ∷ []) e
      | false ↦ λ e. ap (λ t. if t then b ∷ [] else b ∷ take_through 10 (take_through 10 bs)) e ∙ ap (λ xs. b ∷ xs) (same-front bs)
    ]) refl

-- what is made of a text is that of both its parts, wherever it is cut: so is what is made of the text from an earlier place on
pub from-cut : {Y : Type 0} (f : List ℕ → List Y) → f [] ≡ [] → ((p : ℕ) (bs : List ℕ) → f bs ≡ f (before_line p bs) ++ f (from_line p bs))
    → (p q : ℕ) → p ≤ q → (bs : List ℕ) → f (from_line p bs) ≡ f (from_line p (before_line q bs)) ++ f (from_line q bs)
from-cut f nothing cut zero q h bs = cut q bs
from-cut f nothing cut (suc p) zero h bs = absurd (omega arith)
from-cut f nothing cut (suc zero) (suc zero) h bs =
    sym (ap (λ xs. f xs ++ f (drop_through 10 bs)) (none-behind bs) ∙ ap (λ ys. ys ++ f (drop_through 10 bs)) nothing)
from-cut f nothing cut (suc zero) (suc (suc q)) h [] = sym (ap (λ ys. ys ++ f []) nothing)
from-cut f nothing cut (suc zero) (suc (suc q)) h (b ∷ bs) =
    let later : suc zero ≤ suc q = omega arith in
    let behind = before_line (suc q) bs in
    elim (b == 10) as (λ t. f (if t then bs else drop_through 10 bs) ≡ f (if t then behind else drop_through 10 behind) ++ f (from_line (suc q) bs)) [
      | true ↦ cut (suc q) bs
      | false ↦ from-cut f nothing cut (suc zero) (suc q) later bs
    ]
from-cut f nothing cut (suc (suc p)) (suc zero) h bs = absurd (omega arith)
from-cut f nothing cut (suc (suc p)) (suc (suc q)) h [] = sym (ap (λ ys. ys ++ f []) nothing)
from-cut f nothing cut (suc (suc p)) (suc (suc q)) h (b ∷ bs) =
    let later : suc p ≤ suc q = omega arith in
    from-cut f nothing cut (suc p) (suc q) later bs

-- what stands before an earlier place stands there too in what is before a later one
before-before : (q r : ℕ) → q ≤ r → (bs : List ℕ) → before_line q (before_line r bs) ≡ before_line q bs
before-before zero r h bs = refl
before-before (suc q) zero h bs = absurd (omega arith)
before-before (suc zero) (suc zero) h bs = same-front bs
before-before (suc zero) (suc (suc r)) h [] = refl
before-before (suc zero) (suc (suc r)) h (b ∷ bs) =
    let later : suc zero ≤ suc r = omega arith in
    elim (b == 10) as (λ t. (if t then b ∷ [] else b ∷ take_through 10 (before_line (suc r) bs)) ≡ (if t then b ∷ [] else b ∷ take_through 10 bs)) [
      | true ↦ refl
      | false ↦ ap (λ xs. b ∷ xs) (before-before (suc zero) (suc r) later bs)
    ]
before-before (suc (suc q)) (suc zero) h bs = absurd (omega arith)
before-before (suc (suc q)) (suc (suc r)) h [] = refl
before-before (suc (suc q)) (suc (suc r)) h (b ∷ bs) =
    let later : suc q ≤ suc r = omega arith in
    ap (λ xs. b ∷ xs) (before-before (suc q) (suc r) later bs)

-- parts of a text have its lines, each once
pub lines_between-join : (bytes : List ℕ) → Joins (λ from to. text_lines (bytes_between from to bytes))
lines_between-join bytes p q r first second =
    let whole = before_line r bytes in
    ap (λ xs. text_lines (from_line p xs) ++ text_lines (from_line q whole)) (sym (before-before q r second bytes))
    ∙ sym (from-cut text_lines refl lines-cut p q first whole)

-- .. and so have what becomes of them
pub images-join : {X Y Z : Type 0} (image : X → Y) (expand : Y → List Z) (between : ℕ → ℕ → List X) → Joins between → Joins (λ from to. flat_map expand (map image (between from to)))
images-join image expand between joins p q r first second =
    sym (flat_map-append expand (map image (between p q)) (map image (between q r)))
    ∙ ap (flat_map expand) (sym (map-append image (between p q) (between q r)) ∙ ap (map image) (joins p q r first second))

before-all : (q : ℕ) (bs : List ℕ) → length bs ≤ q → before_line q bs ≡ bs
before-all zero [] h = refl
before-all zero (b ∷ bs) h = absurd (omega arith)
before-all (suc zero) [] h = refl
before-all (suc zero) (b ∷ []) h = elim (b == 10) as (λ t. (if t then b ∷ [] else b ∷ []) ≡ b ∷ []) [ true ↦ refl | false ↦ refl ]
before-all (suc zero) (b ∷ c ∷ bs) h = absurd (omega arith)
before-all (suc (suc q)) [] h = refl
before-all (suc (suc q)) (b ∷ bs) h =
    let shorter : length bs ≤ suc q = omega arith in
    ap (λ xs. b ∷ xs) (before-all (suc q) bs shorter)

-- between 0 and the end is all
pub bytes_between-all : (bytes : List ℕ) → bytes_between 0 (length bytes) bytes ≡ bytes
bytes_between-all bytes =
    let most : length bytes ≤ length bytes = omega arith in
    before-all (length bytes) bytes most
