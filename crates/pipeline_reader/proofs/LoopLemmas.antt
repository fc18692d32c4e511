-- The loops over the lines of a file: what was read, and what is left.
use Rattle.std.proofs.Common.{◌≡◌, ℕ, zero, suc, ◌+◌, ◌-◌, ◌<◌, true, List, [], ◌∷◌, ◌++◌, drop, map, Result, Ok, Err, refl, sym, ap, subst, ◌∙◌, arith}
use Rattle.std.{specs.Str.is_utf8, proofs.lemmas.Bool.cond-true, proofs.lemmas.List.map-append}
use Rattle.file_words.specs.{WordReading.◌>>=◌, declared.fault.FileFault.FileFault, declared.fault.ReadError.ReadError}
use Rattle.file_words.specs.declared.fault.FileError.TheVariants.{BadText, MissingTerminal}
use Rattle.file_words.specs.declared.fault.ReadError.TheVariants.{Fault, NoMemory}
use Rattle.pipeline_language.specs.declared.version.Version.{Version}
use Rattle.pipeline_language.specs.Content.{TextStage, Body, text_stage}
use Rattle.pipeline_language.specs.declared.grammar.Stage.TheVariants as stage_variants
use Rattle.pipeline_language.specs.declared.grammar.Line.TheVariants as body_lines
use Rattle.pipeline_language.specs.Syntax.{Stage, BodyLine, Kind, TextKind, Coming, comes, kind_after, after_stage}
use Rattle.pipeline_language.specs.FileReading.{Reads, Texts, texts_from, first_text, in_front, going_on, body_from, first_of}
use Rattle.pipeline_language.proofs.FileLemmas.{body_by_first, in_front_of_none, in_front_twice}

-- Behind k stages that were read stands the line with the number k more: places tells what comes to it.
pub first_behind : (stages : List Stage) (places : ℕ → Coming) (number k n : ℕ) → k ≡ n → (lines : List (List ℕ)) (whole : Result Body FileFault) (r : Result BodyLine FileFault) → whole ≡ in_front stages (body_from (places n) (number + n) lines) → first_of (places k) (number + k) lines ≡ r → whole ≡ in_front stages (r >>= λ b. going_on b (λ stage. body_from (after_stage (places n) stage) ((number + n) + 1) (drop 1 lines)))
first_behind stages places number k n same lines whole r is first =
    is ∙ ap (in_front stages) (body_by_first (places n) (number + n) lines r (subst (λ m. first_of (places m) (number + m) lines ≡ r) same first))

pub told_behind : {L X : Type 0} (line_content : L → BodyLine) (content : X → Body) (stages : List Stage) (places : ℕ → Coming) (number k n : ℕ) → k ≡ n → (lines : List (List ℕ)) (whole : Result Body FileFault) (e : ReadError) → whole ≡ in_front stages (body_from (places n) (number + n) lines) → Reads line_content (Err e) (first_of (places k) (number + k) lines) → Reads content (Err e) whole
told_behind line_content content stages places number k n same lines whole NoMemory is first = tt
told_behind line_content content stages places number k n same lines whole (Fault fault) is first = first_behind stages places number k n same lines whole (Err fault) is first

-- stages over texts give texts
pub text_keeps : (stage : TextStage) → kind_after TextKind (text_stage stage) ≡ TextKind
text_keeps (stage_variants.Map x) = refl
text_keeps stage = refl

-- one stage more, and the lines behind it
pub stage_more : {S : Type 0} (version : Version) (content : S → Stage) (kind : Kind) (keeps : (s : S) → kind_after kind (content s) ≡ kind) (before : ℕ → ℕ) (number k n next : ℕ) → k ≡ n → next ≡ n + 1 → before next ≡ before n + 1
    → (items pushed : List S) (stage : S) (lines left : List (List ℕ)) (whole : Result Body FileFault) → pushed ≡ items ++ stage ∷ [] → left ≡ drop 1 lines
    → whole ≡ in_front (map content items) (body_from (comes version kind (before n)) (number + n) lines) → first_of (comes version kind (before k)) (number + k) lines ≡ Ok (body_lines.Stage (content stage))
    → whole ≡ in_front (map content pushed) (body_from (comes version kind (before next)) (number + next) left)
stage_more version content kind keeps before number k n next same more place items pushed stage lines left whole pushes rest is found =
    let next_coming : Coming = after_stage (comes version kind (before n)) (content stage) in
    let last : (number + n) + 1 ≡ number + next = omega (arith, more) in
    first_behind (map content items) (λ m. comes version kind (before m)) number k n same lines whole (Ok (body_lines.Stage (content stage))) is found
    ∙ in_front_twice (map content items) (content stage ∷ []) (body_from next_coming ((number + n) + 1) (drop 1 lines))
    ∙ ap (λ ss. in_front ss (body_from next_coming ((number + n) + 1) (drop 1 lines))) (sym (map-append content items (stage ∷ [])) ∙ ap (map content) (sym pushes))
    ∙ ap (λ c. in_front (map content pushed) (body_from c ((number + n) + 1) (drop 1 lines))) (ap (λ k. comes version k (before n + 1)) (keeps stage) ∙ ap (comes version kind) (sym place))
    ∙ ap (λ m. in_front (map content pushed) (body_from (comes version kind (before next)) m (drop 1 lines))) last
    ∙ ap (λ ls. in_front (map content pushed) (body_from (comes version kind (before next)) (number + next) ls)) (sym rest)

-- behind texts that were read
text_behind : (texts : List (List ℕ)) (count index n : ℕ) (lines : List (List ℕ)) (whole : Result Texts FileFault) (r : Result (List ℕ) FileFault) → index < count → whole ≡ in_front texts (texts_from (count - index) n lines) → first_text n lines ≡ r → whole ≡ in_front texts (r >>= λ text. in_front (text ∷ []) (texts_from (count - (index + 1)) (n + 1) (drop 1 lines)))
text_behind texts count index n lines whole r less is found =
    let number : count - index ≡ suc (count - (index + 1)) = omega (arith, less) in
    is ∙ ap (λ m. in_front texts (texts_from m n lines)) number ∙ ap (λ r. in_front texts (r >>= λ text. in_front (text ∷ []) (texts_from (count - (index + 1)) (n + 1) (drop 1 lines)))) found

pub text_stops : {X Y : Type 0} (text_content : Y → List ℕ) (content : X → Texts) (texts : List (List ℕ)) (count index n : ℕ) (lines : List (List ℕ)) (whole : Result Texts FileFault) (e : ReadError) → index < count → whole ≡ in_front texts (texts_from (count - index) n lines) → Reads text_content (Err e) (first_text n lines) → Reads content (Err e) whole
text_stops text_content content texts count index n lines whole NoMemory less is found = tt
text_stops text_content content texts count index n lines whole (Fault fault) less is found = text_behind texts count index n lines whole (Err fault) less is found

pub texts_end : (texts : List (List ℕ)) (count index n : ℕ) (lines : List (List ℕ)) (whole : Result Texts FileFault) → index ≡ count → whole ≡ in_front texts (texts_from (count - index) n lines) → whole ≡ Ok (texts, lines)
texts_end texts count index n lines whole same is =
    let number : count - index ≡ zero = omega (arith, same) in
    is ∙ ap (λ m. in_front texts (texts_from m n lines)) number ∙ in_front_of_none texts lines

-- one text more, and the lines behind it
pub texts_more : {A : Type 0} (f : A → List ℕ) (items pushed : List A) (text : A) (count index : ℕ) (lines left : List (List ℕ)) (whole : Result Texts FileFault) → index < count → pushed ≡ items ++ text ∷ [] → left ≡ drop 1 lines → whole ≡ in_front (map f items) (texts_from (count - index) (index + 3) lines) → first_text (index + 3) lines ≡ Ok (f text) → whole ≡ in_front (map f pushed) (texts_from (count - (index + 1)) ((index + 1) + 3) left)
texts_more f items pushed text count index lines left whole less push rest is found =
    let number : (index + 3) + 1 ≡ (index + 1) + 3 = omega arith in
    let more : ℕ = count - (index + 1) in
    text_behind (map f items) count index (index + 3) lines whole (Ok (f text)) less is found
    ∙ in_front_twice (map f items) (f text ∷ []) (texts_from more ((index + 3) + 1) (drop 1 lines))
    ∙ ap (λ ts. in_front ts (texts_from more ((index + 3) + 1) (drop 1 lines))) (sym (map-append f items (text ∷ [])) ∙ ap (map f) (sym push))
    ∙ ap (λ n. in_front (map f pushed) (texts_from more n (drop 1 lines))) number
    ∙ ap (λ ls. in_front (map f pushed) (texts_from more ((index + 1) + 3) ls)) (sym rest)

-- the first text of lines that are text
pub text_found : (n : ℕ) (lines left : List (List ℕ)) (text : List ℕ) → is_utf8 text ≡ true → lines ≡ text ∷ left → first_text n lines ≡ Ok text
unfolding first_text
text_found n lines left text is whole = ap (first_text n) whole ∙ cond-true (is_utf8 text) (Ok text) (Err (record { line = n; kind = BadText })) is

pub no_text_found : (n : ℕ) (lines : List (List ℕ)) → lines ≡ [] → first_text n lines ≡ Err (record { line = n; kind = MissingTerminal })
unfolding first_text
no_text_found n lines none = ap (first_text n) none
