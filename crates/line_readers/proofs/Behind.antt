-- What the lines of some bytes become, of a front and of what is left.
use Rattle.std.specs.Prelude.{◌≡◌, ℕ, List, [], ◌∷◌, ◌++◌, map, flat_map, Option, Some, None, Result, Ok, Err, IfOk, IfSome, refl}
use Rattle.std.proofs.Common.{ap, sym, subst, ◌∙◌, append-nil, append_assoc}
use Rattle.std.proofs.lemmas.List.{map-append}
use Rattle.std.proofs.lemmas.List.Concat.{flat_map-append}
use Rattle.std.specs.Io.KnownBytes.{IsAtEnd, prepend_known}
use Rattle.sources.specs.Lines.{text_lines}
use Rattle.line_blocks.specs.Blocks.{IsFolded, TakesBlock}
use Rattle.line_blocks.proofs.Cuts.{folded-all, folded-more, folded-none}
use Rattle.stages.specs.Passing.{flat_map-flat_map}
use Rattle.line_readers.specs.Flights.{Settles}
use Rattle.line_readers.specs.Values.{values_of, line_values, GoesOn, IsTaken}

one-image : {X Y : Type 0} (f : X → Y) (l : List X) → flat_map (λ x. f x ∷ []) l ≡ map f l
one-image f [] = refl
one-image f (x ∷ l) = ap (λ m. f x ∷ m) (one-image f l)

-- nothing was read yet
pub known-first : (known : Option (List ℕ)) (rest : List ℕ) → rest ≡ [] → prepend_known rest known ≡ known
known-first None rest none = refl
known-first (Some xs) rest none = ap (λ l. Some (l ++ xs)) none

module _ {Y Z : Type 0} (image : List ℕ → Y) (expand : Y → List Z) where
  pub values-append : (l r : List (List ℕ)) → values_of image expand (l ++ r) ≡ values_of image expand l ++ values_of image expand r
  values-append l r = ap (flat_map expand) (map-append image l r) ∙ flat_map-append expand (map image l) (map image r)

  -- what a stream of some lines has
  pub lines-values : (lines : List (List ℕ)) → flat_map expand (flat_map (λ x. image x ∷ []) lines) ≡ values_of image expand lines
  lines-values lines = ap (flat_map expand) (one-image image lines)

-- where all pass through stages, the next items do
pub passes-on : {X Y : Type 0} (behind : List X → List Y) (stages : X → List Y) → ((l : List X) → behind l ≡ flat_map stages l)
    → (items : List X) → GoesOn behind behind items (flat_map stages items)
passes-on behind stages passes items = λ more.
    passes (items ++ more) ∙ flat_map-append stages items more ∙ ap (λ l. flat_map stages items ++ l) (sym (passes more))

-- what was taken of some lines, and then of the next ones
pub taken-more : {Y X W Z C S : Type 0} (image : List ℕ → Y) (first : Y → List X) {made : List Z → C → Type 0} {last : W → List Z} {whole : List X → List W} {behind : S → List X → List W}
    {acc : C} {state : S} (l : List (List ℕ)) → IsTaken made last whole behind (values_of image first l) (acc, state) → (lines : List (List ℕ)) (new : List W) (next : C) (later : S)
    → GoesOn (behind state) (behind later) (values_of image first lines) new → ((l : List Z) → made l acc → made (l ++ flat_map last new) next)
    → IsTaken made last whole behind (values_of image first (l ++ lines)) (next, later)
taken-more image first {made = made} {last = last} {whole = whole} {behind = behind} l is lines new next later goes_on joins =
    let items = values_of image first l in
    let more = values_of image first lines in
    record {
      kept = is.kept ++ new;
      in_acc = subst (λ l. made l next) (sym (flat_map-append last is.kept new)) (joins (flat_map last is.kept) is.in_acc);
      on = λ rest.
          ap (λ xs. whole (xs ++ rest)) (values-append image first l lines) ∙ ap whole (append_assoc items more rest) ∙ is.on (more ++ rest)
          ∙ ap (λ l. is.kept ++ l) (goes_on rest) ∙ sym (append_assoc is.kept new (behind later rest));
    }

-- stages one behind another as one
pub through : {Y X W Z : Type 0} (image : List ℕ → Y) (first : Y → List X) (between : X → List W) (last : W → List Z) (lines : List (List ℕ))
    → values_of image (λ y. flat_map last (flat_map between (first y))) lines ≡ flat_map last (flat_map between (values_of image first lines))
through image first between last lines =
    let items = map image lines in
    sym (ap (flat_map last) (flat_map-flat_map first between items) ∙ flat_map-flat_map (λ x. flat_map between (first x)) last items)

-- what lines go through: a function, a stage, operations that look at many items, from the first item on and behind a state, and a stage behind them
pub record Way (Y X W Z S : Type 0) : Type 0 where
  pub image : List ℕ → Y
  pub first : Y → List X
  pub whole : List X → List W
  pub behind : S → List X → List W
  pub last : W → List Z

module _ {Y X W Z S C : Type 0} (way : Way Y X W Z S) (made : List Z → C → Type 0) where
  -- what becomes of some lines is in the container
  abbrev pub taken_of : List (List ℕ) → C × S → Type 0
  taken_of lines = IsTaken made way.last way.whole way.behind (values_of way.image way.first lines)

  -- nothing was read yet
  pub none-taken : (all : Option (List ℕ)) (taken : C × S) → made [] taken.0 → ((more : List X) → way.behind taken.1 more ≡ way.whole more) → IsFolded taken_of all taken all
  none-taken all taken begun fresh = folded-none taken_of all all taken refl (record { kept = []; in_acc = begun; on = λ more. sym (fresh more) })

  module _ {O : Type 0} (Gives : List Z → O → Type 0) (out : O) (taken : C × S) (nothing : way.behind taken.1 [] ≡ []) (finished : (l : List Z) → made l taken.0 → Gives l out) where
    abbrev given_of : List X → Type 0
    given_of items = Gives (flat_map way.last (way.whole items)) out

    -- what was kept is the value of the items
    kept-whole : (items : List X) (is : IsTaken made way.last way.whole way.behind items taken) → way.whole items ≡ is.kept
    kept-whole items is = ap way.whole (sym (append-nil items)) ∙ is.on [] ∙ ap (λ l. is.kept ++ l) nothing ∙ append-nil is.kept

    front-given : (items : List X) → IsTaken made way.last way.whole way.behind items taken → given_of items
    front-given items is = subst (λ l. Gives (flat_map way.last l) out) (sym (kept-whole items is)) (finished (flat_map way.last is.kept) is.in_acc)

    -- all lines have come
    pub last-given : (known after : Option (List ℕ)) → IsFolded taken_of known taken after → IsAtEnd after → IfSome known (λ bytes. given_of (line_values way.image way.first bytes))
    last-given None after folded ended = tt
    last-given (Some xs) after folded ended = front-given (line_values way.image way.first xs) (folded-all taken_of xs after taken folded ended)

    -- what the lines so far decide, all lines give
    enough-given : ((items more : List X) → IsTaken made way.last way.whole way.behind items taken → given_of (items ++ more)) → (known after : Option (List ℕ))
        → IsFolded taken_of known taken after → IfSome known (λ bytes. given_of (line_values way.image way.first bytes))
    enough-given enough None after folded = tt
    enough-given enough (Some xs) None folded = absurd folded
    enough-given enough (Some xs) (Some zs) folded =
        let values = values_of way.image way.first in
        subst given_of (sym (ap values folded.2 ∙ values-append way.image way.first folded.0 (text_lines zs))) (enough (values folded.0) (values (text_lines zs)) folded.1)

    -- .. where nothing is left of what is to come
    pub over-given : ((l : List X) → way.behind taken.1 l ≡ []) → (known after : Option (List ℕ))
        → IsFolded taken_of known taken after → IfSome known (λ bytes. given_of (line_values way.image way.first bytes))
    over-given over = enough-given (λ items more is.
        let same = is.on more ∙ ap (λ l. is.kept ++ l) (over more) ∙ append-nil is.kept in
        subst (λ l. Gives (flat_map way.last l) out) (sym same) (finished (flat_map way.last is.kept) is.in_acc))

    -- .. and where the container is decided
    pub decided-given : ((l r : List Z) → made l taken.0 → Gives l out → Gives (l ++ r) out) → (known after : Option (List ℕ))
        → IsFolded taken_of known taken after → IfSome known (λ bytes. given_of (line_values way.image way.first bytes))
    decided-given decided = enough-given (λ items more is.
        let now = flat_map way.last is.kept in
        let rest = way.behind taken.1 more in
        subst (λ l. Gives l out) (sym (ap (flat_map way.last) (is.on more) ∙ flat_map-append way.last is.kept rest))
        (decided now (flat_map way.last rest) is.in_acc (finished now is.in_acc)))

  -- where all that is still to come passes through stages, and the container of it is settled behind what was taken
  pub passing-given : {O : Type 0} (Gives : List Z → O → Type 0) (out : O) (taken : C × S) (whole : C) (stages : X → List W) → ((more : List X) → way.behind taken.1 more ≡ flat_map stages more)
      → ((l : List Z) → made l whole → Gives l out) → (known left : Option (List ℕ)) → IsFolded taken_of known taken left
      → ((before : List Z) → made before taken.0 → IfSome left (λ bytes. Settles made Gives (before ++ flat_map way.last (flat_map stages (line_values way.image way.first bytes))) whole))
      → IfSome known (λ bytes. Gives (flat_map way.last (way.whole (line_values way.image way.first bytes))) out)
  passing-given Gives out taken whole stages passes finished None left folded settled = tt
  passing-given Gives out taken whole stages passes finished (Some xs) None folded settled = absurd folded
  passing-given Gives out taken whole stages passes finished (Some xs) (Some ys) folded settled =
      let values = values_of way.image way.first in
      let is = folded.1 in
      let rest = values (text_lines ys) in
      let value = ap values folded.2 ∙ values-append way.image way.first folded.0 (text_lines ys) in
      let same = ap way.whole value ∙ is.on rest ∙ ap (λ l. is.kept ++ l) (passes rest) in
      let all = ap (flat_map way.last) same ∙ flat_map-append way.last is.kept (flat_map stages rest) in
      subst (λ l. Gives l out) (sym all) (settled (flat_map way.last is.kept) is.in_acc out finished)

-- what a container that was empty has of one more block
pub one-block : {Y X W Z S A : Type 0} (way : Way Y X W Z S) {made : List Z → A → Type 0} (state later : S) (begun acc : A) (block : List ℕ) → made [] begun
    → ((whole : List X → List W) (l : List (List ℕ)) → IsTaken made way.last whole way.behind (values_of way.image way.first l) (begun, state)
    → IsTaken made way.last whole way.behind (values_of way.image way.first (l ++ text_lines block)) (acc, later))
    → IsTaken made way.last (way.behind state) way.behind (values_of way.image way.first (text_lines block)) (acc, later)
one-block way state later begun acc block empty worked = worked (way.behind state) [] (record { kept = []; in_acc = empty; on = λ more. refl })

-- a sink that took what came, and then that
pub handed-more : {Y X W Z S A K : Type 0} (way : Way Y X W Z S) (Takes : K → List Z → K → Type 0) → ((a b c : K) (xs ys : List Z) → Takes a xs b → Takes b ys c → Takes a (xs ++ ys) c)
    → {made : List Z → A → Type 0} (from now next : K) (state later : S) (acc : A) (known left after : Option (List ℕ)) (block : List ℕ)
    → IsFolded (taken_of way (Takes from)) known (now, state) left → TakesBlock left block after
    → IsTaken made way.last (way.behind state) way.behind (values_of way.image way.first (text_lines block)) (acc, later)
    → ((l : List Z) → made l acc → Takes now l next) → IsFolded (taken_of way (Takes from)) known (next, later) after
handed-more way Takes both from now next state later acc known left after block folded block_is came takes =
    folded-more (taken_of way (Takes from)) known left after (now, state) (next, later) block folded block_is
    (λ l taken. taken-more way.image way.first l taken (text_lines block) came.kept next later came.on (λ zs took. both from now next zs (flat_map way.last came.kept) took (takes (flat_map way.last came.kept) came.in_acc)))

-- .. of a result that may be an error
pub if-given : {O E Z : Type 0} {Gives : List Z → O → Type 0} {P : O → Type 0} (made : List Z → Type 0) (result : Result O E) → ((l : List Z) → made l → IfOk result (Gives l))
    → ((out : O) → ((l : List Z) → made l → Gives l out) → P out) → IfOk result P
if-given made (Ok out) finished from = from out finished
if-given made (Err e) finished from = tt
