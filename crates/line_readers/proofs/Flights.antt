-- Blocks that are worked on at once.
use Rattle.std.specs.Prelude.{◌≡◌, ℕ, Bool, true, false, MatchBool, List, [], ◌∷◌, ◌++◌, All, Option, Some, None, IfSome, flat_map, refl}
use Rattle.std.proofs.Common.{ap, sym, subst, ◌∙◌, append-nil, append_assoc}
use Rattle.std.proofs.lemmas.List.Concat.{flat_map-append}
use Rattle.std.proofs.lemmas.List.Elements.{All-head, All-nil, All-push, All-tail}
use Rattle.std.specs.Io.KnownBytes.{IsAtEnd}
use Rattle.sources.specs.Lines.{text_lines}
use Rattle.line_blocks.specs.Blocks.{IsFolded, TakesBlock}
use Rattle.line_blocks.proofs.Cuts.{block-lines, folded-all}
use Rattle.line_readers.specs.Flights.{IsFlying, IsSettled, Settles}

pub either-way : {A B : Type 0} (over : Bool) → (over ≡ true → A) → B → MatchBool over A B
either-way true settled flies = settled refl
either-way false settled flies = flies

-- of the lines so far one thing is known, and then another
pub folded-map : {C D : Type 0} (M : List (List ℕ) → C → Type 0) (N : List (List ℕ) → D → Type 0) (known left : Option (List ℕ)) (acc : C) (next : D)
    → IsFolded M known acc left → ((lines : List (List ℕ)) → M lines acc → N lines next) → IsFolded N known next left
folded-map M N None left acc next so_far step = tt
folded-map M N (Some xs) None acc next so_far step = absurd so_far
folded-map M N (Some xs) (Some ys) acc next so_far step = (so_far.0, step so_far.0 so_far.1, so_far.2)

-- .. where one block more has come
pub folded-on : {C D : Type 0} (M : List (List ℕ) → C → Type 0) (N : List (List ℕ) → D → Type 0) (known left after : Option (List ℕ)) (acc : C) (next : D) (block : List ℕ)
    → IsFolded M known acc left → TakesBlock left block after → ((lines : List (List ℕ)) → M lines acc → N (lines ++ text_lines block) next) → IsFolded N known next after
folded-on M N None left after acc next block so_far taken step = tt
folded-on M N (Some xs) None after acc next block so_far taken step = absurd so_far
folded-on M N (Some xs) (Some ys) None acc next block so_far taken step = absurd taken
folded-on M N (Some xs) (Some ys) (Some zs) acc next block so_far taken step = (
  so_far.0 ++ text_lines block,
  step so_far.0 so_far.1,
  so_far.2 ∙ ap (λ l. so_far.0 ++ l) (block-lines ys block zs taken) ∙ sym (append_assoc so_far.0 (text_lines block) (text_lines zs)),
)

module _ {Z C W : Type 0} (made : List Z → C → Type 0) (values : List (List ℕ) → List Z) (joins : (l r : List (List ℕ)) → values (l ++ r) ≡ values l ++ values r)
    (IsOurs : W → Type 0) (text : W → List ℕ) (before : List Z) (lines : List (List ℕ)) where
  abbrev flying : C → List W → Type 0
  flying acc at_work = IsFlying made values IsOurs text before lines acc at_work

  abbrev rest_of : List W → List (List ℕ)
  rest_of = flat_map (λ w. text_lines (text w))

  joined : (done more : List (List ℕ)) → (before ++ values done) ++ values more ≡ before ++ values (done ++ more)
  joined done more = append_assoc before (values done) (values more) ∙ ap (λ l. before ++ l) (sym (joins done more))

  -- what the first block at work becomes is taken in
  pub taken-in : (acc next : C) (w : W) (rest at_work : List W) → at_work ≡ w ∷ rest
      → (IsOurs w → (l : List Z) → made l acc → made (l ++ values (text_lines (text w))) next) → flying acc at_work → flying next rest
  taken-in acc next w rest at_work first takes flies =
      let now = subst (λ ws. flying acc ws) first flies in
      let came = text_lines (text w) in
      record {
        done = now.done ++ came;
        in_acc = subst (λ l. made l next) (joined now.done came) (takes (All-head IsOurs w rest now.ours) (before ++ values now.done) now.in_acc);
        ours = All-tail IsOurs w rest now.ours;
        all = now.all ∙ sym (append_assoc now.done came (rest_of rest));
      }

  -- nothing that follows makes a difference
  pub settled : {O : Type 0} (gives : List Z → O → Type 0) (acc : C) (at_work : List W) → ((l more : List Z) → made l acc → (out : O) → gives l out → gives (l ++ more) out)
      → flying acc at_work → IsSettled made gives values before lines acc
  settled gives acc at_work decides flies = λ more out told.
      let front = before ++ values flies.done in
      let behind = rest_of at_work ++ more in
      let same = joined flies.done behind ∙ ap (λ l. before ++ values l) (sym (append_assoc flies.done (rest_of at_work) more) ∙ ap (λ l. l ++ more) (sym flies.all)) in
      subst (λ l. gives l out) same (decides front (values behind) flies.in_acc out (told front flies.in_acc))

  -- no block is at work any more
  pub landed : (acc : C) (at_work : List W) → at_work ≡ [] → flying acc at_work → made (before ++ values lines) acc
  landed acc at_work none flies =
      let all = flies.all ∙ ap (λ ws. flies.done ++ rest_of ws) none ∙ append-nil flies.done in
      subst (λ l. made (before ++ values l) acc) (sym all) flies.in_acc

  -- one block more is at work
  pub set-off : (acc : C) (at_work now : List W) (w : W) → now ≡ at_work ++ w ∷ [] → IsOurs w → flying acc at_work
      → IsFlying made values IsOurs text before (lines ++ text_lines (text w)) acc now
  set-off acc at_work now w is ours flies =
      let came = text_lines (text w) in
      let rest = flat_map-append (λ w. text_lines (text w)) at_work (w ∷ []) ∙ ap (λ l. rest_of at_work ++ l) (append-nil came) in
      subst (λ ws. IsFlying made values IsOurs text before (lines ++ came) acc ws) (sym is) (record {
        done = flies.done;
        in_acc = flies.in_acc;
        ours = All-push IsOurs at_work w flies.ours ours;
        all = ap (λ l. l ++ came) flies.all ∙ append_assoc flies.done (rest_of at_work) came ∙ ap (λ l. flies.done ++ l) (sym rest);
      })

  -- one block more was taken in, behind all others
  pub landed-more : (acc next : C) (block : List (List ℕ)) (none : List W) → none ≡ [] → made (before ++ values lines) acc
      → ((l : List Z) → made l acc → made (l ++ values block) next) → IsFlying made values IsOurs text before (lines ++ block) next none
  landed-more acc next block none is has takes = record {
    done = lines ++ block;
    in_acc = subst (λ l. made l next) (joined lines block) (takes (before ++ values lines) has);
    ours = subst (λ ws. All IsOurs ws) (sym is) (All-nil IsOurs);
    all = sym (append-nil (lines ++ block)) ∙ ap (λ ws. (lines ++ block) ++ rest_of ws) (sym is);
  }

-- nor where more lines follow
pub settled-later : {Z C O : Type 0} (made : List Z → C → Type 0) (values : List (List ℕ) → List Z) (before : List Z) (lines : List (List ℕ)) (gives : List Z → O → Type 0) (acc : C)
    (block : List (List ℕ)) → IsSettled made gives values before lines acc → IsSettled made gives values before (lines ++ block) acc
settled-later made values before lines gives acc block is = λ more. subst (λ l. Settles made gives (before ++ values l) acc) (sym (append_assoc lines block more)) (is (block ++ more))

module _ {Z C O : Type 0} (made : List Z → C → Type 0) (gives : List Z → O → Type 0) (values : List (List ℕ) → List Z) (before : List Z) (acc : C) where
  abbrev settles_all : List ℕ → Type 0
  settles_all bytes = Settles made gives (before ++ values (text_lines bytes)) acc

  -- nothing that is left makes a difference
  pub all-settled : (known after : Option (List ℕ)) → IsFolded (IsSettled made gives values before) known acc after → IfSome known settles_all
  all-settled None after folded = tt
  all-settled (Some xs) None folded = absurd folded
  all-settled (Some xs) (Some zs) folded = subst (λ l. Settles made gives (before ++ values l) acc) (sym folded.2) (folded.1 (text_lines zs))

  -- nothing is left
  pub all-landed : (known after : Option (List ℕ)) → IsFolded (λ lines acc. made (before ++ values lines) acc) known acc after → IsAtEnd after → IfSome known settles_all
  all-landed None after folded ended = tt
  all-landed (Some xs) after folded ended = λ out told. told (before ++ values (text_lines xs)) (folded-all (λ lines acc. made (before ++ values lines) acc) xs after acc folded ended)

  -- one of both
  pub all-told : (over : Bool) (known after : Option (List ℕ)) → IsFolded (λ lines acc. MatchBool over (IsSettled made gives values before lines acc) (made (before ++ values lines) acc)) known acc after
      → IsAtEnd after → IfSome known settles_all
  all-told true known after folded ended = all-settled known after folded
  all-told false known after folded ended = all-landed known after folded ended

-- no block is at work yet
pub none-flying : {Z C W : Type 0} {made : List Z → C → Type 0} {values : List (List ℕ) → List Z} {IsOurs : W → Type 0} {text : W → List ℕ} (before : List Z) (acc : C) (none : List W)
    → values [] ≡ [] → none ≡ [] → made before acc → IsFlying made values IsOurs text before [] acc none
none-flying {made = made} {values = values} {IsOurs = IsOurs} {text = text} before acc none nothing is begun = record {
  done = [];
  in_acc = subst (λ l. made l acc) (sym (ap (λ l. before ++ l) nothing ∙ append-nil before)) begun;
  ours = subst (λ ws. All IsOurs ws) (sym is) (All-nil IsOurs);
  all = ap (flat_map (λ w. text_lines (text w))) (sym is);
}
