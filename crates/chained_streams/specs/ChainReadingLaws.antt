-- What holds of how much a chain reads.
use Rattle.std.specs.Prelude.{◌≡◌, ◌<◌, ◌≤◌, ◌==◌, ◌&&◌, ℕ, zero, suc, min, Bool, true, List, [], ◌∷◌, ◌++◌, Option, Some, None, count_by, flat_map, length, map, slice_index_or, slice_set, refl}
use Rattle.std.proofs.Common.{sym, ap, ◌∙◌, subst, arith, ⊎_elim}
use Rattle.std.proofs.lemmas.List.Concat.{flat_map-append}
use Rattle.barriers.specs.Needs.{less_needed}
use Rattle.parallel_streams.specs.LeafLaws.{joined-through}
use Rattle.parallel_streams.specs.ProgressLaws.{joined-listed}
use Rattle.parallel_streams.specs.Reading.{StandsBehind}
use Rattle.parallel_streams.specs.ReadingLaws.{stands-carried, stands-fresh, stands-passed}
use Rattle.parallel_streams.specs.declared.kept.Listed.{Listed}
use Rattle.stealing_pool.specs.Spans.{joined}
use Rattle.chained_streams.specs.Chains.{HoldsChain, first_lists, is_own_turn, link_behind, link_value, lists_of, through_links}
use Rattle.chained_streams.specs.ChainLaws.{all-run, both-true}
use Rattle.chained_streams.specs.ChainReading.{AreOpen, FirstLets, LetsPass, LinksRun, ReadsChain, SomeEnough, StandLinks, StandsLink}
use Rattle.chained_streams.specs.declared.chain.Link.{Link}

module _ {A B S C : Type 0} (expand : A → C → List C) (needed : B → Option ℕ) (counted : B → C → Bool) (value : B → List C → List C) (needed_behind : B → S → Option ℕ) (value_behind : B → S → List C → List C) (link : Link A B) where
  abbrev stands : S → List C → Type 0
  stands = StandsLink expand needed counted value needed_behind value_behind link

  abbrev gives : List C → List C
  gives items = value link.barrier (flat_map (expand link.stage) items)

  again : (state : S) (before now segment kept : List C) → now ≡ before ++ segment
      → (let both = flat_map (expand link.stage) before ++ flat_map (expand link.stage) segment in
      StandsBehind (needed link.barrier) (counted link.barrier) (value link.barrier) (needed_behind link.barrier state) (value_behind link.barrier state) both × (value link.barrier both ≡ gives before ++ kept)) → stands state now × (gives now ≡ gives before ++ kept)
  again state before now segment kept is at =
      let P : List C → Type 0 = λ l. StandsBehind (needed link.barrier) (counted link.barrier) (value link.barrier) (needed_behind link.barrier state) (value_behind link.barrier state) l × (value link.barrier l ≡ gives before ++ kept) in
      subst P (sym (ap (flat_map (expand link.stage)) is ∙ flat_map-append (expand link.stage) before segment)) at

  -- the link has run over a list more
  pub link-carried : (state new : S) (segment kept before now : List C) → needed_behind link.barrier new ≡ less_needed (needed_behind link.barrier state) (count_by (counted link.barrier) (flat_map (expand link.stage) segment))
      → ((more : List C) → value_behind link.barrier state (flat_map (expand link.stage) segment ++ more) ≡ kept ++ value_behind link.barrier new more) → value_behind link.barrier new [] ≡ []
      → stands state before → now ≡ before ++ segment → stands new now × (gives now ≡ gives before ++ kept)
  link-carried state new segment kept before now less goes_on nothing at is =
      again new before now segment kept is
      (stands-carried (needed link.barrier) (counted link.barrier) (value link.barrier) (needed_behind link.barrier state) (needed_behind link.barrier new) (value_behind link.barrier state) (value_behind link.barrier new)
      (flat_map (expand link.stage) before) (flat_map (expand link.stage) segment) kept at less goes_on nothing)

  -- .. or lets it pass
  pub link-passed : (state : S) (parts : List (List C)) (before now : List C) → LetsPass needed_behind value_behind link state
      → stands state before → now ≡ before ++ joined parts → stands state now × (gives now ≡ gives before ++ joined (map (flat_map (expand link.stage)) parts))
  link-passed state parts before now lets at is =
      let on = again state before now (joined parts) (flat_map (expand link.stage) (joined parts)) is
      (stands-passed (needed link.barrier) (counted link.barrier) (value link.barrier) (needed_behind link.barrier state) (value_behind link.barrier state)
      (flat_map (expand link.stage) before) (flat_map (expand link.stage) (joined parts)) at lets.0 lets.1) in
      (on.0, on.1 ∙ ap (λ l. gives before ++ l) (sym (joined-through (expand link.stage) parts (joined parts) refl)))

  pub link-fresh : (state : S) → needed_behind link.barrier state ≡ needed link.barrier → ((l : List C) → value_behind link.barrier state l ≡ value link.barrier l) → value_behind link.barrier state [] ≡ [] → stands state []
  link-fresh state = stands-fresh (needed link.barrier) (counted link.barrier) (value link.barrier) (needed_behind link.barrier state) (value_behind link.barrier state)

module _ {L S C : Type 0} (stands : L → S → List C → Type 0) (value : L → List C → List C) where
  through-push : (links : List L) (link : L) (items : List C) → through_links value (links ++ link ∷ []) items ≡ value link (through_links value links items)
  through-push [] link items = refl
  through-push (l ∷ ls) link items = through-push ls link (value l items)

  -- a link more, of whose items there are none
  pub stand-push : (links : List L) (states : List S) (link : L) (state : S) (items : List C) → StandLinks stands value links states items × (through_links value links items ≡ [])
      → stands link state [] → value link [] ≡ [] → StandLinks stands value (links ++ link ∷ []) (states ++ state ∷ []) items × (through_links value (links ++ link ∷ []) items ≡ [])
  stand-push links states link state items at fresh nothing =
      (push links states items at.0 at.1, through-push links link items ∙ ap (value link) at.1 ∙ nothing)
    where
      push : (ls : List L) (ss : List S) (l : List C) → StandLinks stands value ls ss l → through_links value ls l ≡ [] → StandLinks stands value (ls ++ link ∷ []) (ss ++ state ∷ []) l
      push [] [] l at none = (subst (stands link state) (sym none) fresh, tt)
      push [] (s ∷ ss) l at none = absurd at
      push (k ∷ ls) [] l at none = absurd at
      push (k ∷ ls) (s ∷ ss) l at none = (at.0, push ls ss (value k l) at.1 none)

  -- a link's run
  pub run-carried : (run : ℕ) (links : List L) (states : List S) (link : L) (state new : S) (segment kept before now : List C) → run < length links → run < length states
      → link ≡ slice_index_or links run link → state ≡ slice_index_or states run state
      → ((b n : List C) → stands link state b → n ≡ b ++ segment → stands link new n × (value link n ≡ value link b ++ kept))
      → LinksRun stands value run links states before now segment → LinksRun stands value (suc run) links (slice_set states run new) before now kept
  run-carried run [] states link state new segment kept before now in_links in_states is_link is_state law at = absurd (omega (arith, in_links))
  run-carried run (l ∷ ls) [] link state new segment kept before now in_links in_states is_link is_state law at = absurd (omega (arith, in_states))
  run-carried zero (l ∷ ls) (s ∷ ss) link state new segment kept before now in_links in_states is_link is_state law at =
      let P : S → Type 0 = λ x. stands l x before in
      let Q : L → Type 0 = λ x. stands x state before in
      let R : L → Type 0 = λ x. stands x new now × (value x now ≡ value x before ++ kept) in
      let now' = subst R is_link (law before now (subst Q (sym is_link) (subst P (sym is_state) at.0.0)) at.1) in
      (now'.0, (at.0.1, now'.1))
  run-carried (suc run) (l ∷ ls) (s ∷ ss) link state new segment kept before now in_links in_states is_link is_state law at =
      (at.0, run-carried run ls ss link state new segment kept (value l before) (value l now) (omega (arith, in_links)) (omega (arith, in_states)) is_link is_state law at.1)

  -- once all have run
  run-whole : (run : ℕ) (links : List L) (states : List S) (before now kept : List C) → run ≡ length links → LinksRun stands value run links states before now kept
      → StandLinks stands value links states now × (through_links value links now ≡ through_links value links before ++ kept)
  run-whole zero [] [] before now kept all at = (tt, at.1)
  run-whole zero [] (s ∷ ss) before now kept all at = absurd at.0
  run-whole zero (l ∷ ls) states before now kept all at = absurd (omega (arith, all))
  run-whole (suc run) [] states before now kept all at = absurd (omega (arith, all))
  run-whole (suc run) (l ∷ ls) [] before now kept all at = absurd at
  run-whole (suc run) (l ∷ ls) (s ∷ ss) before now kept all at =
      let rest = run-whole run ls ss (value l before) (value l now) kept (omega (arith, all)) at.1 in
      ((at.0, rest.0), rest.1)

module _ {L S T C : Type 0} (reads read : Type 0) (stands : L → S → List C → Type 0) (lets : L → S → Type 0) (step : L → S → List C → List C) (images : L → C → List C) (value : L → List C → List C) (content : T → C)
    (links : List L) (states : List S) (run : ℕ) (done : Bool) (listed : Option (Listed T)) (before now : List C) (parts : List (List C)) where
  -- the links that have run, where the barriers before have
  pub chain-run : ((l : L) (s : S) (b n : List C) → lets l s → stands l s b → n ≡ b ++ joined parts → stands l s n × (value l n ≡ value l b ++ joined (map (flat_map (images l)) parts)))
      → HoldsChain step images links states run listed → is_own_turn done listed ≡ true
      → ReadsChain reads read stands lets value content links states run before now listed → (done ≡ true → reads → read × (now ≡ before ++ joined parts))
      → read × LinksRun stands value run links states before now (joined (lists_of images content links run parts listed))
  chain-run pass held turn so_far law = at listed held turn so_far
    where
      first : (ls : List L) (ss : List S) (r : ℕ) → FirstLets lets ls ss r → r ≤ 1 → StandLinks stands value ls ss before → now ≡ before ++ joined parts
          → LinksRun stands value r ls ss before now (joined (first_lists images ls r parts))
      first [] ss zero lets' few at' is = (at', is)
      first (l ∷ ls) ss zero lets' few at' is = (at', is)
      first (l ∷ ls) (s ∷ ss) (suc zero) lets' few at' is = let on = pass l s before now lets' at'.0 is in (on.0, (at'.1, on.1))
      first (l ∷ ls) (s ∷ ss) (suc (suc r)) lets' few at' is = absurd (omega (arith, few))
      first (l ∷ ls) [] (suc r) lets' few at' is = absurd lets'
      first [] ss (suc r) lets' few at' is = absurd lets'

      few : (ls : List L) (ss : List S) (r : ℕ) → HoldsChain {T = T} step images ls ss r None → r ≤ 1
      few ls ss zero h = omega arith
      few ls ss (suc zero) h = omega arith
      few ls ss (suc (suc r)) h = absurd h.3

      at : (l : Option (Listed T)) → HoldsChain step images links states run l → is_own_turn done l ≡ true → ReadsChain reads read stands lets value content links states run before now l
          → read × LinksRun stands value run links states before now (joined (lists_of images content links run parts l))
      at None h is r = let up = law is r.0 in (up.0, first links states run r.2 (few links states run h) r.1 up.1)
      at (Some l) h is r =
          let P : List C → Type 0 = λ k. LinksRun stands value run links states before now k in
          (r.0, subst P (sym (joined-listed content l h.2)) r.1)

  chain-read : ((l : L) (s : S) (b n : List C) → lets l s → stands l s b → n ≡ b ++ joined parts → stands l s n × (value l n ≡ value l b ++ joined (map (flat_map (images l)) parts)))
      → HoldsChain step images links states run listed → (is_own_turn done listed && (run == length links)) ≡ true
      → ReadsChain reads read stands lets value content links states run before now listed → (done ≡ true → reads → read × (now ≡ before ++ joined parts))
      → read × StandLinks stands value links states now × (through_links value links now ≡ through_links value links before ++ joined (lists_of images content links run parts listed))
  chain-read pass held is so_far law =
      let ran = chain-run pass held (both-true (is_own_turn done listed) (run == length links) is).0 so_far law in
      let whole = run-whole stands value run links states before now (joined (lists_of images content links run parts listed)) (all-run (is_own_turn done listed) run (length links) is) ran.1 in
      (ran.0, whole.0, whole.1)

-- .. of links with a stage and a barrier
module _ {A B S T C : Type 0} (expand : A → C → List C) (needed : B → Option ℕ) (counted : B → C → Bool) (value : B → List C → List C) (needed_behind : B → S → Option ℕ) (value_behind : B → S → List C → List C)
    (reads read : Type 0) (content : T → C) (links : List (Link A B)) (states : List S) (run : ℕ) (done : Bool) (listed : Option (Listed T)) (before now : List C) (parts : List (List C)) where
  abbrev stand : Link A B → S → List C → Type 0
  stand = StandsLink expand needed counted value needed_behind value_behind

  pub links-read : HoldsChain (link_behind expand value_behind) (λ link. expand link.stage) links states run listed → (is_own_turn done listed && (run == length links)) ≡ true
      → ReadsChain reads read stand (LetsPass needed_behind value_behind) (link_value expand value) content links states run before now listed → (done ≡ true → reads → read × (now ≡ before ++ joined parts))
      → read × StandLinks stand (link_value expand value) links states now
      × (through_links (link_value expand value) links now ≡ through_links (link_value expand value) links before ++ joined (lists_of (λ link. expand link.stage) content links run parts listed))
  links-read =
      chain-read reads read stand (LetsPass needed_behind value_behind) (link_behind expand value_behind) (λ link. expand link.stage) (link_value expand value) content links states run done listed before now parts
      (λ link state b n lets at is. link-passed expand needed counted value needed_behind value_behind link state parts b n lets at is)

-- where no link is over, none has enough
module _ {L S C : Type 0} (needed : L → S → Option ℕ) (stands : L → S → List C → Type 0) (enough : L → List C → Type 0) (value : L → List C → List C) where
  pub open-next : (n : ℕ) (links : List L) (states : List S) (link : L) (state : S) → n < length links → n < length states → link ≡ slice_index_or links n link → state ≡ slice_index_or states n state
      → (needed link state ≡ Some 0 → ⊥) → AreOpen needed n links states → AreOpen needed (suc n) links states
  open-next n [] states link state in_links in_states is_link is_state is so_far = absurd (omega (arith, in_links))
  open-next n (l ∷ ls) [] link state in_links in_states is_link is_state is so_far = absurd (omega (arith, in_states))
  open-next zero (l ∷ ls) (s ∷ ss) link state in_links in_states is_link is_state is so_far =
      (λ over. is (ap (λ x. needed x state) is_link ∙ ap (needed l) is_state ∙ over), tt)
  open-next (suc n) (l ∷ ls) (s ∷ ss) link state in_links in_states is_link is_state is so_far =
      (so_far.0, open-next n ls ss link state (omega (arith, in_links)) (omega (arith, in_states)) is_link is_state is so_far.1)

  pub open-undecided : ((l : L) (s : S) (items : List C) → stands l s items → enough l items → needed l s ≡ Some 0) → (n : ℕ) (links : List L) (states : List S) (items : List C) → min (length links) (length states) ≤ n
      → AreOpen needed n links states → StandLinks stands value links states items → SomeEnough enough value links items → ⊥
  open-undecided over n [] states items all so_far at some = some
  open-undecided over n (l ∷ ls) [] items all so_far at some = at
  open-undecided over zero (l ∷ ls) (s ∷ ss) items all so_far at some = absurd (omega (arith, all))
  open-undecided over (suc n) (l ∷ ls) (s ∷ ss) items all so_far at some =
      ⊎_elim
      (λ one. so_far.0 (over l s items at.0 one))
      (λ later. open-undecided over n ls ss (value l items) (omega (arith, all)) so_far.1 at.1 later)
      some
