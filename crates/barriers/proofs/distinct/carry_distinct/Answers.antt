use Rattle.std.proofs.Common.{◌≡◌, ◌-◌, ◌≤◌, length, map, fold, take, drop, ap, ◌∙◌, arith}
use Rattle.indexmap.specs.IndexSet.{insert_key}
use Rattle.indexmap.proofs.CallerLemmas.{Drains-YieldsInOrder}
use Rattle.spliterator.specs.Clones.{clones-contents}
use Rattle.barriers.proofs.Kept.{all-behind, distinct-goes_on, known-within}
use Rattle.barriers.proofs.distinct.carry_distinct.Goals as goal

-- what the set had is a front of it
within : (g : _) (c : goal.After-as_slice g) → c.len-known.result ≤ length c.as_slice.result.now
within g c =
    let eq = g.T.PartialEq.eq in
    let old = c.args.came.now.keys in
    let ran = c.in_ok-extend.ensures.ran in
    let all : c.extend.new.self.keys ≡ fold (insert_key eq) old c.args.items.items =
    ran.3.0
    ∙ ap (fold (insert_key eq) c.make_room.new.came.keys) (Drains-YieldsInOrder _ _ ran.0 ran.1 ran.2.3 ran.4 ∙ ran.2.0)
    ∙ ap (λ had. fold (insert_key eq) had c.args.items.items) c.make_room.ensures in
    let longer = known-within g.T.Value.same g.met.T.Value.same_decides g.T.Value.content eq g.met.T.EqualValue.eq_is_same old c.extend.new.self.keys c.args.items.items all in
    omega (arith, longer, c.len-known.ensures.len, ap length c.as_slice.ensures.keys)

pub offset_bounds-as_slice-known : goal.offset_bounds-as_slice-known
offset_bounds-as_slice-known g c = within g c

pub slice_bounds-from_clones-count : goal.slice_bounds-from_clones-count
slice_bounds-from_clones-count g c = within g c

pub slice_bounds-from_clones-start : goal.slice_bounds-from_clones-start
slice_bounds-from_clones-start g c = within g c

pub returns : goal.returns
returns g c = λ more.
    let content = g.T.Value.content in
    let eq = g.T.PartialEq.eq in
    let old = c.args.came.now.keys in
    let now = c.extend.new.self.keys in
    let known = c.len-known.result in
    let slice = c.as_slice.result.now in
    let ran = c.in_ok-extend.ensures.ran in
    let all : now ≡ fold (insert_key eq) old c.args.items.items =
    ran.3.0
    ∙ ap (fold (insert_key eq) c.make_room.new.came.keys) (Drains-YieldsInOrder _ _ ran.0 ran.1 ran.2.3 ran.4 ∙ ran.2.0)
    ∙ ap (λ had. fold (insert_key eq) had c.args.items.items) c.make_room.ensures in
    let clones : map content c.in_ok-from_clones.field-0.items ≡ map content (take (length slice - known) (drop known slice)) =
    clones-contents g.T.Clone.is_clone content c.requires _ _ c.in_ok-from_clones.ensures.items in
    distinct-goes_on g.T.Value.same g.met.T.Value.same_decides content eq g.met.T.EqualValue.eq_is_same old now c.args.items.items (map content c.in_ok-from_clones.field-0.items) more all
    (clones
    ∙ ap (map content) (all-behind known slice)
    ∙ ap (λ l. map content (drop known l)) c.as_slice.ensures.keys
    ∙ ap (λ n. map content (drop n now)) c.len-known.ensures.len)
