use Rattle.std.proofs.Common.{rules, ◌≡◌, [], ◌∷◌, ◌++◌, All, Contains, true, false, reverse, nat_eq, sym, ap, ◌∙◌, subst}
use Rattle.std.specs.List.{list_any}
use Rattle.std.proofs.lemmas.List.{nil_from_length}
use Rattle.std.proofs.lemmas.List.Elements.{All-nil, All-head, All-tail, All-push, All-contains_itself}
use Rattle.std.proofs.lemmas.List.Sorted.{All-permutation}
use Rattle.indexmap.specs.IndexSet.{insert_key}
use Rattle.placed_containers.specs.Ways.{IsStop, LeadsOn, begin_of, end_of, reached}
use Rattle.placed_containers.proofs.Reached.{way-reached}
use Rattle.placed_containers.proofs.Leading.{stops-first, leads-more, stops-more, reached-more, reached-less}
use Rattle.placed_containers.proofs.ways.leading_parts.Goals as goal

pub loop-part-init : goal.loop-part-init
loop-part-init g c =
    let parts = c.args.parts.items in
    let same : parts ≡ c.into_iter-part-iterator.result.rest.items = search rules in
    let none : c.new-leading.result.items ≡ [] = search rules in
    let keys : c.insert.new.self.keys ≡ c.args.of ∷ [] = search rules in record {
      can_next = tt;
      is_finite = tt;
      left = subst (All (Contains parts)) same (All-contains_itself parts);
      members = subst (All (Contains parts)) (sym none) (All-nil (Contains parts));
      leads = subst (λ l. LeadsOn c.args.of (reverse l)) (sym none) tt;
      stops = stops-first c.args.of c.insert.new.self.keys (reverse c.new-leading.result.items) keys;
      goes = ap (λ l. reached l c.into_iter-part-iterator.result.rest.items) keys ∙ ap (reached (c.args.of ∷ [])) (sym same);
    }

pub loop-part-preserved-in-Continue-branch-3 : goal.loop-part-preserved-in-Continue-branch-3
loop-part-preserved-in-Continue-branch-3 g c =
    let of = c.args.of in
    let before = c.loop-part.invariant in
    let keys = c.loop-part.places.keys in
    let x = c.in-Some.part in
    let rest = c.next.new.self.rest.items in
    let is : c.loop-part.part-iterator.rest.items ≡ x ∷ rest = c.in-Some.ensures.steps.0 in
    let left = subst (All (Contains c.args.parts.items)) is before.left in
    let there : list_any (nat_eq (end_of x)) keys ≡ true = sym c.contains.ensures ∙ c.if-contains.true in
    let put : c.insert-then-contains.new.self.keys ≡ insert_key nat_eq keys (begin_of x) = search rules in
    let more : c.push.new.self.items ≡ c.loop-part.leading.items ++ x ∷ [] = c.in_ok-push.ensures.items in record {
      can_next = tt;
      is_finite = tt;
      left = All-tail (Contains c.args.parts.items) x rest left;
      members = subst (All (Contains c.args.parts.items)) (sym more) (All-push (Contains c.args.parts.items) c.loop-part.leading.items x before.members (All-head (Contains c.args.parts.items) x rest left));
      leads = leads-more of c.loop-part.leading.items c.push.new.self.items x more (before.stops (end_of x) there) before.leads;
      stops = stops-more of keys c.insert-then-contains.new.self.keys c.loop-part.leading.items c.push.new.self.items x put more before.stops;
      goes = reached-more keys c.insert-then-contains.new.self.keys x rest c.loop-part.part-iterator.rest.items (reached (of ∷ []) c.args.parts.items) is put there before.goes;
    }

pub loop-part-preserved : goal.loop-part-preserved
loop-part-preserved g c =
    let before = c.loop-part.invariant in
    let keys = c.loop-part.places.keys in
    let x = c.in-Some.part in
    let rest = c.next.new.self.rest.items in
    let is : c.loop-part.part-iterator.rest.items ≡ x ∷ rest = c.in-Some.ensures.steps.0 in
    let left = subst (All (Contains c.args.parts.items)) is before.left in
    let there : list_any (nat_eq (end_of x)) keys ≡ false = sym c.contains.ensures ∙ c.if-contains.false in record {
      can_next = tt;
      is_finite = tt;
      left = All-tail (Contains c.args.parts.items) x rest left;
      members = before.members;
      leads = before.leads;
      stops = before.stops;
      goes = reached-less keys x rest c.loop-part.part-iterator.rest.items (reached (c.args.of ∷ []) c.args.parts.items) is there before.goes;
    }

pub returns-clause-members : goal.returns-clause-members
returns-clause-members g c = All-permutation (Contains c.args.parts.items) c.loop-part.leading.items c.reverse.new.self.items c.reverse.ensures.permutation c.loop-part.invariant.members

pub returns-clause-reaches : goal.returns-clause-reaches
returns-clause-reaches g c = λ falling within p stops way.
    let of = c.args.of in
    let before = c.loop-part.invariant in
    let over : c.loop-part.part-iterator.rest.items ≡ [] = nil_from_length _ (sym c.loop-part.part-iterator.rest.ok.0 ∙ c.in-None.ensures.steps.0) in
    let goes : c.loop-part.places.keys ≡ reached (of ∷ []) c.args.parts.items = ap (reached c.loop-part.places.keys) (sym over) ∙ before.goes in
    let there = subst (λ l. list_any (nat_eq p) l ≡ true) (sym goes) (way-reached of c.args.parts.items falling within p stops way) in
    subst (λ l. IsStop of l p) (sym c.reverse.ensures.items) (before.stops p there)
