use Rattle.std.proofs.Common.{◌≡◌, ◌++◌, ◌∷◌, [], Bool, List, append-nil, append_assoc, cond, filter, not, true, false, ap, sym, ◌∙◌, rules}
use Rattle.std.specs.List.{list_any}
use Rattle.std.proofs.lemmas.List.{nil_from_length}
use Rattle.barriers.proofs.distinct.without_known.Goals as goal

pub loop-x-preserved-in-Some-place_of : goal.loop-x-preserved-in-Some-place_of
loop-x-preserved-in-Some-place_of g c =
    let eq = g.T.PartialEq.eq in
    let came : _ → Bool = λ x. list_any (eq x) c.args.came.now.keys in
    let new : List _ → List _ = filter (λ x. not (came x)) in
    let x = c.in-Some.x in
    let rest = c.next.new.self.rest.items in
    let kept = c.loop-x.kept.items in
    let taken : c.loop-x.x-iterator.rest.items ≡ x ∷ rest = search rules in
    let known : came x ≡ true = search rules in
    sym (ap (λ l. kept ++ new l) taken ∙ ap (λ b. kept ++ cond (not b) (x ∷ new rest) (new rest)) known) ∙ c.loop-x.invariant

pub loop-x-preserved : goal.loop-x-preserved
loop-x-preserved g c =
    let eq = g.T.PartialEq.eq in
    let came : _ → Bool = λ x. list_any (eq x) c.args.came.now.keys in
    let new : List _ → List _ = filter (λ x. not (came x)) in
    let x = c.in-Some.x in
    let rest = c.next.new.self.rest.items in
    let kept = c.loop-x.kept.items in
    let taken : c.loop-x.x-iterator.rest.items ≡ x ∷ rest = search rules in
    let is_new : came x ≡ false = search rules in
    let pushed : c.push.new.self.items ≡ kept ++ x ∷ [] = search rules in
    ap (λ l. l ++ new rest) pushed
    ∙ append_assoc kept (x ∷ []) (new rest)
    ∙ sym (ap (λ l. kept ++ new l) taken ∙ ap (λ b. kept ++ cond (not b) (x ∷ new rest) (new rest)) is_new)
    ∙ c.loop-x.invariant

pub returns : goal.returns
returns g c =
    let new : List _ → List _ = filter (λ x. not (list_any (g.T.PartialEq.eq x) c.args.came.now.keys)) in
    let none : c.loop-x.x-iterator.rest.items ≡ [] = nil_from_length _ (sym c.loop-x.x-iterator.rest.ok.0 ∙ c.in-None.ensures.steps.0) in
    let kept = c.loop-x.kept.items in
    sym (append-nil kept) ∙ sym (ap (λ l. kept ++ new l) none) ∙ c.loop-x.invariant
