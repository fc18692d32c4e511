use Rattle.std.proofs.Common.{rules, ◌≡◌, ◌∷◌, ◌++◌, ◌∙◌, ap, ap₂, sym, map, fold, length, arith}
use Rattle.std.proofs.lemmas.List.{take_all}
use Rattle.derived_collectors.specs.Facts.{no_facts, add_facts, merge_facts}
use Rattle.derived_collectors.specs.Summaries.{told, told_of}
use Rattle.collectors.proofs.Folded.{folded-next}
use Rattle.derived_collectors.proofs.Halves.{both_halves}
use Rattle.derived_collectors.proofs.summarizing.Summarizing.with_halves.Goals as goal

pub loop-at-preserved : goal.loop-at-preserved
loop-at-preserved g c =
    let image = g.M.Mapping.image c.args.self.now.number in
    let content = g.T.Value.content in
    let add = add_facts image in
    let at = c.loop-at.at in
    let front = c.in-Some.front.now in
    let back = c.in-Some-split_first.back.now in
    let early : told_of c.with-early-in-loop-at.result ≡ add (told_of c.loop-at.early) (content c.index-front-at.result) = search rules in
    let late : told_of c.with-late-in-loop-at.result ≡ add (told_of c.loop-at.late) (content c.index-back-at.result) = search rules in
    let whole_front = ap length c.in-Some.ensures.cases.0 in
    let whole_back = ap length c.in-Some-split_first.ensures.cases.0 in
    let alike : length front ≡ length back = omega (arith, whole_front, whole_back, c.requires.alike) in (
      folded-next content add (told_of c.with-early.result) (told_of c.loop-at.early) _ front at c.index-front-at.result (omega (arith, c.loop-at-test.true)) c.index-front-at.is c.loop-at.invariant.0 early,
      folded-next content add (told_of c.with-late.result) (told_of c.loop-at.late) _ back at c.index-back-at.result (omega (arith, c.loop-at-test.true, alike)) c.index-back-at.is c.loop-at.invariant.1 late,
    )

pub returns : goal.returns
returns g c =
    let image = g.M.Mapping.image c.args.self.now.number in
    let content = g.T.Value.content in
    let add = add_facts image in
    let before = told c.args.before in
    let at = c.loop-at.at in
    let first = content c.in-Some.first.now in
    let middle = content c.in-Some-split_first.middle.now in
    let front = c.in-Some.front.now in
    let back = c.in-Some-split_first.back.now in
    let whole_front = ap length c.in-Some.ensures.cases.0 in
    let whole_back = ap length c.in-Some-split_first.ensures.cases.0 in
    let alike : length front ≡ length back = omega (arith, whole_front, whole_back, c.requires.alike) in
    let begun : told_of c.with-early.result ≡ add before first = search rules in
    let begun_late : told_of c.with-late.result ≡ add no_facts middle = search rules in
    let early : told c.summary.result ≡ fold add (add before first) (map content front) =
    c.summary.ensures ∙ c.loop-at.invariant.0
    ∙ ap₂ (λ f l. fold add f (map content l)) begun (take_all at front (omega (arith, c.loop-at-test.false))) in
    let late : told c.summary-2.result ≡ fold add (add no_facts middle) (map content back) =
    c.summary-2.ensures ∙ c.loop-at.invariant.1
    ∙ ap₂ (λ f l. fold add f (map content l)) begun_late (take_all at back (omega (arith, c.loop-at-test.false, alike))) in
    let joined : told c.and.result ≡ fold add before (first ∷ map content front ++ middle ∷ map content back) =
    c.and.ensures ∙ ap₂ merge_facts early late ∙ both_halves image before (first ∷ map content front) middle (map content back) in
    record {
      told = joined ∙ ap₂ (λ f b. fold add before (map content f ++ map content b)) (sym c.in-Some.ensures.cases.0) (sym c.in-Some-split_first.ensures.cases.0);
    }
