use Rattle.std.proofs.Common.{rules, ◌≡◌, arith}
use Rattle.derived_collectors.specs.Facts.{add_facts}
use Rattle.derived_collectors.specs.Summaries.{told}
use Rattle.collectors.proofs.Folded.{folded-next}
use Rattle.derived_collectors.proofs.summarizing.Summarizing.with_last.Goals as goal

pub loop-item-preserved : goal.loop-item-preserved
loop-item-preserved g c =
    let image = g.M.Mapping.image c.args.self.now.number in
    let content = g.T.Value.content in
    let seen : told c.summary-summary.result ≡ add_facts image (told c.loop-item.summary) (content c.item-item.result) = search rules in
    folded-next content (add_facts image) (told c.args.before) (told c.loop-item.summary) (told c.summary-summary.result) c.args.items.now c.loop-item.item-index c.item-item.result
    (omega (arith, c.loop-item-test.true)) c.item-item.is c.loop-item.invariant seen
