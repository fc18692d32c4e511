use Rattle.std.proofs.Common.{◌∙◌, ◌≡◌, sym, ap, None}
use Rattle.std.proofs.lemmas.Result.{on_ok_weaker}
use Rattle.std.specs.Map.{lookup}
use Rattle.indexmap.specs.IndexMap.{insert_entry}
use Rattle.collectors.specs.Grouping.{contents}
use Rattle.collectors.proofs.Entries.{put-set_value, put-insert_entry}
use Rattle.collectors.proofs.grouping.merge_group.Goals as goal

pub returns-in-Some : goal.returns-in-Some
returns-in-Some g c =
    let d = c.args.downstream.now in
    let keys = g.K.Value.content in
    let kept = g.D.Collector.content d in
    let later = kept c.args.group.1 in
    let written = c.get_mut.follows.holds c.combine.new.left in
    on_ok_weaker c.combine.result
    (λ merged. ap (contents keys kept) written.0
    ∙ put-set_value g.K.PartialEq.eq g.K.Value.same keys kept g.met.K.EqualValue.eq_is_same c.args.group.0 c.in-Some.earlier.now c.combine.new.left
    later (λ a. g.D.Collector.merge d a later) merged c.args.left.now.entries (sym c.in-Some.ensures.value))
    c.combine.ensures

pub returns : goal.returns
returns g c =
    let d = c.args.downstream.now in
    let keys = g.K.Value.content in
    let kept = g.D.Collector.content d in
    let es = c.args.left.now.entries in
    let unchanged = ap (λ m. m.entries) c.get_mut.follows.holds-at-none in
    let absent : lookup (g.K.PartialEq.eq c.args.group.0) es ≡ None = sym c.in_default.ensures.value in
    on_ok_weaker c.add_entry.result
    (λ added. ap (contents keys kept) (added ∙ ap (λ es. insert_entry g.K.PartialEq.eq es c.args.group.0 c.args.group.1) unchanged)
    ∙ put-insert_entry g.K.PartialEq.eq g.K.Value.same keys kept g.met.K.EqualValue.eq_is_same c.args.group.0 c.args.group.1
    (λ a. g.D.Collector.merge d a (kept c.args.group.1)) es absent)
    c.add_entry.ensures
