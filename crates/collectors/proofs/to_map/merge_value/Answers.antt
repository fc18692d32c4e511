use Rattle.std.proofs.Common.{◌∙◌, ◌≡◌, sym, ap, None}
use Rattle.std.proofs.lemmas.Result.{on_ok_weaker}
use Rattle.std.specs.Map.{lookup}
use Rattle.indexmap.specs.IndexMap.{insert_entry}
use Rattle.collectors.specs.Grouping.{contents}
use Rattle.collectors.proofs.Entries.{put-set_value, put-insert_entry}
use Rattle.collectors.proofs.to_map.merge_value.Goals as goal

pub returns-in-Some : goal.returns-in-Some
returns-in-Some g c =
    let join = g.M.Operator.join c.args.merge.now in
    let keys = g.K.Value.content in
    let values = g.U.Value.content in
    let value = values c.args.entry.1 in
    let written = c.get_mut.follows.holds c.join_into.new.joined in
    on_ok_weaker c.join_into.result
    (λ joined. ap (contents keys values) written.0
    ∙ put-set_value g.K.PartialEq.eq g.K.Value.same keys values g.met.K.EqualValue.eq_is_same c.args.entry.0 c.in-Some.earlier.now c.join_into.new.joined
    value (λ a. join a value) joined c.args.map.now.entries (sym c.in-Some.ensures.value))
    c.join_into.ensures

pub returns : goal.returns
returns g c =
    let join = g.M.Operator.join c.args.merge.now in
    let keys = g.K.Value.content in
    let values = g.U.Value.content in
    let es = c.args.map.now.entries in
    let unchanged = ap (λ m. m.entries) c.get_mut.follows.holds-at-none in
    let absent : lookup (g.K.PartialEq.eq c.args.entry.0) es ≡ None = sym c.in_default.ensures.value in
    on_ok_weaker c.add_entry.result
    (λ added. ap (contents keys values) (added ∙ ap (λ es. insert_entry g.K.PartialEq.eq es c.args.entry.0 c.args.entry.1) unchanged)
    ∙ put-insert_entry g.K.PartialEq.eq g.K.Value.same keys values g.met.K.EqualValue.eq_is_same c.args.entry.0 c.args.entry.1
    (λ a. join a (values c.args.entry.1)) es absent)
    c.add_entry.ensures
