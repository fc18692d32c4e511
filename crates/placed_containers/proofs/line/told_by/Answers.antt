use Rattle.std.proofs.Common.{◌∙◌, ◌++◌, ◌∷◌, [], IsSome, map, rules, ap, sym}
use Rattle.serde_json.specs.View.{view}
use Rattle.wire_form.proofs.Known.{array-items, items_of-same}
use Rattle.placed_containers.specs.Parts.{header_form}
use Rattle.placed_containers.proofs.Members.{before-last}
use Rattle.placed_containers.proofs.PartForms.{some-same}
use Rattle.placed_containers.proofs.line.told_by.Goals as goal

pub returns-in_default-clause-known : goal.returns-in_default-clause-known
returns-in_default-clause-known c = λ from to of container first second told.
    let same = some-same (sym c.in-Ok.ensures.ok ∙ told) in
    let some : IsSome c.split_last.result = c.split_last.ensures.known (header_form c.args.job.now from to of) container same in
    search rules

pub returns-in_default-header_of-clause-known : goal.returns-in_default-header_of-clause-known
returns-in_default-header_of-clause-known c = λ from to of container first second told.
    let same = some-same (sym c.in-Ok.ensures.ok ∙ told) in
    let header = header_form c.args.job.now from to of in
    let members = map view c.in-Some.members.items in
    let all = items_of-same (members ++ view c.in-Some.container ∷ []) (header ++ container ∷ []) (array-items (sym c.in-Some.ensures.form ∙ same)) in
    let some : IsSome c.header_of.result = c.header_of.ensures.known c.args.job.now from to of (ap (map view) c.as_slice.ensures.value ∙ before-last members header (view c.in-Some.container) container all) in
    search rules
