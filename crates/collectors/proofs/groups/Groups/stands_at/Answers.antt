use Rattle.std.proofs.Common.{◌≡◌, ◌∙◌, Some, ap, slice_get, sym}
use Rattle.collectors.proofs.Entries.{place-equal}
use Rattle.collectors.proofs.groups.Groups.stands_at.Goals as goal

pub returns-in-Some : goal.returns-in-Some
returns-in-Some g c = λ equal.
    let entry : g.row.K.Denot × g.row.A.Denot = (c.in-Some.there.now, c.in-Some.field-0-1.now) in
    let stands : slice_get c.args.self.now.entries.entries c.args.at ≡ Some entry = ap (λ es. slice_get es c.args.at) (sym c.as_slice.ensures.entries) ∙ sym c.in-Some.ensures.entry in
    place-equal g.K.PartialEq.eq g.met.K.Eq.laws c.args.self.now.entries.entries c.args.at entry c.args.key.now c.as_slice.ensures.unique stands (sym c.eq.ensures ∙ equal)
