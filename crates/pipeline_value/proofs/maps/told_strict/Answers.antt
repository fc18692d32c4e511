-- The text of the map, or of the key that is the first to come again.
use Rattle.std.proofs.Common.{sym, ap, subst, ◌∙◌, Ok, Err, map}
use Rattle.value_text.specs.Texts.{contents_tell}
use Rattle.pipeline_value.specs.Value.{Tells, Told}
use Rattle.pipeline_value.proofs.Strict.{map-told, repeat-told}
use Rattle.pipeline_value.proofs.maps.told_strict.Goals as goal

pub returns-in-Ok : goal.returns-in-Ok
returns-in-Ok g c = λ l given.
    let key = g.K.Mapping.image c.args._strict.now.key in
    let value = g.V.Mapping.image c.args._strict.now.value in
    let key_text = g.K.Out.Spelled.spelling in
    let value_text = g.V.Out.Spelled.spelling in
    let made = (rw c.in-Ok.is at given).0 in
    let told = map-told key_text value_text g.K.Out.Value.same g.met.K.Out.Value.same_decides key value l made.0 in
    let text = contents_tell g.K.Out.Written.text g.K.Out.Value.content key_text g.met.K.Out.Spelled.spelled g.V.Out.Written.text g.V.Out.Value.content value_text g.met.V.Out.Spelled.spelled
    c.in-Ok.entries.entries (map (λ x. (key x, value x)) l) made.1 in
    let P : Told → Type 0 = λ t. Tells t c.told.result in
    subst P (ap Ok text ∙ sym told) c.told.ensures

pub returns-in_ok-text_of-in-Err : goal.returns-in_ok-text_of-in-Err
returns-in_ok-text_of-in-Err g c = λ l given.
    let key = g.K.Mapping.image c.args._strict.now.key in
    let value = g.V.Mapping.image c.args._strict.now.value in
    let first = (rw c.in-Err.is at given).1 in
    let told = repeat-told g.K.Out.Spelled.spelling g.V.Out.Spelled.spelling g.K.Out.Value.same g.met.K.Out.Value.same_decides key value l (g.K.Out.Value.content c.in-Err.repeated.key) first in
    told ∙ ap Err (sym (g.met.K.Out.Spelled.spelled c.in-Err.repeated.key) ∙ sym c.in_ok-text_of-in-Err.ensures)
