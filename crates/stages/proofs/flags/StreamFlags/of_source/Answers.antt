use Rattle.std.proofs.Common.{Some, None, if◌then◌else◌, ap, ◌∙◌, sym, subst}
use Rattle.spliterator.specs.Characteristics.{tells}
use Rattle.spliterator.specs.declared.characteristics.TheConstants.{SIZED}
use Rattle.stages.specs.declared.flags.StreamFlags.{StreamFlags}
use Rattle.stages.specs.Flags.{IsSound, flags_of}
use Rattle.stages.specs.FlagLaws.{IsSound-source}
use Rattle.stages.proofs.flags.StreamFlags.of_source.Goals as goal

pub returns-clause-sound : goal.returns-clause-sound
returns-clause-sound g c =
    let s = c.args.source.now in
    let told = g.S.Spliterator.told s in
    let estimate = g.S.Spliterator.estimate s in
    let items = g.S.Spliterator.items s in
    let P : StreamFlags → Type 0 = λ flags. IsSound g.S.Item.OrderedValue.order flags (if tells told SIZED then Some estimate else None) items in
    subst P (sym (c.of.ensures ∙ ap (λ t. flags_of t) c.characteristics.ensures))
    (IsSound-source g.S.Item.OrderedValue.order told estimate items (g.met.S.Spliterator.flag_law s) (g.met.S.Spliterator.size_law s))
