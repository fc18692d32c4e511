use Rattle.std.proofs.Common.{ap, ap₂, ◌∙◌}
use Rattle.std.specs.List.{zip}
use Rattle.indexmap.proofs.ReorderLemmas.{zip_of_parts}
use Rattle.sources.specs.Entries.{entry_contents}
use Rattle.sources.proofs.entries.EntriesSplit.new.Goals as goal

pub returns : goal.returns
returns g c =
    let keys = c.as_slice-keys.ensures ∙ c.keys.ensures.rest in
    let values = c.as_slice-values.ensures ∙ c.values.ensures.rest in
    ap (entry_contents g.K.Value.content g.V.Value.content) (ap₂ zip keys values ∙ zip_of_parts c.args.entries.now.entries)
