use Rattle.std.proofs.Common.{sym}
use Rattle.sources.specs.Entries.{length-contents}
use Rattle.sources.proofs.entries.EntriesSplitSpliterator.estimate_size.Goals as goal

pub returns : goal.returns
returns g c =
    let s = c.args.self.now in
    sym (length-contents g.K.Value.content g.V.Value.content s.keys.now s.values.now s.paired)
