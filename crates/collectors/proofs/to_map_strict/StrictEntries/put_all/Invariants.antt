use Rattle.std.proofs.Common.{◌≡◌, fold, option_map}
use Rattle.collectors.specs.Grouping.{contents}
use Rattle.collectors.specs.StrictMaps.{strict_put}
use Rattle.collectors.proofs.to_map_strict.StrictEntries.put_all.Given as goal

abbrev pub invariant-loop-entry : goal.invariant-loop-entry
invariant-loop-entry g l =
    let seen = contents g.K.Value.content g.V.Value.content in
    let repeat = option_map g.K.Value.content in
    let puts = fold (λ s e. strict_put g.K.Value.same s.0 s.1 e) in
    puts (seen l.self.entries.entries, repeat l.self.repeated) (seen l.entry-iterator)
    ≡ puts (seen l.fn.self.entries.entries, repeat l.fn.self.repeated) (seen l.fn.entries.entries)
