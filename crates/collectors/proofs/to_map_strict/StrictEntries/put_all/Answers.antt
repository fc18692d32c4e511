use Rattle.std.proofs.Common.{◌∙◌, ◌≡◌, [], ◌∷◌, fold, option_map, sym, ap}
use Rattle.collectors.specs.Grouping.{contents}
use Rattle.collectors.specs.StrictMaps.{strict_put}
use Rattle.collectors.proofs.to_map_strict.StrictEntries.put_all.Goals as goal

pub loop-entry-preserved : goal.loop-entry-preserved
loop-entry-preserved g c =
    let seen = contents g.K.Value.content g.V.Value.content in
    let puts = fold (λ s e. strict_put g.K.Value.same s.0 s.1 e) in
    let taken : c.loop-entry.entry-iterator ≡ c.in-Some.entry ∷ c.next.new.self = c.in-Some.ensures.steps in
    ap (λ s. puts s (seen c.next.new.self)) c.in_ok-put.ensures
    ∙ ap (λ es. puts (seen c.loop-entry.self.entries.entries, option_map g.K.Value.content c.loop-entry.self.repeated) (seen es)) (sym taken)
    ∙ c.loop-entry.invariant

pub returns : goal.returns
returns g c =
    let seen = contents g.K.Value.content g.V.Value.content in
    let puts = fold (λ s e. strict_put g.K.Value.same s.0 s.1 e) in
    let ended : c.loop-entry.entry-iterator ≡ [] = c.in-None.ensures.steps.0 in
    sym (ap (λ es. puts (seen c.loop-entry.self.entries.entries, option_map g.K.Value.content c.loop-entry.self.repeated) (seen es)) ended) ∙ c.loop-entry.invariant
