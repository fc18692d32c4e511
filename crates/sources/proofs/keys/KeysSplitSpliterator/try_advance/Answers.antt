use Rattle.std.proofs.Common.{rules, ◌≡◌, ◌∷◌, length, suc, ap, arith}
use Rattle.sources.proofs.DifferingParts.{differ-tail}
use Rattle.sources.proofs.keys.KeysSplitSpliterator.try_advance.Goals as goal

pub invariant_of-self : goal.invariant_of-self
invariant_of-self g c =
    let s = c.args.self.now in
    let eq = g.K.PartialEq.eq in
    let first = c.in-Some.first.now in
    let rest = c.in-Some.rest.now in
    let parts : s.keys.now ≡ first ∷ rest = c.in-Some.ensures.cases.0 in
    let count : length s.keys.now ≡ suc (length rest) = ap length parts in
    record {
      few = omega (arith, s.few);
      differ = differ-tail eq s.keys.now first rest parts s.differ;
    }

-- bounded: a wrong body would search to its limit
pub returns-clause-ok : goal.returns-clause-ok
returns-clause-ok g c = search rules fits 60 depth 3
