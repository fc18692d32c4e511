use Rattle.std.proofs.Common.{rules, ◌≡◌, length, suc, ap, arith}
use Rattle.sources.proofs.DifferingParts.{differ-tail}
use Rattle.sources.proofs.entries.EntriesSplitSpliterator.try_advance.Goals as goal

pub invariant_of-self : goal.invariant_of-self
invariant_of-self g c =
    let s = c.args.self.now in
    let eq = g.K.PartialEq.eq in
    let first = c.parted.result.0.now in
    let rest = c.parted.result.1.now in
    let count : length s.keys.now ≡ suc (length rest) = ap length c.parted.ensures in
    let also : length s.values.now ≡ suc (length c.parted-2.result.1.now) = ap length c.parted-2.ensures in
    record {
      few = omega (arith, s.few);
      paired = omega (arith, s.paired);
      differ = differ-tail eq s.keys.now first rest c.parted.ensures s.differ;
    }

-- bounded: a wrong body would search to its limit
pub returns-clause-ok : goal.returns-clause-ok
returns-clause-ok g c = search rules fits 60 depth 3
