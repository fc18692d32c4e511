use Rattle.std.proofs.Common.{◌≡◌, []}
use Rattle.std.specs.Io.KnownBytes.{Keeps, prepend_known}
use Rattle.line_blocks.proofs.blocks.LineBlocks.next_bytes.Given as goal

-- what was read stands behind the rest, which is taken
abbrev pub invariant-loop : goal.invariant-loop
invariant-loop g l =
    record {
      kept : Keeps (prepend_known l.fn.self.rest.items (g.I.Read.remaining l.fn.self.reader)) (prepend_known l.bytes.items (g.I.Read.remaining l.self.reader));
      place : l.self.place ≡ l.fn.self.place;
      size : l.self.size ≡ l.fn.self.size;
      longest : l.self.longest ≡ l.fn.self.longest;
      rest : l.self.rest.items ≡ [];
    }
