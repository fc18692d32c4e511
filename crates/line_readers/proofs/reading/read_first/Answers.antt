use Rattle.std.proofs.Common.{◌≡◌, ◌∙◌, ap, string_bytes, subst}
use Rattle.std.specs.Prelude.{IfErr, IfOk}
use Rattle.std.specs.Io.KnownBytes.{prepend_known}
use Rattle.line_blocks.specs.Blocks.{TakesBlock}
use Rattle.line_blocks.specs.Faults.{IsFault}
use Rattle.line_blocks.proofs.Standing.{stands-first}
use Rattle.line_readers.proofs.Behind.{known-first}
use Rattle.line_readers.proofs.reading.read_first.Goals as goal

pub returns-clause-block : goal.returns-clause-block
returns-clause-block g c =
    let told = c.new-blocks.ensures in
    let blocks = c.new-blocks.result in
    let left = g.I.Read.remaining blocks.reader in
    subst (λ before. IfOk c.read_ahead.result (λ r. TakesBlock before (string_bytes r.1.text) (prepend_known r.0.rest.items (g.I.Read.remaining r.0.reader))))
    (known-first left blocks.rest.items told.rest ∙ ap g.I.Read.remaining told.reader) c.read_ahead.ensures.block

pub returns-clause-longest : goal.returns-clause-longest
returns-clause-longest g c = subst (λ n. IfOk c.read_ahead.result (λ r. r.0.longest ≡ n)) c.new-blocks.ensures.longest c.read_ahead.ensures.longest

pub returns-clause-stands : goal.returns-clause-stands
returns-clause-stands g c =
    let told = c.new-blocks.ensures in
    let blocks = c.new-blocks.result in
    let all = g.I.Read.remaining c.args.reader in
    c.read_ahead.ensures.stands all (stands-first all (g.I.Read.remaining blocks.reader) blocks.rest.items blocks.place (ap g.I.Read.remaining told.reader) told.rest told.place)

pub returns-clause-faults : goal.returns-clause-faults
returns-clause-faults g c =
    let told = c.new-blocks.ensures in
    let blocks = c.new-blocks.result in
    let all = g.I.Read.remaining c.args.reader in
    let stands = stands-first all (g.I.Read.remaining blocks.reader) blocks.rest.items blocks.place (ap g.I.Read.remaining told.reader) told.rest told.place in
    subst (λ n. IfErr c.read_ahead.result (IsFault n all)) told.longest (c.read_ahead.ensures.faults all stands)
