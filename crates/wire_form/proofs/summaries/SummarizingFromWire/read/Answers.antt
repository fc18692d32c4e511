use Rattle.std.proofs.Common.{◌∙◌, rules, sym}
use Rattle.derived_collectors.specs.Summaries.{told}
use Rattle.wire_form.specs.FormLaws.{pair-first, pair-second}
use Rattle.wire_form.proofs.KnownSummaries.{known-count, known-sum, known-least, known-greatest}
use Rattle.wire_form.proofs.summaries.SummarizingFromWire.read.Goals as goal

pub returns-in_err-count-2-clause-known : goal.returns-in_err-count-2-clause-known
returns-in_err-count-2-clause-known g c = λ l h.
    let number = g.M.Mapping.image c.args.self.now.number in
    let value = known-count number g.T.Value.is_value (g.met.M.Mapping.images_are_values c.args.self.now.number) l h.1.0 (told h.0) h.1.1 in
    let side = pair-first (h.2 ∙ sym c.in_ok-totals.ensures.form) in
    let memory = c.in_err-count-2.ensures.known h.0.count value (pair-first (side ∙ sym c.in_ok-count.ensures.form)) in
    search rules

pub returns-in_err-sum-clause-known : goal.returns-in_err-sum-clause-known
returns-in_err-sum-clause-known g c = λ l h.
    let number = g.M.Mapping.image c.args.self.now.number in
    let value = known-sum number g.T.Value.is_value (g.met.M.Mapping.images_are_values c.args.self.now.number) l h.1.0 (told h.0) h.1.1 in
    let side = pair-first (h.2 ∙ sym c.in_ok-totals.ensures.form) in
    let memory = c.in_err-sum.ensures.known h.0.sum value (pair-second (side ∙ sym c.in_ok-count.ensures.form)) in
    search rules

pub returns-in_err-least-2-clause-known : goal.returns-in_err-least-2-clause-known
returns-in_err-least-2-clause-known g c = λ l h.
    let number = g.M.Mapping.image c.args.self.now.number in
    let value = known-least number g.T.Value.is_value (g.met.M.Mapping.images_are_values c.args.self.now.number) l h.1.0 (told h.0) h.1.1 in
    let side = pair-second (h.2 ∙ sym c.in_ok-totals.ensures.form) in
    let memory = c.in_err-least-2.ensures.known h.0.least value (pair-first (side ∙ sym c.in_ok-least.ensures.form)) in
    search rules

pub returns-in_err-greatest-clause-known : goal.returns-in_err-greatest-clause-known
returns-in_err-greatest-clause-known g c = λ l h.
    let number = g.M.Mapping.image c.args.self.now.number in
    let value = known-greatest number g.T.Value.is_value (g.met.M.Mapping.images_are_values c.args.self.now.number) l h.1.0 (told h.0) h.1.1 in
    let side = pair-second (h.2 ∙ sym c.in_ok-totals.ensures.form) in
    let memory = c.in_err-greatest.ensures.known h.0.greatest value (pair-second (side ∙ sym c.in_ok-least.ensures.form)) in
    search rules
