-- One more entry was written behind its separator.
use Rattle.std.proofs.Common.{rules, ◌≡◌, ◌++◌, ◌∷◌, map, sym, ap, ◌∙◌, string_bytes}
use Rattle.value_text.specs.Texts.{entry_text}
use Rattle.value_text.proofs.Separated.{behind, behind-next}
use Rattle.value_text.proofs.written.IndexMapWritten.write_to.Goals as goal

pub loop-key-preserved : goal.loop-key-preserved
loop-key-preserved g c =
    let text = entry_text g.K.Written.text g.V.Written.text in
    let done = string_bytes c.loop-key.out in
    let entry : g.row.K.Denot × g.row.V.Denot = (c.in-Some.key.now, c.in-Some.value.now) in
    let left : c.loop-key.key-iterator ≡ entry ∷ c.next.new.self = c.in-Some.ensures.steps in
    let now : string_bytes c.write_entry.new.out ≡ done ++ c.loop-key.separator.now ++ text entry = c.in_ok-write_entry.ensures in
    (tt, tt, search rules, behind-next done _ _ _ _ now ∙ ap (λ es. done ++ behind c.loop-key.separator.now (map text es)) (sym left) ∙ c.loop-key.invariant.3)
