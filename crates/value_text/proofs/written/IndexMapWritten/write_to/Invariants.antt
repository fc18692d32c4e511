-- The text so far, with what the entries left add to it, is that with all of them.
use Rattle.std.proofs.Common.{◌≡◌, ◌++◌, map, codes, string_bytes}
use denote.Text.{Utf8}
use denote.Shadow.{shadow}
use Rattle.value_text.specs.Texts.{with_commas, entry_text}
use Rattle.value_text.proofs.Separated.{behind}
use Rattle.value_text.proofs.written.IndexMapWritten.write_to.Given as goal

abbrev pub invariant-loop-key : goal.invariant-loop-key
invariant-loop-key g l =
    (goal.iterator-loop-key g).can_next l.key-iterator ×
    (goal.iterator-loop-key g).is_finite l.key-iterator ×
    shadow (Utf8 l.separator)
    × (string_bytes l.out ++ behind l.separator (map (entry_text g.K.Written.text g.V.Written.text) l.key-iterator) ≡ string_bytes l.fn.out ++ codes "{" ++ with_commas (map (entry_text g.K.Written.text g.V.Written.text) l.self.entries))
