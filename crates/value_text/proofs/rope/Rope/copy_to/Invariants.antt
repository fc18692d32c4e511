use Rattle.std.proofs.Common.{◌≡◌, ◌++◌, flat_map, string_bytes, take}
use Rattle.value_text.proofs.rope.Rope.copy_to.Given as goal

-- the segments so far stand behind what was there
abbrev pub invariant-loop-segment : goal.invariant-loop-segment
invariant-loop-segment l = string_bytes l.out ≡ string_bytes l.initial.out ++ flat_map string_bytes (take l.segment-index l.segment-items)
