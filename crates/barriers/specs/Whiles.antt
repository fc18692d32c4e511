-- What follows a front.
use Rattle.std.specs.Prelude.{Bool, true, false, List, [], drop, take_while}
use Rattle.std.specs.List.{prefix_len}

-- What follows the longest front whose members all meet the test; std's `take_while` is that front.
-- java.util.stream.Stream, dropWhile and takeWhile
abbrev pub drop_while : {T : Type 0} → (T → Bool) → List T → List T
drop_while p items = drop (prefix_len p items) items

-- what `take_while` makes of the items behind others, of which all met the test or not all
abbrev pub taken_while : {T : Type 0} → Bool → (T → Bool) → List T → List T
taken_while true p items = take_while p items
taken_while false p items = []

-- what `drop_while` makes of the items behind others, of which all met the test or not all
abbrev pub left_while : {T : Type 0} → Bool → (T → Bool) → List T → List T
left_while true p items = drop_while p items
left_while false p items = items
