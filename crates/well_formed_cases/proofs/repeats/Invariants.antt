-- `well_formed_cases::repeats` meets its contract. The loop's invariant: no call was made yet, or the number is the one
-- expected.
use Rattle.std.proofs.Common.{◌≡◌, ◌⊎◌}
use Rattle.well_formed_cases.specs.Repeats.{stored_number}
use Rattle.well_formed_cases.proofs.repeats.Given as goal

abbrev pub invariant-loop-i : goal.invariant-loop-i
invariant-loop-i l = (l.i ≡ 0) ⊎ (stored_number l.nodes l.rules ≡ l.expected)
