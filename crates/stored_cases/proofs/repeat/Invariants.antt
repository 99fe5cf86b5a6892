-- `stored_cases::repeat` meets its contract.
use Rattle.stored_cases.proofs.Laws.{Repeating}
use Rattle.stored_cases.proofs.repeat.Given as goal

abbrev pub invariant-loop-i : goal.invariant-loop-i
invariant-loop-i l = Repeating l.initial.bytes l.from l.i-end l.distance l.bytes l.i
