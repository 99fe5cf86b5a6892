-- `stored_runs::remembering::lend` meets its contract.
use Rattle.stored_cases.proofs.Laws.{Written}
use Rattle.stored_runs.specs.Remembered.{lent_word}
use Rattle.stored_runs.proofs.remembering.lend.Given as goal

abbrev pub invariant-loop-i : goal.invariant-loop-i
invariant-loop-i l = Written (lent_word l.contents l.node) l.initial.words l.words l.i
