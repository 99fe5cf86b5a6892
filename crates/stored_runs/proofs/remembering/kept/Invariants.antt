-- `stored_runs::remembering::kept` meets its contract.
use Rattle.stored_runs.specs.Remembered.{lent_word}
use Rattle.stored_runs.proofs.RememberedLaws.{Still}
use Rattle.stored_runs.proofs.remembering.kept.Given as goal

abbrev pub invariant-loop-i : goal.invariant-loop-i
invariant-loop-i l = Still (lent_word l.contents l.node) l.words l.i
