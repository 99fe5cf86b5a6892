-- `stored_runs::remembering::lend` meets its contract.
use Rattle.std.proofs.Common.{arith}
use Rattle.stored_cases.proofs.Laws.{written_none, written_more}
use Rattle.stored_runs.proofs.remembering.lend.Goals as goal

pub loop-i-init : goal.loop-i-init
loop-i-init c = written_none _ _

pub loop-i-preserved : goal.loop-i-preserved
loop-i-preserved c = written_more c.loop-i.invariant (omega arith) c.lent_word.ensures
