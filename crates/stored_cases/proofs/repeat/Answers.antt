-- `stored_cases::repeat` meets its contract.
use Rattle.std.proofs.Common.{arith}
use Rattle.stored_cases.proofs.Laws.{repeating_more}
use Rattle.stored_cases.proofs.repeat.Goals as goal

pub loop-i-preserved : goal.loop-i-preserved
loop-i-preserved c = repeating_more _ _ _ _ c.loop-i.invariant (omega arith)
