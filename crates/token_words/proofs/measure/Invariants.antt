-- `token_words::measure` meets its contract.
use Rattle.std.proofs.Common.{length}
use Rattle.token_words.proofs.LoopLaws.{ahead, Counting}
use Rattle.token_words.proofs.measure.Given as goal

abbrev pub invariant-loop-next : goal.invariant-loop-next
invariant-loop-next l = Counting l.report l.n l.next

abbrev pub decreases-loop-next : goal.decreases-loop-next
decreases-loop-next l = length (ahead l.report l.next)
