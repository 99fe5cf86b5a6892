-- `spellings::key` meets its contract. The loop's invariant: the sum over the bytes before `b`.
use Rattle.std.proofs.Common.{length}
use Rattle.spellings.proofs.KeyLaws.{Summed}
use Rattle.spellings.proofs.key.Given as goal

abbrev pub invariant-loop-b : goal.invariant-loop-b
invariant-loop-b l = Summed l.s (length l.yielded) l.sum
