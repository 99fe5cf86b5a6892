-- `spellings::same` meets its contract. The loop's invariant: whether the bytes before `a` and `b` are the same in both.
use Rattle.std.proofs.Common.{length, ◌≡◌}
use Rattle.table.specs.Every.{every}
use Rattle.spellings.proofs.SpellingLaws.{agree}
use Rattle.spellings.proofs.same.Given as goal

abbrev pub invariant-loop-a : goal.invariant-loop-a
invariant-loop-a l = l.equal ≡ every (length l.yielded) (agree l.s l.t)
