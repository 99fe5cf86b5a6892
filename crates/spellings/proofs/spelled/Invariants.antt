-- `spellings::spelled` meets its contract. The loop's invariant: whether the bytes before `b` are visible.
use Rattle.std.proofs.Common.{◌≡◌, get_or}
use Rattle.table.specs.Every.{every}
use Rattle.spellings.specs.Spellings.{visible}
use Rattle.spellings.proofs.spelled.Given as goal

abbrev pub invariant-loop-b : goal.invariant-loop-b
invariant-loop-b l = l.right ≡ every l.b-index (λ k. visible (get_or l.s k 0))
