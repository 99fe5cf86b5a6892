-- `spellings::single_alone` meets its contract. The loop's invariant: whether none of the bytes before `b` is a
-- single byte.
use Rattle.std.proofs.Common.{◌≡◌, not, get_or}
use Rattle.table.specs.Every.{every}
use Rattle.byte_class.specs.Bytes.{is_single}
use Rattle.spellings.proofs.single_alone.Given as goal

abbrev pub invariant-loop-b : goal.invariant-loop-b
invariant-loop-b l = l.none ≡ every l.b-index (λ k. not (is_single (get_or l.s k 0)))
