-- `places::past_blanks` meets its contract.
use Rattle.std.proofs.Common.{◌≡◌}
use Rattle.places.specs.InternalFind.{Room}
use Rattle.places.specs.Moves.{position, next_in}
use Rattle.places.proofs.past_blanks.Given as goal

abbrev pub invariant-loop-offset : goal.invariant-loop-offset
invariant-loop-offset l =
    Room l.report l.offset l.column × (next_in l.report l.from ≡ next_in l.report (position l.offset l.column l.from.mark))
