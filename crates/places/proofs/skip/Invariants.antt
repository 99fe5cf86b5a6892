-- `places::skip` meets its contract.
use Rattle.std.proofs.Common.{◌≡◌}
use Rattle.places.specs.InternalFind.{Room}
use Rattle.places.specs.Moves.{position, next_in}
use Rattle.places.proofs.skip.Given as goal

abbrev pub invariant-loop-offset : goal.invariant-loop-offset
invariant-loop-offset l =
    Room l.report l.offset l.column × (next_in l.report l.fn.from ≡ next_in l.report (position l.offset l.column l.start.mark))
