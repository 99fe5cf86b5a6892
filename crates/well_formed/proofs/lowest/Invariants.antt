-- `well_formed::lowest` meets its contract.
use Rattle.std.proofs.Common.{◌≡◌, ◌-◌, false, get_or}
use Rattle.well_formed.specs.Check.{verdict_from}
use Rattle.well_formed.proofs.lowest.Given as goal

abbrev pub invariant-loop-n : goal.invariant-loop-n
invariant-loop-n l =
    verdict_from (λ m. get_or l.found m false) 0 l.count ≡ verdict_from (λ m. get_or l.found m false) l.n (l.count - l.n)
