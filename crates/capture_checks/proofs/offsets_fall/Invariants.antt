-- `capture_checks::offsets_fall` meets its contract. The loop's invariant: no offset of the first `i` pairs falls.
use Rattle.std.proofs.Common.{◌≡◌, true}
use Rattle.table.specs.Every.{every}
use Rattle.capture_checks.proofs.CaptureLaws.{not_below}
use Rattle.capture_checks.proofs.offsets_fall.Given as goal

abbrev pub invariant-loop-i : goal.invariant-loop-i
invariant-loop-i l = every l.i (not_below l.tokens l.first) ≡ true
