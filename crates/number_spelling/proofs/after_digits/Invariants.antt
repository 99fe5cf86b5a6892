-- `number_spelling::after_digits` meets its contract: what stands behind the digits of the rest is what stands behind those of
-- the whole.
use Rattle.std.proofs.Common.{◌≡◌, length}
use Rattle.number_spelling.specs.Number.{after_digits}
use Rattle.number_spelling.proofs.after_digits.Given as goal

abbrev pub invariant-loop-rest : goal.invariant-loop-rest
invariant-loop-rest l = after_digits l.rest ≡ after_digits l.s

abbrev pub decreases-loop-rest : goal.decreases-loop-rest
decreases-loop-rest l = length l.rest
