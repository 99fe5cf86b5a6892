-- `reported::report` meets its contract.
use Rattle.std.proofs.Common.{refl}
use Rattle.reported.specs.Reported.{of_success, of_failure}
use Rattle.reported.proofs.report.Goals as goal

pub returns-in-Ok-Success-clause-by_index_2 : goal.returns-in-Ok-Success-clause-by_index_2
returns-in-Ok-Success-clause-by_index_2 g c =
    λ place.
    let ran = rw c.in-Ok-Success.is at c.in-Ok-Success.field-0-is in
    rw (c.in-Ok-Success.is, ran, c.success_words.ensures) (of_success refl)

pub returns-in-Ok-Failure-clause-by_index_2 : goal.returns-in-Ok-Failure-clause-by_index_2
returns-in-Ok-Failure-clause-by_index_2 g c =
    λ place.
    let ran = rw c.in-Ok-Failure.is at c.in-Ok-Failure.field-0-is in
    rw (c.in-Ok-Failure.is, ran) of_failure
