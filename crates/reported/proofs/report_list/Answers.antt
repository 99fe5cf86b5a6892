-- `reported::report_list` meets its contract.
use Rattle.reported.specs.Reported.{list_failure}
use Rattle.reported.proofs.ListLaws.{listed}
use Rattle.reported.proofs.report_list.Goals as goal

pub returns-in-Ok-Success-clause-by_index_2 : goal.returns-in-Ok-Success-clause-by_index_2
returns-in-Ok-Success-clause-by_index_2 g c =
    λ place.
    let list = rw c.in-Ok-Success.is at c.in-Ok-Success.field-0-is in
    rw (c.in-Ok-Success.is, list)
    (listed c.in-Ok-Success.read c.in-Ok-Success.s c.in-Ok-Success.count place c.args.res.now c.success_words-w.ensures)

pub returns-in-Ok-Failure-clause-by_index_2 : goal.returns-in-Ok-Failure-clause-by_index_2
returns-in-Ok-Failure-clause-by_index_2 g c =
    λ place.
    let list = rw c.in-Ok-Failure.is at c.in-Ok-Failure.field-0-is in
    rw (c.in-Ok-Failure.is, list) list_failure
