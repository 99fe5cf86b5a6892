-- `saktroum::saktroum_run` meets its contract.
use mathlib.Core.Path.{◌∙◌}
use Rattle.interpreter.specs.Numbers.{ran_to}
use Rattle.refusal_numbers.proofs.ToldLaws.{answers_as}
use Rattle.saktroum.proofs.saktroum_run.Goals as goal

pub returns : goal.returns
returns c =
    let place = c.start_from-start.result.place in
    let answer = answers_as (ran_to place) c.run-x.result ∙ c.run-x.ensures.result_value in
    record {
      value = rw (answer, c.start_from-start.ensures, c.reading.ensures) at (c.report.ensures.by_index place);
      run_reported = rw (answer, c.start_from-start.ensures, c.reading.ensures) at (c.report.ensures.by_index_2 place);
    }
