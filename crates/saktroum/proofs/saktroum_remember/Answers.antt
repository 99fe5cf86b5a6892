-- `saktroum::saktroum_remember` meets its contract.
use mathlib.Core.Path.{◌∙◌}
use Rattle.interpreter.specs.Numbers.{ran_to}
use Rattle.refusal_numbers.proofs.ToldLaws.{answers_as}
use Rattle.saktroum.proofs.saktroum_remember.Goals as goal

pub returns : goal.returns
returns c =
    let place = c.start_from-start.result.place in
    let answer = answers_as (ran_to place) c.remember-x.result ∙ c.remember-x.ensures.result_value in
    record {
      value = rw (answer, c.start_from-start.ensures, c.reading.ensures) at (c.report.ensures.by_index place);
      memory_after = rw (c.start_from-start.ensures, c.reading.ensures) at c.remember-x.ensures.memory_after;
      run_reported = rw (answer, c.start_from-start.ensures, c.reading.ensures) at (c.report.ensures.by_index_2 place);
    }
