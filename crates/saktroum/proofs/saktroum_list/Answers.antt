-- `saktroum::saktroum_list` meets its contract.
use mathlib.Core.Path.{◌∙◌}
use Rattle.interpreter.specs.Numbers.{listed_to}
use Rattle.refusal_numbers.proofs.ToldLaws.{answers_as}
use Rattle.saktroum.proofs.saktroum_list.Goals as goal

pub returns : goal.returns
returns c =
    let place = c.start_from-start.result.place in
    let answer = answers_as (listed_to place) c.list-x.result ∙ c.list-x.ensures.result_value in
    record {
      value = rw (answer, c.start_from-start.ensures, c.reading.ensures) at (c.report_list.ensures.by_index place);
      captures_after = rw (c.start_from-start.ensures, c.reading.ensures) at c.list-x.ensures.captures_after;
      list_reported = rw (answer, c.start_from-start.ensures, c.reading.ensures) at (c.report_list.ensures.by_index_2 place);
    }
