-- `saktroum::saktroum_read` meets its contract.
use mathlib.Core.Path.{ap, ◌∙◌}
use Rattle.reported.specs.Reported.{number}
use Rattle.refusal_numbers.proofs.ToldLaws.{answers_as}
use Rattle.saktroum.proofs.saktroum_read.Goals as goal

pub returns : goal.returns
returns c =
    let answer = answers_as (λ c. c) c.read-x.result ∙ c.read-x.ensures.result_value in
    let number_handed = c.report_read.ensures.value ∙ ap number answer in
    record {
      value = number_handed;
      nodes_after = rw c.read-x.ensures.result_value at c.read-x.ensures.nodes_after;
      rules_after = rw c.read-x.ensures.result_value at c.read-x.ensures.rules_after;
      res_after = rw answer at c.report_read.ensures.res_after;
    }
