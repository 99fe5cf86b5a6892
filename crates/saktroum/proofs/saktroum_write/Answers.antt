-- `saktroum::saktroum_write` meets its contract.
use mathlib.Core.Path.{◌∙◌}
use Rattle.refusal_numbers.proofs.ToldLaws.{answers_as}
use Rattle.saktroum.proofs.saktroum_write.Goals as goal

pub returns : goal.returns
returns c =
    let answer = answers_as (λ n. n) c.write-x.result ∙ c.write-x.ensures.result_value in
    record {
      value = rw answer at c.report_count.ensures.value;
      out_after = rw c.write-x.ensures.result_value at c.write-x.ensures.out_after;
      res_after = rw answer at c.report_count.ensures.res_after;
    }
