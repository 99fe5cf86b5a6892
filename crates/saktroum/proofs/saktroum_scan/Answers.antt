-- `saktroum::saktroum_scan` meets its contract.
use mathlib.Core.Path.{◌∙◌}
use Rattle.refusal_numbers.proofs.ToldLaws.{answers_as}
use Rattle.saktroum.proofs.saktroum_scan.Goals as goal

pub returns : goal.returns
returns c =
    let answer = answers_as (λ n. n) c.scan-x.result ∙ c.scan-x.ensures.result_value in
    record {
      value = rw answer at c.report_count.ensures.value;
      tokens_after = rw c.scan-x.ensures.result_value at c.scan-x.ensures.tokens_after;
      res_after = rw answer at c.report_count.ensures.res_after;
    }
