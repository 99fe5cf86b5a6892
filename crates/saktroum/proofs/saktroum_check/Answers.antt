-- `saktroum::saktroum_check` meets its contract.
use mathlib.Core.Path.{◌∙◌}
use Rattle.refusal_numbers.proofs.ToldLaws.{answers_as}
use Rattle.saktroum.proofs.saktroum_check.Goals as goal

pub returns : goal.returns
returns c = rw (answers_as (λ u. u) c.check-x.result ∙ c.check-x.ensures.result_value) at c.report_check.ensures
