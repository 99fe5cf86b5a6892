-- `saktroum::saktroum_shown` meets its contract.
use mathlib.Core.Path.{◌∙◌}
use Rattle.shown_text.specs.Shown.{lies_at}
use Rattle.refusal_numbers.proofs.ToldLaws.{answers_as}
use Rattle.saktroum.proofs.saktroum_shown.Goals as goal

pub returns : goal.returns
returns c =
    let answer = answers_as lies_at c.shown-x.result ∙ c.shown-x.ensures in
    record {
      value = rw answer at c.report_shown.ensures.value;
      res_after = rw answer at c.report_shown.ensures.res_after;
    }
