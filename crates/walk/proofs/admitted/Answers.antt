-- `walk::admitted` meets its contract.
use Rattle.std.proofs.Common.{sym, ◌∙◌}
use Rattle.std.proofs.lemmas.Result.{err_from_is_err_and}
use Rattle.walk.proofs.RunLaws.{check_refuses, refused_11, refused_12, refused_16}
use Rattle.walk.proofs.admitted.Goals as goal

pub returns-in_err-check : goal.returns-in_err-check
returns-in_err-check c =
    let p = err_from_is_err_and c.from_residual.result c.from_residual.ensures.1 in
    rw (p.1, p.2) (check_refuses _ _ _ _ _ _ c.in_err-check.ensures.result_value)

pub returns-then-tokens_wrong : goal.returns-then-tokens_wrong
returns-then-tokens_wrong c = refused_11 _ _ _ _ _ (sym c.in_ok-check.ensures.result_value) (sym c.tokens_wrong.ensures ∙ c.if-tokens_wrong.true)

pub returns-then-start_wrong : goal.returns-then-start_wrong
returns-then-start_wrong c =
    refused_12 _ _ _ _ _ (sym c.in_ok-check.ensures.result_value) (sym c.tokens_wrong.ensures ∙ c.if-tokens_wrong.false)
    (sym c.start_wrong.ensures ∙ c.if-start_wrong.true)

pub returns-then-reading_wrong : goal.returns-then-reading_wrong
returns-then-reading_wrong c =
    refused_16 _ _ _ _ _ (sym c.in_ok-check.ensures.result_value) (sym c.tokens_wrong.ensures ∙ c.if-tokens_wrong.false)
    (sym c.start_wrong.ensures ∙ c.if-start_wrong.false) (sym c.reading_wrong.ensures ∙ c.if-reading_wrong.true)
