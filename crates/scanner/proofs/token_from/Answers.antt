-- `scanner::token_from` meets its contract.
use Rattle.scanner.proofs.StepLaws.{step_offset, step_column, step_none, step_9, step_token, lies_inside}
use Rattle.scanner.proofs.token_from.Goals.{then-report-from-via-then-report-from, then-report-from-via-else-report-from+then-from-gt-LAST_STEP}
use Rattle.scanner.proofs.token_from.Goals as goal

pub returns-then-report-from : goal.returns-then-report-from
returns-then-report-from c =
    elim c.then-report-from.branch [
      | then-report-from-via-then-report-from w ↦ step_offset _ _ _ c.in_ok-keywords.ensures w.if-report-from.true
      | then-report-from-via-else-report-from+then-from-gt-LAST_STEP w ↦
          step_column _ _ _ c.in_ok-keywords.ensures w.if-report-from.false w.if-from-gt-LAST_STEP.true
    ]

pub returns-in_default : goal.returns-in_default
returns-in_default c =
    step_none _ _ _ c.in_ok-keywords.ensures c.if-report-from.false c.if-from-gt-LAST_STEP.false c.find-found.ensures c.in_default.is

pub returns-then-place-gt-LAST_COLUMN : goal.returns-then-place-gt-LAST_COLUMN
returns-then-place-gt-LAST_COLUMN c =
    step_9 _ _ _ c.in_ok-keywords.ensures c.if-report-from.false c.if-from-gt-LAST_STEP.false c.find-found.ensures c.in-Some.is
    c.if-place-gt-LAST_COLUMN.true

pub token_at-token-requires-clause-inside : goal.token_at-token-requires-clause-inside
token_at-token-requires-clause-inside c =
    lies_inside _ _ _ c.in_ok-keywords.ensures c.if-report-from.false c.if-from-gt-LAST_STEP.false c.find-found.ensures c.in-Some.is

pub returns : goal.returns
returns c =
    step_token _ _ _ c.in_ok-keywords.ensures c.if-report-from.false c.if-from-gt-LAST_STEP.false c.find-found.ensures c.in-Some.is
    c.if-place-gt-LAST_COLUMN.false c.token_at-token.ensures
