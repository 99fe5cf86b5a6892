-- `token_words::scan` meets its contract.
use Rattle.std.proofs.lemmas.Result.{err_from_is_err_and}
use Rattle.token_words.proofs.ScanLaws.{scan_first, scan_9, scan_many, scan_short, scan_on}
use Rattle.token_words.proofs.scan.Goals.{then-count-gt-TOKENS-via-then-count-gt-TOKENS, then-count-gt-TOKENS-via-else-count-gt-TOKENS+then-tokens-count}
use Rattle.token_words.proofs.scan.Goals as goal

pub returns-in_err-keywords-clause-result_value : goal.returns-in_err-keywords-clause-result_value
returns-in_err-keywords-clause-result_value c =
    let p = err_from_is_err_and c.from_residual.result c.from_residual.ensures.1 in
    rw (p.1, p.2) (scan_first _ _ _ _ c.in_err-keywords.ensures)

pub returns-in_err-count-clause-result_value : goal.returns-in_err-count-clause-result_value
returns-in_err-count-clause-result_value c =
    let p = err_from_is_err_and c.from_residual-in_err-count.result c.from_residual-in_err-count.ensures.1 in
    rw (p.1, p.2, c.in_err-count.ensures.0) (scan_9 _ _ _ c.in_ok-keywords.ensures c.in_err-count.ensures.1)

pub returns-then-count-gt-TOKENS-clause-result_value : goal.returns-then-count-gt-TOKENS-clause-result_value
returns-then-count-gt-TOKENS-clause-result_value c =
    elim c.then-count-gt-TOKENS.branch [
      | then-count-gt-TOKENS-via-then-count-gt-TOKENS w ↦
          scan_many _ _ _ c.in_ok-keywords.ensures c.in_ok-count.ensures w.if-count-gt-TOKENS.true
      | then-count-gt-TOKENS-via-else-count-gt-TOKENS+then-tokens-count w ↦
          scan_short _ _ _ c.in_ok-keywords.ensures c.in_ok-count.ensures w.if-tokens-count.true
    ]

pub returns-clause-result_value : goal.returns-clause-result_value
returns-clause-result_value c =
    scan_on _ _ _ c.in_ok-keywords.ensures c.in_ok-count.ensures c.if-count-gt-TOKENS.false c.if-tokens-count.false
