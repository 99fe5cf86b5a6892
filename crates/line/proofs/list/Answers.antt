-- `line::list` meets its contract.
use Rattle.std.proofs.Common.{sym, ap, subst, ◌∙◌}
use Rattle.columns.specs.declared.Start.{Start}
use Rattle.interpreter.specs.Numbers.{numbers}
use Rattle.line.specs.Entries.{end_answer, Placed, capture_count}
use Rattle.line.proofs.RunLaws.{list_answers, list_leaves, token_count_lem, none_refused, ran_numbers, ran_placed}
use Rattle.line.proofs.list.Goals as goal

pub returns-in-Err : goal.returns-in-Err
returns-in-Err c =
    let no = none_refused c.args.file.now c.args.report.now c.args.captures.now _ c.counted-in-Err.result _ c.in-Err.ensures.said c.counted-in-Err.ensures in
    record {
      answer_value = no.answer;
      tokens_value = no.tokens;
      captures_value = no.captures;
      tokens_after = c.in-Err.ensures.written;
      captures_after = no.unchanged;
      placed = no.placed;
    }

pub returns-in-Ok : goal.returns-in-Ok
returns-in-Ok c =
    let all = c.in-Ok.ensures.said in
    let listed = list_answers all c.args.captures.now c.start_at.ensures c.list-listed.result c.list-listed.ensures.result_value in
    let begins = ap (λ (s : Start). s.place) c.start_at.ensures in
    record {
      answer_value = ap (numbers 0) c.counted.ensures.0 ∙ ran_numbers c.list-listed.result ∙ ap end_answer listed;
      tokens_value = c.counted.ensures.1 ∙ token_count_lem all;
      captures_value = c.counted.ensures.2 ∙ ap capture_count listed;
      tokens_after = c.in-Ok.ensures.written;
      captures_after = list_leaves all c.args.captures.now c.start_at.ensures c.list-listed.ensures.captures_after;
      placed =
          subst Placed (sym c.counted.ensures.0)
          (ran_placed _ _ _ _ _ _ c.list-listed.result begins c.list-listed.ensures.list_derived);
    }
