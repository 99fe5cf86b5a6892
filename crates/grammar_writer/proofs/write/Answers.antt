-- `grammar_writer::write` meets its contract.
use Rattle.std.proofs.Common.{sym, ◌∙◌}
use Rattle.std.proofs.lemmas.Result.{err_from_is_err_and}
use Rattle.grammar_writer.proofs.AnswerLaws.{lending_refuses, tables_refuse, then_lent}
use Rattle.grammar_writer.proofs.write.Goals as goal

pub returns-in_err-shape-clause-result_value : goal.returns-in_err-shape-clause-result_value
returns-in_err-shape-clause-result_value c =
    let p = err_from_is_err_and c.from_residual.result c.from_residual.ensures.1 in
    rw (p.1, p.2) (lending_refuses _ _ _ _ _ _ _ c.in_err-shape.ensures)

pub returns-in_err-check_started-clause-result_value : goal.returns-in_err-check_started-clause-result_value
returns-in_err-check_started-clause-result_value c =
    let p = err_from_is_err_and c.from_residual-in_err-check_started.result c.from_residual-in_err-check_started.ensures.1 in
    rw (p.1, p.2) (tables_refuse _ _ _ _ _ _ c.in_ok-shape.ensures.1 _ c.in_err-check_started.ensures)

pub write_named-requires : goal.write_named-requires
write_named-requires c =
    record {
      parts = c.in_ok-shape.ensures.0;
      lends = c.in_ok-shape.ensures.1;
      started = sym c.in_ok-check_started.ensures;
    }

pub returns-clause-result_value : goal.returns-clause-result_value
returns-clause-result_value c =
    c.write_named.ensures.result_value ∙ then_lent _ _ _ _ _ _ c.in_ok-shape.ensures.1 c.in_ok-check_started.ensures
