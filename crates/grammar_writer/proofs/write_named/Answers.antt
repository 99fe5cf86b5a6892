-- `grammar_writer::write_named` meets its contract.
use Rattle.std.proofs.Common.{ap, ◌∙◌}
use Rattle.table.specs.Answer.{given}
use Rattle.grammar_writer.proofs.AnswerLaws.{other_count, no_room, enough}
use Rattle.grammar_writer.proofs.write_named.Goals as goal

pub returns-then-grammar-clause-result_value : goal.returns-then-grammar-clause-result_value
returns-then-grammar-clause-result_value c = other_count c.requires _ c.if-grammar.true

pub returns-then-out-n-clause-result_value : goal.returns-then-out-n-clause-result_value
returns-then-out-n-clause-result_value c =
    no_room c.requires _ c.if-grammar.false (rw c.put_file-n.ensures.value at c.if-out-n.true)

pub returns-clause-result_value : goal.returns-clause-result_value
returns-clause-result_value c =
    ap given c.put_file-n.ensures.value ∙ enough c.requires _ c.if-grammar.false (rw c.put_file-n.ensures.value at c.if-out-n.false)
