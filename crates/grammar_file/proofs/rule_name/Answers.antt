-- `grammar_file::rule_name` meets its contract.
use Rattle.std.proofs.Common.{arith}
use Rattle.grammar_file.proofs.ReadLaws.{no_name, name_at, name_past}
use Rattle.grammar_file.proofs.rule_name.Goals as goal
use Rattle.grammar_file.proofs.rule_name.Goals.{in_default-via-in-Ok+else-r-shape, in_default-via-in_default}

pub returns-in-Ok : goal.returns-in-Ok
returns-in-Ok c = grind (arith, name_at _ _ c.in-Ok.ensures _ c.if-r-shape.true)

pub returns-in_default : goal.returns-in_default
returns-in_default c =
    elim c.in_default.branch [
      | in_default-via-in-Ok+else-r-shape w ↦ name_past _ _ w.in-Ok.ensures _ w.if-r-shape.false
      | in_default-via-in_default w ↦ no_name _ _ w.in_default.ensures _
    ]
