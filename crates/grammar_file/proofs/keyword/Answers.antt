-- `grammar_file::keyword` meets its contract.
use Rattle.std.proofs.Common.{arith}
use Rattle.grammar_file.proofs.ReadLaws.{no_keyword, keyword_at, keyword_past}
use Rattle.grammar_file.proofs.keyword.Goals as goal
use Rattle.grammar_file.proofs.keyword.Goals.{in_default-via-in-Ok+else-k-shape, in_default-via-in_default}

pub returns-in-Ok : goal.returns-in-Ok
returns-in-Ok c = grind (arith, keyword_at _ _ c.in-Ok.ensures _ c.if-k-shape.true)

pub returns-in_default : goal.returns-in_default
returns-in_default c =
    elim c.in_default.branch [
      | in_default-via-in-Ok+else-k-shape w ↦ keyword_past _ _ w.in-Ok.ensures _ w.if-k-shape.false
      | in_default-via-in_default w ↦ no_keyword _ _ w.in_default.ensures _
    ]
