-- `file_shape::runs::shape_of` meets its contract.
use Rattle.std.proofs.Common.{◌≡◌, true, arith}
use Rattle.file_shape.specs.InternalShape.{framed_by}
use Rattle.file_shape.proofs.ShapeLaws.{framed_parts}
use Rattle.file_shape.proofs.runs.shape_of.Goals as goal

pub returns : goal.returns
returns c =
    let framed : framed_by c.args.file.now c.run_of-nodes.result.end ≡ true = grind arith in
    framed_parts _ _ _ _ c.run_of-keywords.ensures c.run_of-rules.ensures c.run_of-nodes.ensures framed c.if-keywords-gt-KEYWORDS.false
