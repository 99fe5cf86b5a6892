-- `file_shape::names_wrong` meets its contract.
use Rattle.std.proofs.Common.{arith}
use Rattle.file_shape.proofs.PartLaws.{names_by}
use Rattle.file_shape.proofs.names_wrong.Goals as goal

pub returns : goal.returns
returns c = grind (arith, names_by _ _ c.requires)
