-- `shown_text::in_file` meets its contract.
use Rattle.std.proofs.Common.{◌+◌, arith}
use Rattle.shown_text.proofs.FieldPlaces.{offset_within}
use Rattle.shown_text.proofs.in_file.Goals as goal

pub overflow_add-result : goal.overflow_add-result
overflow_add-result c = omega (arith, c.offset_of-at.ensures, offset_within c.args.file.now 4 (c.args.keywords + c.args.rule))
