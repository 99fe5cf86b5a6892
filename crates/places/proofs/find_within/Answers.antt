-- `places::find_within` meets its contract.
use Rattle.std.proofs.Common.{◌∙◌, arith}
use Rattle.places.proofs.FindLaws.{found_none, found_break, found_single}
use Rattle.places.proofs.find_within.Goals as goal

pub returns-else-here : goal.returns-else-here
returns-else-here c = c.nothing.ensures ∙ found_none c.args.report.now c.skip-here.ensures c.if-here-report.true c.if-here.false

pub returns-in-Break : goal.returns-in-Break
returns-in-Break c =
    rw (c.line_end-in-Break.ensures, c.column_by.ensures, c.in-Break.is)
    (found_break c.args.report.now c.skip-here.ensures (omega (arith, c.skip-here.ensures.room.within)) c.class_of-class.ensures c.in-Break.is)

pub returns-in-Single : goal.returns-in-Single
returns-in-Single c =
    rw (c.spelling.ensures, c.column_by.ensures, c.in-Single.is)
    (found_single c.args.report.now c.skip-here.ensures (omega (arith, c.skip-here.ensures.room.within)) c.class_of-class.ensures c.in-Single.is)
