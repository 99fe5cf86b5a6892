-- `answer_line::entry::write` meets its contract.
use Rattle.std.proofs.Common.{arith, ap, length}
use Rattle.answer_line.proofs.EntryCases.{name_short, refuses, from_file, short, inside, column_fits, text_short, from_report, entry_whole, entry_refused}
use Rattle.answer_line.proofs.entry.write.Goals as goal

pub put_unread-requires : goal.put_unread-requires
put_unread-requires c = omega (arith, ap length c.rule_name-name.ensures, name_short c.args.file.now c.args.capture.rule)

pub overflow_add-offset : goal.overflow_add-offset
overflow_add-offset c = omega (arith, inside _ _ _ _ c.in-Ok-InReport.ensures c.in-Ok-InReport.field-0-is)

pub slice_bounds-first_line-end : goal.slice_bounds-first_line-end
slice_bounds-first_line-end c = omega (arith, inside _ _ _ _ c.in-Ok-InReport.ensures c.in-Ok-InReport.field-0-is)

pub line_at-line-requires : goal.line_at-line-requires
line_at-line-requires c =
    let within = inside _ _ _ _ c.in-Ok-InReport.ensures c.in-Ok-InReport.field-0-is in
    (omega arith, short _ _ _ _ c.in-Ok-InReport.ensures c.in-Ok-InReport.field-0-is)

pub overflow_add-column : goal.overflow_add-column
overflow_add-column c = omega (arith, c.column_at-column.ensures, column_fits _ _ _ _ c.in-Ok-InReport.ensures c.in-Ok-InReport.field-0-is)

pub put_read-requires : goal.put_read-requires
put_read-requires c =
    let text = text_short _ _ _ _ c.in-Ok-InReport.ensures c.in-Ok-InReport.field-0-is c.first_line-text.ensures in
    omega (arith, ap length c.rule_name-name.ensures, name_short c.args.file.now c.args.capture.rule, text)

pub returns-in-Err : goal.returns-in-Err
returns-in-Err c =
    let none = entry_refused _ _ _ _ _ c.if-out-lt-ROOM.false (refuses _ _ _ _ _ c.in-Err.ensures) in
    record { value = none.0; out_after = none.1 }

pub returns-in-Ok-InFile : goal.returns-in-Ok-InFile
returns-in-Ok-InFile c =
    let bytes = from_file _ _ _ _ c.in-Ok-InFile.ensures c.in-Ok-InFile.field-0-is in
    let line = entry_whole _ _ _ _ _ c.if-out-lt-ROOM.false (rw (← c.rule_name-name.ensures) at bytes) c.put_unread.ensures in
    record { value = line.0; out_after = line.1 }

pub returns-in-Ok-InReport : goal.returns-in-Ok-InReport
returns-in-Ok-InReport c =
    let bytes =
    from_report _ _ _ _ c.in-Ok-InReport.ensures c.in-Ok-InReport.field-0-is c.rule_name-name.ensures
    c.first_line-text.ensures c.line_at-line.ensures c.column_at-column.ensures in
    let line = entry_whole _ _ _ _ _ c.if-out-lt-ROOM.false bytes c.put_read.ensures in
    record { value = line.0; out_after = line.1 }
