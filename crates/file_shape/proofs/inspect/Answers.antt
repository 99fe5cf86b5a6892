-- `file_shape::inspect` meets its contract.
use Rattle.std.proofs.Common.{◌≡◌, false, arith}
use Rattle.std.proofs.lemmas.Result.{err_from_is_err_and}
use Rattle.file_shape.specs.Contents.{fails2, fields_of}
use Rattle.file_shape.proofs.PartLaws.{by_table, by_tests}
use Rattle.file_shape.proofs.inspect.Goals as goal

pub returns-in_err-check_tables : goal.returns-in_err-check_tables
returns-in_err-check_tables c =
    let named : fails2 (fields_of c.args.file.now) ≡ false = grind arith in
    let p = err_from_is_err_and c.from_residual.result c.from_residual.ensures.1 in
    rw (p.1, p.2) (by_table _ _ c.in-Some.ensures named _ c.in_err-check_tables.ensures)

pub returns-then-from-shape : goal.returns-then-from-shape
returns-then-from-shape c =
    let named : fails2 (fields_of c.args.file.now) ≡ false = grind arith in
    grind (arith, by_tests _ _ c.in-Some.ensures named c.in_ok-check_tables.ensures c.value_at-value.ensures)

pub returns : goal.returns
returns c =
    let named : fails2 (fields_of c.args.file.now) ≡ false = grind arith in
    (c.in-Some.ensures, grind (arith, by_tests _ _ c.in-Some.ensures named c.in_ok-check_tables.ensures c.value_at-value.ensures))
