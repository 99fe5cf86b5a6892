-- `places::past_blanks` meets its contract.
use Rattle.std.proofs.Common.{◌≡◌, true, get_or, refl, ◌∙◌, ◌+◌, arith}
use Rattle.byte_class.specs.Bytes.{class_of}
use Rattle.places.specs.Columns.{column_after}
use Rattle.places.specs.InternalFind.{passed_over}
use Rattle.places.proofs.FindLaws.{skip_on}
use Rattle.places.proofs.past_blanks.Goals as goal

pub loop-offset-preserved : goal.loop-offset-preserved
unfolding passed_over column_after class_of
loop-offset-preserved c =
    let blank = c.if-report-offset-ne32.false in
    let over : passed_over (get_or c.args.report.now c.loop-offset.offset 0) c.args.from.mark ≡ true = rw blank refl in
    let column : c.loop-offset.column + 1 ≡ column_after (get_or c.args.report.now c.loop-offset.offset 0) c.loop-offset.column = rw blank refl in (
      record { within = omega (arith, c.loop-offset-test.true); fits = omega (arith, c.loop-offset.invariant.0.fits) },
      c.loop-offset.invariant.1
          ∙ skip_on c.args.report.now c.loop-offset.offset c.loop-offset.column c.args.from.mark c.loop-offset-test.true over column,
    )
