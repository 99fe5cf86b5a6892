-- `places::skip` meets its contract.
use Rattle.std.proofs.Common.{◌≡◌, ℕ, true, get_or, ◌∙◌}
use Rattle.byte_class.specs.Bytes.{class_of}
use Rattle.places.specs.Columns.{column_by, column_after}
use Rattle.places.specs.InternalFind.{passed_by, passed_over}
use Rattle.places.proofs.FindLaws.{skip_on, room_next}
use Rattle.places.proofs.skip.Goals as goal

pub returns-then-not-passed_by : goal.returns-then-not-passed_by
unfolding passed_over
returns-then-not-passed_by c =
    record { room = c.loop-offset.invariant.0; same = c.loop-offset.invariant.1; stops = λ _. cc }

pub loop-offset-preserved : goal.loop-offset-preserved
unfolding passed_over column_after
loop-offset-preserved c =
    let byte : ℕ = get_or c.args.report.now c.loop-offset.offset 0 in
    let over : passed_by (class_of byte) c.past_blanks-start.result.mark ≡ true = cc in
    let column : c.column_by-column.result ≡ column_by (class_of byte) c.loop-offset.column = cc in (
      room_next c.loop-offset.invariant.0 c.loop-offset-test.true byte column,
      c.loop-offset.invariant.1
          ∙ skip_on c.args.report.now c.loop-offset.offset c.loop-offset.column c.past_blanks-start.result.mark c.loop-offset-test.true over column,
    )
