-- `places::run_end` meets its contract.
use Rattle.std.proofs.Common.{◌≡◌, ℕ, ◌+◌, ◌≤◌, ◌<◌, true, false, List, length, get_or, take, drop, ap, sym, ◌∙◌, refl, arith}
use lib.ListN.{drop_of_length-le}
use Rattle.byte_class.specs.Bytes.{class_of}
use Rattle.places.specs.Columns.{column_after, column_over}
use Rattle.places.specs.Places.{run_class, in_run, run_length}
use Rattle.places.specs.Moves.{position}
use Rattle.places.specs.declared.Position.{Position}
use Rattle.places.specs.InternalFind.{RunEnd}
use Rattle.places.proofs.ClassLaws.{run_width}
use Rattle.places.proofs.FindLaws.{from_one, room_next, run_on, run_none, run_empty}
use Rattle.places.proofs.run_end.Invariants.{Running}
use Rattle.places.proofs.run_end.Goals as goal

module _ (text : List ℕ) (from : Position) (at column : ℕ) (r : Running text from at column) where
  -- Nothing of the run is left.
  ended :
      run_length (drop at text) ≡ 0
      → column_over (take (run_length (drop at text)) (drop at text)) column ≡ column
      → RunEnd text from (position at column from.mark)
  ended n e = record { ends = omega (arith, r.1); within = r.0.within; column = sym (r.2 ∙ e); mark = refl }

  run_stops : at < length text → in_run (get_or text at 0) ≡ false → RunEnd text from (position at column from.mark)
  run_stops h e = let n = run_none (get_or text at 0) (drop (at + 1) text) column e in ended (rw (from_one text at h) n.0) (rw (from_one text at h) n.1)

  run_over : length text ≡ at → RunEnd text from (position at column from.mark)
  run_over h = let n = run_empty column in let k : length text ≤ at = omega arith in ended (rw (drop_of_length-le text k) n.0) (rw (drop_of_length-le text k) n.1)

  -- One byte on.
  run_goes : at < length text → in_run (get_or text at 0) ≡ true → {next : ℕ} → next ≡ column_after (get_or text at 0) column → Running text from (at + 1) next
  run_goes h e {next} q =
      let on = run_on text at column h e in
      (room_next r.0 h (get_or text at 0) q, omega (arith, r.1, on.0), r.2 ∙ on.1 ∙ rw q refl)

pub returns-then-not-run_class : goal.returns-then-not-run_class
unfolding in_run
returns-then-not-run_class c =
    run_stops c.args.report.now c.args.from c.loop-offset.offset c.loop-offset.column c.loop-offset.invariant c.loop-offset-test.true cc

pub loop-offset-preserved : goal.loop-offset-preserved
unfolding in_run
loop-offset-preserved c =
    let byte : ℕ = get_or c.args.report.now c.loop-offset.offset 0 in
    let in_run_lem : run_class (class_of byte) ≡ true = cc in
    run_goes c.args.report.now c.args.from c.loop-offset.offset c.loop-offset.column c.loop-offset.invariant c.loop-offset-test.true in_run_lem
    (ap (λ (n : ℕ). c.loop-offset.column + n) c.run_width-column.ensures ∙ run_width byte c.loop-offset.column in_run_lem)

pub returns : goal.returns
returns c =
    let over : length c.args.report.now ≡ c.loop-offset.offset = omega arith in
    rw over (run_over c.args.report.now c.args.from c.loop-offset.offset c.loop-offset.column c.loop-offset.invariant over)
