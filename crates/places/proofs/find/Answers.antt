-- `places::find` meets its contract.
use Rattle.std.proofs.Common.{sym, ◌∙◌, arith}
use Rattle.places.proofs.FindLaws.{past_end, no_room, with_room}
use Rattle.places.proofs.find.Goals.{then-report-from-via-then-report-from, then-report-from-via-else-report-from+then-room-report}
use Rattle.places.proofs.find.Goals as goal

pub returns-then-report-from : goal.returns-then-report-from
returns-then-report-from c =
    elim c.then-report-from.branch [
      | then-report-from-via-then-report-from w ↦ past_end _ _ c.nothing.ensures w.if-report-from.true
      | then-report-from-via-else-report-from+then-room-report w ↦ no_room _ _ c.nothing.ensures w.if-room-report.true
    ]

pub returns : goal.returns
returns c = c.find_within.ensures ∙ sym (with_room _ _ (record { within = omega arith; fits = omega arith }))
