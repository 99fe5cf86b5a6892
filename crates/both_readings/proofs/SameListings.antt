-- Where a grammar reads alike from a start, and 16 does not apply, a run that lists answers the same by both readings, and leaves
-- the same words.
use Prim.Native.Nat.{ℕ, ◌/◌}
use mathlib.Core.Path.{◌≡◌, refl, ap, ap₂, ◌∙◌}
use mathlib.Core.Bool.{false}
use mathlib.Core.List.{List}
use lib.ListN.{length}
use lib.Dec.{ltb}
use Rattle.table.specs.Answer.{Answer, given, refused, refused_at, refuse_if, and_then, afterwards}
use Rattle.table.specs.Form.{form}
use Rattle.columns.specs.declared.Start.{Start}
use Rattle.columns.specs.declared.Capture.{Capture}
use Rattle.columns.specs.declared.Reading.TheVariants.{By2017, By2014}
use Rattle.clauses.specs.Limits.{fails16}
use Rattle.clauses.specs.RunAnswer.{Ended, our_end, run_answer}
use Rattle.clauses.specs.ListAnswer.{our_captures, fails13, Listing, list_answer, list_words, list_after}
use Rattle.theorems.proofs.Agreement.{answered_within, listing_within}
use Rattle.both_readings.specs.BothReadings.{ReadAlike}
use Rattle.both_readings.proofs.SameEnds.{same_end, same_captures}
use Rattle.both_readings.proofs.SameAnswers.{same_answer}

-- The answer of a run that lists, by its end and its captures, where nothing before 13 turns it down.
abbrev listing : ℕ → Ended → List Capture → Answer Listing
listing lent e captures = refuse_if (ltb (lent / 4) (length captures)) 13 (given (record { ended = e; count = length captures }))

module _ (nodes rules words : List ℕ) (start : Start) (alike : ReadAlike nodes rules (form nodes start.node) start.flag) where
  -- Where 16 does not apply, also if the call is turned down otherwise:
  module _ (positionless : fails16 By2014 nodes start ≡ false) where
    after_answer :
        (lent : ℕ) (r : Answer Ended)
        → run_answer By2014 nodes rules words start ≡ r
        → and_then r (listing lent (our_end By2014 nodes rules words start) (our_captures By2014 nodes rules words start))
        ≡ and_then r (listing lent (our_end By2017 nodes rules words start) (our_captures By2017 nodes rules words start))
    after_answer lent (given o) p =
        let m = answered_within By2014 nodes rules words start o p in
        ap₂ (listing lent) (same_end nodes rules words start alike m.0 m.1) (same_captures nodes rules words start alike m.0 m.1)
    after_answer lent (refused k) p = refl
    after_answer lent (refused_at k n) p = refl

    -- a run that lists does too,
    pub same_listing : (lent : ℕ) → list_answer By2014 nodes rules words start lent ≡ list_answer By2017 nodes rules words start lent
    unfolding list_answer fails13
    same_listing lent =
        after_answer lent (run_answer By2014 nodes rules words start) refl
        ∙ ap
        (λ (r : Answer Ended). and_then r (listing lent (our_end By2017 nodes rules words start) (our_captures By2017 nodes rules words start)))
        (same_answer nodes rules words start alike positionless)

    after_listing :
        (before : List ℕ) (r : Answer Listing)
        → list_answer By2014 nodes rules words start (length before) ≡ r
        → afterwards r (list_words (our_captures By2014 nodes rules words start) (length before)) before
        ≡ afterwards r (list_words (our_captures By2017 nodes rules words start) (length before)) before
    after_listing before (given x) p =
        let m = listing_within By2014 nodes rules words start (length before) x p in
        ap (λ (captures : List Capture). afterwards (given x) (list_words captures (length before)) before) (same_captures nodes rules words start alike m.0 m.1)
    after_listing before (refused k) p = refl
    after_listing before (refused_at k n) p = refl

    -- and leaves the same words.
    pub same_words : (before : List ℕ) → list_after By2014 nodes rules words start before ≡ list_after By2017 nodes rules words start before
    unfolding list_after
    same_words before =
        after_listing before (list_answer By2014 nodes rules words start (length before)) refl
        ∙ ap
        (λ (r : Answer Listing). afterwards r (list_words (our_captures By2017 nodes rules words start) (length before)) before)
        (same_listing (length before))
