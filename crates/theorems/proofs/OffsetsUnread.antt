-- A run looks at a token's terminal and column, and not at its offset and length; nor does a run that lists its captures.
use Prim.Native.Nat.{ℕ, ◌+◌, ◌*◌, ◌/◌, ◌%◌}
use mathlib.Core.Path.{◌≡◌, refl, sym, ap, ap₂, fun_ext, ◌∙◌}
use mathlib.Core.Bool.{not, ◌&&◌, ◌||◌}
use mathlib.Core.List.{List}
use lib.ListN.{length, get_or}
use lib.Dec.{leb, ltb, eqb}
use Rattle.table.specs.Answer.{Answer, given, refuse_if, and_then, afterwards}
use Rattle.table.specs.Every.{every}
use Rattle.table.specs.Limits.{last_terminal, most_tokens, most_column}
use Rattle.table.specs.Form.{node_count}
use Rattle.table.specs.Checks.{is_relation}
use Rattle.columns.specs.Intervals.{is_up_to}
use Rattle.columns.specs.declared.Interval.{Interval}
use Rattle.columns.specs.declared.Start.{Start}
use Rattle.columns.specs.declared.Capture.{Capture}
use Rattle.columns.specs.declared.Reading.{Reading}
use Rattle.well_formed.specs.Check.{check_answer}
use Rattle.clauses.specs.Clauses.{Tokens, State}
use Rattle.clauses.specs.Limits.{tokens_of, fails11, fails12, fails16, finite_over}
use Rattle.clauses.specs.Trace.{farthest_from, listed}
use Rattle.clauses.specs.Evaluation.{outcome_for, trace_for}
use Rattle.clauses.specs.RunAnswer.{Ended, run_answer}
use Rattle.clauses.specs.ListAnswer.{fails13, Listing, list_answer, list_words, list_after}

abbrev made : ℕ → (ℕ → ℕ) → (ℕ → ℕ) → Tokens
made n t c = record { count = n; terminal = t; column = c }

-- Token words whose terminals and columns are the same stand for the same tokens.
same_tokens :
    (words words' : List ℕ)
    → length words ≡ length words'
    → ((w : ℕ) → get_or words (w * 4) 0 ≡ get_or words' (w * 4) 0)
    → ((w : ℕ) → get_or words (w * 4 + 1) 0 ≡ get_or words' (w * 4 + 1) 0)
    → tokens_of words ≡ tokens_of words'
same_tokens words words' l t c =
    ap (λ (n : ℕ). made (n / 4) (λ w. get_or words (w * 4) 0) (λ w. get_or words (w * 4 + 1) 0)) l
    ∙ ap (λ (f : ℕ → ℕ). made (length words' / 4) f (λ w. get_or words (w * 4 + 1) 0)) (fun_ext t)
    ∙ ap (λ (f : ℕ → ℕ). made (length words' / 4) (λ w. get_or words' (w * 4) 0) f) (fun_ext c)

-- What a run ends in, by its tokens.
abbrev end_by : Reading → List ℕ → List ℕ → Start → Tokens → Ended
end_by reading nodes rules start tokens =
    let state : State Interval = (start.place, start.interval, start.flag) in
    record {
      outcome = outcome_for reading nodes rules tokens start.mode start.node state;
      farthest = farthest_from start.place (trace_for reading nodes rules tokens start.mode start.node state);
    }

-- A run looks at the tokens and at how many words there are.
answer_by : Reading → List ℕ → List ℕ → Start → ℕ → Tokens → Answer Ended
answer_by reading nodes rules start n tokens =
    and_then (check_answer nodes rules)
    (refuse_if
    (not (eqb (n % 4) 0)
    || ltb most_tokens tokens.count
    || not
    (every tokens.count
    (λ w. leb (tokens.terminal w) last_terminal && leb (tokens.column w) most_column))) 11
    (refuse_if
    (not (ltb start.node (node_count nodes))
    || ltb tokens.count start.place
    || not (is_up_to start.interval.lower start.interval.upper)
    || ltb most_column start.interval.lower
    || finite_over start.interval.upper
    || not (is_relation start.mode)) 12
    (refuse_if (fails16 reading nodes start) 16
    (given (end_by reading nodes rules start tokens)))))

answered_by :
    (reading : Reading) (nodes rules words : List ℕ) (start : Start)
    → run_answer reading nodes rules words start ≡ answer_by reading nodes rules start (length words) (tokens_of words)
unfolding run_answer fails11 fails12 answer_by
answered_by reading nodes rules words start = refl

-- What a run lists, by its tokens.
abbrev captures_by : Reading → List ℕ → List ℕ → Start → Tokens → List Capture
captures_by reading nodes rules start tokens =
    let state : State Interval = (start.place, start.interval, start.flag) in
    listed (outcome_for reading nodes rules tokens start.mode start.node state) (trace_for reading nodes rules tokens start.mode start.node state)

-- What a run that lists answers, by what the run answers and by its tokens.
list_by : Reading → List ℕ → List ℕ → Start → ℕ → Answer Ended → Tokens → Answer Listing
list_by reading nodes rules start lent answer tokens =
    and_then answer
    (refuse_if (ltb (lent / 4) (length (captures_by reading nodes rules start tokens))) 13
    (given
    (record { ended = end_by reading nodes rules start tokens; count = length (captures_by reading nodes rules start tokens) })))

listed_by :
    (reading : Reading) (nodes rules words : List ℕ) (start : Start) (lent : ℕ)
    → list_answer reading nodes rules words start lent ≡ list_by reading nodes rules start lent (run_answer reading nodes rules words start) (tokens_of words)
unfolding list_answer fails13 list_by
listed_by reading nodes rules words start lent = refl

-- "The interpreter uses only the first two words" of a token: offsets and lengths change nothing.
module _ (reading : Reading) (nodes rules words words' : List ℕ) (start : Start) (l : length words ≡ length words')
    (t : (w : ℕ) → get_or words (w * 4) 0 ≡ get_or words' (w * 4) 0)
    (c : (w : ℕ) → get_or words (w * 4 + 1) 0 ≡ get_or words' (w * 4 + 1) 0) where
  -- A run answers the same,
  pub offsets_unread : run_answer reading nodes rules words start ≡ run_answer reading nodes rules words' start
  offsets_unread =
      answered_by reading nodes rules words start ∙ ap₂ (answer_by reading nodes rules start) l (same_tokens words words' l t c) ∙ sym (answered_by reading nodes rules words' start)

  -- a run that lists does too,
  pub offsets_unread_listing : (lent : ℕ) → list_answer reading nodes rules words start lent ≡ list_answer reading nodes rules words' start lent
  offsets_unread_listing lent =
      listed_by reading nodes rules words start lent
      ∙ ap₂ (list_by reading nodes rules start lent) offsets_unread (same_tokens words words' l t c)
      ∙ sym (listed_by reading nodes rules words' start lent)

  -- and leaves the same words.
  pub offsets_unread_words : (before : List ℕ) → list_after reading nodes rules words start before ≡ list_after reading nodes rules words' start before
  unfolding list_after
  offsets_unread_words before =
      ap₂ (λ (answer : Answer Listing) (captures : List Capture). afterwards answer (list_words captures (length before)) before)
      (offsets_unread_listing (length before)) (ap (captures_by reading nodes rules start) (same_tokens words words' l t c))
