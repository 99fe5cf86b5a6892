-- Demand 3, in its words, with the farthest place and the captures; and the likeness of two ends and sets for every grammar.
use Prim.Native.Nat.{ℕ, ◌-◌, ◌*◌, ◌/◌, ◌≤◌}
use mathlib.Core.Path.{◌≡◌, refl, sym, ap, ap₂, subst, ◌∙◌}
use mathlib.Core.Bool.{Bool, true, false}
use mathlib.Core.List.{List, ◌++◌}
use lib.ListN.{length, drop}
use native.Mathlib.Omega.{arith}
use borrow.Author.Tests.{ltb-false}
use Rattle.table.specs.Answer.{Answer, given, refused, refused_at, refuse_if, and_then}
use Rattle.table.specs.Form.{Form, form}
use Rattle.columns.specs.Sets.{ColumnSet, sets}
use Rattle.columns.specs.Intervals.{Lies, ends}
use Rattle.columns.specs.Alike.{Alike}
use Rattle.columns.proofs.SetLaws.{sets_lawful}
use Rattle.columns.proofs.EndLaws.{ends_lawful}
use Rattle.columns.specs.declared.Interval.{Interval}
use Rattle.columns.specs.declared.Start.{Start}
use Rattle.columns.specs.declared.Capture.{Capture}
use Rattle.columns.specs.declared.Reading.{Reading}
use Rattle.well_formed.specs.WellFormed.{Passes}
use Rattle.well_formed.specs.Check.{check_answer}
use Rattle.well_formed.proofs.VerdictLaws.{check_means}
use Rattle.clauses.specs.Clauses.{Tokens, State, Outcome, success}
use Rattle.clauses.specs.Limits.{tokens_of, fails11, fails12, fails16, WithinLimits}
use Rattle.clauses.specs.AlikeOutcomes.{AlikeOutcome, alike_success, alike_failure}
use Rattle.clauses.specs.Trace.{Trace, Gives, farthest_from, listed}
use Rattle.clauses.specs.RunAnswer.{SetRun, EndsRun, our_outcome, our_trace, ends_farthest, set_farthest, our_farthest, Ended, our_end, run_answer, Reads}
use Rattle.clauses.specs.ListAnswer.{ends_captures, set_captures, our_captures, fails13, Listing, list_answer, list_words, list_after}
use Rattle.clauses.specs.ThirdDemand.{ThirdDemand, ListDemand}
use Rattle.clauses.proofs.ListWords.{list_fills}
use Rattle.theorems.proofs.OneOutcome.{one_outcome, one_run}
use Rattle.theorems.proofs.Narrows.{onward}
use Rattle.theorems.proofs.Likeness.{Follows, alike_given}
use Rattle.theorems.proofs.Existence.{outcome_given}
use Rattle.theorems.proofs.LimitLaws.{begins}

module _ (reading : Reading) (nodes rules : List ℕ) (tokens : Tokens) {τ : ℕ} {f : Form} where
  -- From alike columns, an outcome over two ends has an alike outcome over sets, with the same trace,
  pub ends_to_sets :
      {s : State Interval} {S : ColumnSet} {o : Outcome Interval} {t : Trace}
      → Gives ends reading nodes rules tokens τ f s o t
      → Alike ends sets s.1 S
      → Follows ends sets ends_lawful sets_lawful reading nodes rules tokens τ f (s.0, S, s.2) o t
  ends_to_sets d h = alike_given ends sets ends_lawful sets_lawful reading nodes rules tokens d h

  -- and an outcome over sets has an alike one over two ends.
  pub sets_to_ends :
      {s : State ColumnSet} {I : Interval} {o : Outcome ColumnSet} {t : Trace}
      → Gives sets reading nodes rules tokens τ f s o t
      → Alike sets ends s.1 I
      → Follows sets ends sets_lawful ends_lawful reading nodes rules tokens τ f (s.0, I, s.2) o t
  sets_to_ends d h = alike_given sets ends sets_lawful ends_lawful reading nodes rules tokens d h

-- Alike outcomes list the same captures of one trace.
same_list : {o : Outcome Interval} {o' : Outcome ColumnSet} (t : Trace) → AlikeOutcome ends sets o o' → listed o' t ≡ listed o t
same_list t (alike_success h) = refl
same_list t alike_failure = refl

module _ (reading : Reading) (nodes rules words : List ℕ) (start : Start) where
  -- A run over two ends has read tokens from its start's place on.
  pub has_read : {s : State Interval} → EndsRun reading nodes rules words start (success s) → (n : ℕ) × Reads start.place n s.0
  has_read {s} d = let h = onward ends reading nodes rules (tokens_of words) d in (s.0 - start.place, omega arith)

  module _ (limits : WithinLimits reading nodes rules words start) (well : Passes nodes rules) where
    -- The clauses over two ends give the outcome that is computed, with its trace,
    pub run_given :
        Gives ends reading nodes rules (tokens_of words) start.mode (form nodes start.node) (start.place, start.interval, start.flag)
        (our_outcome reading nodes rules words start) (our_trace reading nodes rules words start)
    run_given =
        let b = begins nodes words start limits.start_right in
        outcome_given reading nodes rules (tokens_of words) limits.table well start.mode start.node (start.place, start.interval, start.flag) b.node b.place

    -- and no other,
    pub outcome_only : (o : Outcome Interval) → EndsRun reading nodes rules words start o → o ≡ our_outcome reading nodes rules words start
    outcome_only o d = one_outcome ends reading nodes rules (tokens_of words) d run_given.run

    -- whatever its derivation, the farthest place is the one that is computed,
    pub farthest_only :
        (o : Outcome Interval) (d : EndsRun reading nodes rules words start o)
        → ends_farthest reading nodes rules words start o d ≡ our_farthest reading nodes rules words start
    farthest_only o d =
        let q = one_run ends reading nodes rules (tokens_of words) d run_given.run in
        ap (farthest_from start.place) (q.shown ∙ run_given.shows)

    -- and the captures are those that are computed.
    pub captures_only :
        (o : Outcome Interval) (d : EndsRun reading nodes rules words start o)
        → ends_captures reading nodes rules words start o d ≡ our_captures reading nodes rules words start
    captures_only o d = let q = one_run ends reading nodes rules (tokens_of words) d run_given.run in ap₂ listed q.outcome (q.shown ∙ run_given.shows)

    -- It is what a run answers,
    pub outcome_answered : run_answer reading nodes rules words start ≡ given (our_end reading nodes rules words start)
    unfolding run_answer
    outcome_answered = rw ((check_means nodes rules).passes.1 (limits.table, well), limits.tokens, limits.start_right, limits.reading_right) refl

    -- From every number in the start's interval the clauses over sets give an alike outcome with the same trace.
    set_run :
        Follows ends sets ends_lawful sets_lawful reading nodes rules (tokens_of words) start.mode (form nodes start.node)
        (start.place, (λ k. Lies k start.interval), start.flag) (our_outcome reading nodes rules words start) (our_trace reading nodes rules words start)
    set_run =
        let b = begins nodes words start limits.start_right in
        ends_to_sets reading nodes rules (tokens_of words) run_given (record { some = b.some; members = λ k. (λ m. m, λ m. m) })

    set_farthest_lem :
        (o : Outcome ColumnSet) (d : SetRun reading nodes rules words start o)
        → set_farthest reading nodes rules words start o d ≡ our_farthest reading nodes rules words start
    set_farthest_lem o d =
        let q = one_run sets reading nodes rules (tokens_of words) d set_run.gives.run in
        ap (farthest_from start.place) (q.shown ∙ set_run.gives.shows)

    set_captures_lem :
        (o : Outcome ColumnSet) (d : SetRun reading nodes rules words start o)
        → set_captures reading nodes rules words start o d ≡ our_captures reading nodes rules words start
    set_captures_lem o d =
        let q = one_run sets reading nodes rules (tokens_of words) d set_run.gives.run in
        ap₂ listed q.outcome (q.shown ∙ set_run.gives.shows) ∙ same_list (our_trace reading nodes rules words start) set_run.alike

    -- For every table that passes 3 to 5 and is well formed, every token list and start within the limits, by either reading: a run answers an
    -- outcome, the clauses over sets give exactly one, the two are alike, and their farthest place and their captures are the same.
    pub third_demand : ThirdDemand reading nodes rules words start
    third_demand =
        record {
          ours = our_end reading nodes rules words start;
          answered = outcome_answered;
          theirs = set_run.outcome;
          derived = set_run.gives.run;
          only = λ o e. one_outcome sets reading nodes rules (tokens_of words) e set_run.gives.run;
          alike = set_run.alike;
          read = λ s e. has_read (rw e at run_given.run);
          looked = set_farthest_lem;
          captures = set_captures_lem;
        }

    -- And where 13 does not apply to so many lent words, a run that lists answers the same with the number of captures, and
    -- has them in the lent words.
    module _ (lent : ℕ) (e : fails13 reading nodes rules words start lent ≡ false) where
      room : length (our_captures reading nodes rules words start) * 4 ≤ lent
      unfolding fails13
      room = let h = ltb-false (lent / 4) (length (our_captures reading nodes rules words start)) e in omega arith

      listing_answered :
          list_answer reading nodes rules words start lent
          ≡ given (record { ended = our_end reading nodes rules words start; count = length (our_captures reading nodes rules words start) })
      unfolding list_answer
      listing_answered = rw (outcome_answered, e) refl

      list_after_lem : (before : List ℕ) → length before ≡ lent → list_after reading nodes rules words start before ≡ list_words (our_captures reading nodes rules words start) lent
      unfolding list_after
      list_after_lem before l =
          rw (l, listing_answered)
          (subst
          (λ (k : ℕ).
          list_words (our_captures reading nodes rules words start) k ++ drop (length (list_words (our_captures reading nodes rules words start) k)) before
          ≡ list_words (our_captures reading nodes rules words start) k) l (list_fills (our_captures reading nodes rules words start) before (omega (arith, room))))

      pub list_demand : ListDemand reading nodes rules words start lent
      unfolding third_demand
      list_demand =
          record {
            demand = third_demand;
            answered = listing_answered;
            stands = λ before l o d. list_after_lem before l ∙ ap (λ (cs : List Capture). list_words cs lent) (sym (set_captures_lem o d));
          }

  unrefused : (c : Answer Unit) (t b d : Bool) (o ours : Ended) → check_answer nodes rules ≡ c → fails11 words ≡ t → fails12 nodes words start ≡ b
      → fails16 reading nodes start ≡ d → and_then c (refuse_if t 11 (refuse_if b 12 (refuse_if d 16 (given o)))) ≡ given ours
      → WithinLimits reading nodes rules words start × Passes nodes rules
  unrefused (given tt) false false false o ours p q r z e =
      let m = (check_means nodes rules).passes.0 p in
      (record { table = m.0; tokens = q; start_right = r; reading_right = z }, m.1)
  unrefused (given tt) false false true o ours p q r z e = absurd (let n : ◌≡◌ {A = ℕ} 0 1 = cc in omega arith)
  unrefused (given tt) false true d o ours p q r z e = absurd (let n : ◌≡◌ {A = ℕ} 0 1 = cc in omega arith)
  unrefused (given tt) true b d o ours p q r z e = absurd (let n : ◌≡◌ {A = ℕ} 0 1 = cc in omega arith)
  unrefused (refused k) t b d o ours p q r z e = absurd (let n : ◌≡◌ {A = ℕ} 0 1 = cc in omega arith)
  unrefused (refused_at k m) t b d o ours p q r z e = absurd (let n : ◌≡◌ {A = ℕ} 0 1 = cc in omega arith)

  -- No other run answers an outcome: where one is answered, grammar, tokens and start are such.
  pub answered_within : (ours : Ended) → run_answer reading nodes rules words start ≡ given ours → WithinLimits reading nodes rules words start × Passes nodes rules
  unfolding run_answer
  answered_within ours e =
      unrefused (check_answer nodes rules) (fails11 words) (fails12 nodes words start) (fails16 reading nodes start) (our_end reading nodes rules words start) ours
      refl refl refl refl e

  run_first : (r : Answer Ended) (next : Answer Listing) (x : Listing) → run_answer reading nodes rules words start ≡ r → and_then r next ≡ given x
      → WithinLimits reading nodes rules words start × Passes nodes rules
  run_first (given ours) next x p e = answered_within ours p
  run_first (refused k) next x p e = absurd (let z : ◌≡◌ {A = ℕ} 0 1 = cc in omega arith)
  run_first (refused_at k n) next x p e = absurd (let z : ◌≡◌ {A = ℕ} 0 1 = cc in omega arith)

  -- Nor does a run that lists.
  pub listing_within : (lent : ℕ) (x : Listing) → list_answer reading nodes rules words start lent ≡ given x → WithinLimits reading nodes rules words start × Passes nodes rules
  unfolding list_answer
  listing_within lent x e = run_first (run_answer reading nodes rules words start) _ x refl e
