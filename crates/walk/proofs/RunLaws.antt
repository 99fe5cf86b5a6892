-- What a walk from a start answers and lists, over plain values: by its outcome, or by the first number that applies.
use Prim.Native.Nat.{ℕ, ◌+◌, ◌-◌, ◌*◌, ◌/◌, ◌≤◌, ◌<◌, ◌^◌, min}
use mathlib.Core.Path.{◌≡◌, refl, sym, ap, ◌∙◌}
use mathlib.Core.Bool.{Bool, true, false, cond, not as is_false, ◌||◌}
use mathlib.Core.List.{List}
use lib.ListN.{length, get_or, replicate}
use native.Mathlib.Omega.{arith}
use borrow.Author.Tests.{ltb-false, lt-leb, le-leb}
use Rattle.table.specs.Limits.{most_column}
use Rattle.table.specs.Checks.{is_relation}
use Rattle.table.proofs.Every.{both_false}
use lib.Dec.{leb, ltb}
use Rattle.table.specs.Form.{form, node_count}
use Rattle.columns.specs.Intervals.{is_up_to}
use Rattle.columns.specs.InternalHighest.{finite}
use Rattle.columns.specs.declared.Upper.{Upper}
use Rattle.columns.specs.declared.Upper.TheVariants.{At, Endless}
use Rattle.columns.specs.declared.Interval.{Interval}
use Rattle.columns.specs.declared.State.{State}
use Rattle.columns.specs.declared.Start.{Start}
use Rattle.columns.specs.declared.Outcome.{Outcome}
use Rattle.columns.specs.declared.Reading.{Reading}
use Rattle.columns.specs.declared.Outcome.TheVariants.{Success, Failure}
use Rattle.table.specs.Answer.{Answer, given, refused, and_then, afterwards}
use Rattle.table.specs.Refusals.{turned_down}
use Rattle.table.specs.declared.refusals.Refusal.{Refusal}
use Rattle.well_formed.specs.Check.{check_answer}
use Rattle.well_formed.proofs.VerdictLaws.{check_means}
use Rattle.table.specs.Words.{each_words}
use Rattle.clauses.specs.Clauses as clauses
use Rattle.clauses.specs.Trace.{Trace, farthest_from, listed}
use Rattle.clauses.specs.Limits.{tokens_of, finite_over, fails11, fails12, fails16, WithinLimits}
use Rattle.clauses.specs.RunAnswer.{EndsRun, our_outcome, our_farthest, Ended, our_end, run_answer}
use Rattle.clauses.specs.ListAnswer.{our_captures, capture_words}
use Rattle.clauses.specs.Remembering.{memory_after}
use Rattle.clauses.proofs.ListWords.{list_fills}
use Rattle.clauses.proofs.MemoryWords.{memory_given}
use Rattle.theorems.proofs.Agreement.{outcome_only, farthest_only, captures_only, outcome_answered}
use Rattle.theorems.proofs.LimitLaws.{begins}
use Rattle.capture_list.specs.Put.{most_count, cleared_from}
use Rattle.capture_list.specs.declared.Counts.{Counts}
use Rattle.capture_list.specs.InternalList.{with_counts, Room, Leaves, lists, keeps}
use Rattle.capture_list.proofs.ClearLaws.{list_is}
use Rattle.memory.proofs.MemoryLaws.{nothing_kept}
use Rattle.walk.specs.declared.Walk.{Walk}
use Rattle.walk.specs.InternalWalk.{outcome_of, farthest_of, weight, Checked, Ready, Walked}
use Rattle.walk.specs.InternalRemembering.{Remembering}
use Rattle.walk.specs.InternalRun.{Admitted, Counted, WholeWalk, WholeWalkFrom}
use Rattle.walk.specs.WalkAnswer.{end_of, walk_answer, walk_after}
use Rattle.walk.proofs.WalkLaws.{weight_most}
use Rattle.table.proofs.AnswerLaws.{turned_first, turned_keeps}

-- A finite upper end of a start within the limits is at most the last column.
upper_right : (nodes words : List ℕ) (start : Start) → fails12 nodes words start ≡ false → finite_over start.interval.upper ≡ false
unfolding fails12
upper_right nodes words start e =
    let n = is_false (ltb start.node (node_count nodes)) in
    let p = ltb (tokens_of words).count start.place in
    let o = is_false (is_up_to start.interval.lower start.interval.upper) in
    let l = ltb most_column start.interval.lower in
    let u = finite_over start.interval.upper in
    (both_false (n || p || o || l) u (both_false (n || p || o || l || u) (is_false (is_relation start.mode)) e).0).1

upper_in : (h : Upper) → finite_over h ≡ false → finite h ≤ most_column
upper_in (At x) e = ltb-false most_column x e
upper_in Endless e = omega arith

-- From an empty list, with a count k: where that is 0, the count and the words of what is listed.
count_left :
    {t : Trace} {k : ℕ} {c' : Counts} {l l' : List ℕ} {u : State}
    → Leaves t (with_counts 0 k) l c' l' (Success u)
    → k ≡ 0
    → c'.so_far ≡ min (length (t.captures 0)) most_count
count_left (lists x) e = omega (arith, x.count, e)

long_left : {t : Trace} {k : ℕ} {c' : Counts} {l l' : List ℕ} {o : Outcome} → Leaves t (with_counts 0 k) l c' l' o → length l' ≡ length l
long_left (lists x) = x.keeps.long
long_left (keeps x) = x.long

words_left :
    {t : Trace} {k : ℕ} {c' : Counts} {l l' : List ℕ} {o : Outcome}
    → Leaves t (with_counts 0 k) l c' l' o
    → k ≡ 0
    → length (listed (outcome_of o) t) * 4 ≤ length l
    → (i : ℕ)
    → i < length (listed (outcome_of o) t) * 4
    → get_or l' i 0 ≡ get_or (each_words capture_words (listed (outcome_of o) t)) i 0
words_left {k = k} {l' = l'} (lists x) e f i b =
    let j : i ≡ k * 4 + i = omega (arith, e) in ap (λ (n : ℕ). get_or l' n 0) j ∙ x.there (omega (arith, e)) i b
words_left (keeps x) e f i b = absurd (omega arith)

-- A slice that is cleared has zeros alone, and remembers nothing.
cleared_all : (m : List ℕ) → cleared_from 0 m ≡ replicate (length m) 0
unfolding cleared_from
cleared_all m = let e : length m - 0 ≡ length m = omega arith in ap (λ (k : ℕ). replicate k 0) e

pub remembers_cleared :
    {reading : Reading} {nodes rules words : List ℕ} (m : List ℕ) {m' : List ℕ} → m' ≡ cleared_from 0 m → Remembering reading nodes rules words m'
remembers_cleared m e = rw (e, cleared_all m) (nothing_kept _ (length m))

module _ (reading : Reading) (nodes rules words : List ℕ) (start : Start) where
  abbrev Answered : Answer Ended → Type 0
  Answered v = v ≡ run_answer reading nodes rules words start

  -- The grammar is refused.
  pub check_refuses : (r : Refusal) → turned_down r ≡ check_answer nodes rules → Answered (turned_down r)
  unfolding run_answer
  check_refuses r e = rw (← e) (sym (turned_first Unit r _))

  -- 11 and 12.
  pub refused_11 : check_answer nodes rules ≡ given tt → fails11 words ≡ true → Answered (refused 11)
  unfolding run_answer
  refused_11 passed e = rw (passed, e) refl

  pub refused_12 : check_answer nodes rules ≡ given tt → fails11 words ≡ false → fails12 nodes words start ≡ true → Answered (refused 12)
  unfolding run_answer
  refused_12 passed e d = rw (passed, e, d) refl

  pub refused_16 :
      check_answer nodes rules ≡ given tt
      → fails11 words ≡ false
      → fails12 nodes words start ≡ false
      → fails16 reading nodes start ≡ true
      → Answered (refused 16)
  unfolding run_answer
  refused_16 passed e d f = rw (passed, e, d, f) refl

  -- What refuses a run refuses a walk, and the lent words are as they were.
  unwritten : (b : Bool) (lent after : List ℕ) → after ≡ lent → lent ≡ cond b after lent
  unwritten true lent after e = sym e
  unwritten false lent after e = refl

  module _ (lent : List ℕ) (r : Refusal) (e : Answered (turned_down r)) where
    pub walk_refused : turned_down r ≡ walk_answer reading nodes rules words start
    unfolding walk_answer
    walk_refused = rw (← e) (sym (turned_first Ended r _))

    pub list_refused : lent ≡ walk_after reading nodes rules words start lent
    unfolding walk_after
    list_refused = unwritten (leb (length (our_captures reading nodes rules words start)) (length lent / 4)) lent _ (rw (← e) (turned_keeps _ r _ lent))

    pub memory_refused : lent ≡ memory_after reading nodes rules words start lent
    unfolding memory_after
    memory_refused = rw (← e) (sym (turned_keeps _ r _ lent))

  module _ (admitted : Admitted reading nodes rules words start) where
    limits : WithinLimits reading nodes rules words start
    limits =
        record {
          table = ((check_means nodes rules).passes.0 admitted.table).0;
          tokens = admitted.tokens;
          start_right = admitted.start_right;
          reading_right = admitted.reading_right;
        }

    checked : Checked nodes rules words
    checked = record { table = limits.table; well = ((check_means nodes rules).passes.0 admitted.table).1; tokens = admitted.tokens }

    -- The walk may begin.
    abbrev from : State
    from = record { place = start.place; farthest = start.place; interval = start.interval; flag = start.flag }

    pub begin_ready : Ready nodes rules words start.node from
    begin_ready =
        let b = begins nodes words start admitted.start_right in
        let l = b.lower in
        let u = upper_in start.interval.upper (upper_right nodes words start admitted.start_right) in
        let w = weight_most nodes rules words start.node from checked b.node in
        record { checked = checked; node = b.node; place = b.place; some = b.some; room = omega arith }

    pub begin_room : {k : ℕ} → k ≤ most_count → {l : List ℕ} → length l < 2 ^ 64 → Room (weight nodes rules words start.node from) (with_counts 0 k) l
    begin_room c h =
        let b = begins nodes words start admitted.start_right in
        let w = weight_most nodes rules words start.node from checked b.node in
        record { deep = omega arith; count = c; long = h }

    -- The walk's outcome is the one that is defined.
    settled : (o : clauses.Outcome Interval) → EndsRun reading nodes rules words start o → o ≡ our_outcome reading nodes rules words start
    settled o d = outcome_only reading nodes rules words start limits checked.well o d

    answered : Answered (given (our_end reading nodes rules words start))
    answered = sym (outcome_answered reading nodes rules words start limits checked.well)

    -- What a whole walk shows, from what the expression walk shows.
    module _ {k : ℕ} {l : List ℕ} {o : Outcome} {c' : Counts} {l' : List ℕ}
        (d : Walked reading nodes rules words start.mode (form nodes start.node) from (with_counts 0 k) l o c' l') where
      same : listed (outcome_of o) d.shown ≡ our_captures reading nodes rules words start
      same =
          ap (listed (outcome_of o)) (sym d.gives.derived.shows)
          ∙ captures_only reading nodes rules words start limits checked.well (outcome_of o) d.gives.derived.run

      looked : farthest_of o ≡ our_farthest reading nodes rules words start
      looked =
          d.gives.looked
          ∙ ap (farthest_from start.place) (sym d.gives.derived.shows)
          ∙ farthest_only reading nodes rules words start limits checked.well (outcome_of o) d.gives.derived.run

      whole : (n : ℕ) → (k ≡ 0 → n ≡ min (length (listed (outcome_of o) d.shown)) most_count)
          → WholeWalkFrom reading nodes rules words start k l (record { outcome = o; captures = n }) l'
      whole n e =
          record {
            run = d.gives.derived.run;
            farthest = looked;
            long = long_left d.left;
            whole = λ z. record {
              run = d.gives.derived.run;
              farthest = looked;
              count = rw (← same) (e z);
              long = long_left d.left;
              there = rw (← same) (words_left d.left z);
            };
          }

    pub whole_failed :
        {k : ℕ} {l : List ℕ} {o : Outcome} {c' : Counts} {l' : List ℕ} (m : ℕ)
        → Walked reading nodes rules words start.mode (form nodes start.node) from (with_counts 0 k) l o c' l'
        → o ≡ Failure m
        → WholeWalkFrom reading nodes rules words start k l (record { outcome = Failure m; captures = 0 }) l'
    whole_failed {k} {l} {o} {c'} {l'} m d e =
        let f : Walked reading nodes rules words start.mode (form nodes start.node) from (with_counts 0 k) l (Failure m) c' l' = rw e at d in
        whole f 0 (λ z. omega arith)

    pub whole_read :
        {k : ℕ} {l : List ℕ} {o : Outcome} {c' : Counts} {l' : List ℕ} (u : State)
        → Walked reading nodes rules words start.mode (form nodes start.node) from (with_counts 0 k) l o c' l'
        → o ≡ Success u
        → WholeWalkFrom reading nodes rules words start k l (record { outcome = Success u; captures = c'.so_far }) l'
    whole_read {k} {l} {o} {c'} {l'} u d e =
        let f : Walked reading nodes rules words start.mode (form nodes start.node) from (with_counts 0 k) l (Success u) c' l' = rw e at d in
        whole f c'.so_far (count_left f.left)

    -- What an outcome says, with a derivation and its farthest place.
    end_is :
        (o : Outcome)
        → EndsRun reading nodes rules words start (outcome_of o)
        → farthest_of o ≡ our_farthest reading nodes rules words start
        → end_of o ≡ our_end reading nodes rules words start
    end_is (Success u) d e = rw (settled (outcome_of (Success u)) d, e) refl
    end_is (Failure m) d e = rw (settled (outcome_of (Failure m)) d, e) refl

    pub walk_answered :
        {l : List ℕ} {w : Walk} {l' : List ℕ}
        → WholeWalk reading nodes rules words start l w l'
        → given (record { ended = end_of w.outcome; count = w.captures }) ≡ walk_answer reading nodes rules words start
    unfolding walk_answer
    walk_answered {w = w} d = rw (← answered, end_is w.outcome d.run d.farthest, d.count) refl

    -- What a walk answers that lists nothing.
    pub run_answered :
        {k : ℕ} {l : List ℕ} {w : Walk} {l' : List ℕ}
        → WholeWalkFrom reading nodes rules words start k l w l'
        → Answered (given (end_of w.outcome))
    run_answered {w = w} d = rw (end_is w.outcome d.run d.farthest) answered

    -- The slice that is remembered in, cleared.
    pub memory_cleared : (m m' : List ℕ) {m'' : List ℕ} → length m' ≡ length m → m'' ≡ cleared_from 0 m' → m'' ≡ memory_after reading nodes rules words start m
    memory_cleared m m' e z = z ∙ cleared_all m' ∙ ap (λ (k : ℕ). replicate k 0) e ∙ sym (memory_given reading nodes rules words start m answered)

    -- The lent words, of so many captures.
    module _ (lent : List ℕ) (short : length lent < 2 ^ 64) {n : ℕ} (e : Counted reading nodes rules words start n) where
      pub no_room : length lent / 4 < n → lent ≡ walk_after reading nodes rules words start lent
      unfolding walk_after
      no_room h =
          let k : length lent / 4 < length (our_captures reading nodes rules words start) = omega arith in
          rw (lt-leb (length (our_captures reading nodes rules words start)) (length lent / 4) k) refl

      module _ (h : n ≤ length lent / 4) where
        exact : n ≡ length (our_captures reading nodes rules words start)
        exact = omega arith

        fits : length (our_captures reading nodes rules words start) * 4 ≤ length lent
        fits = let k = exact in omega arith

        -- Words in which the captures stand, with zeros behind them.
        filled :
            (l' : List ℕ) {l'' : List ℕ}
            → length l' ≡ length lent
            → ((i : ℕ) → i < length (our_captures reading nodes rules words start) * 4
            → get_or l' i 0 ≡ get_or (each_words capture_words (our_captures reading nodes rules words start)) i 0)
            → l'' ≡ cleared_from (n * 4) l'
            → l'' ≡ walk_after reading nodes rules words start lent
        unfolding walk_after
        filled l' m there z =
            let k : length (our_captures reading nodes rules words start) ≤ length lent / 4 = omega (arith, exact) in
            rw (le-leb (length (our_captures reading nodes rules words start)) (length lent / 4) k, ← answered)
            (z
            ∙ rw exact (list_is (our_captures reading nodes rules words start) (length lent) l' m fits there)
            ∙ sym (list_fills (our_captures reading nodes rules words start) lent fits))

        pub zeros : {l'' : List ℕ} → n ≡ 0 → l'' ≡ cleared_from 0 lent → l'' ≡ walk_after reading nodes rules words start lent
        zeros {l''} q z =
            let y : l'' ≡ cleared_from (n * 4) lent = rw q z in
            filled lent refl (λ i b. absurd (omega (arith, exact))) y

        pub listed_there :
            {w : Walk} {l' l'' : List ℕ}
            → WholeWalkFrom reading nodes rules words start 0 lent w l'
            → l'' ≡ cleared_from (n * 4) l'
            → l'' ≡ walk_after reading nodes rules words start lent
        listed_there {l' = l'} d z = filled l' d.long ((d.whole refl).there fits) z
