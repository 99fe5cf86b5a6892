-- What a run answers and lists, over plain values: from what the walk answers, and from the words that it left.
use Prim.Native.Nat.{ℕ, ◌+◌, ◌-◌, ◌*◌, ◌/◌, ◌≤◌, ◌<◌, ◌^◌, min}
use mathlib.Core.Path.{◌≡◌, refl, sym, ap, subst, ◌∙◌}
use mathlib.Core.Bool.{Bool, false, cond}
use mathlib.Core.List.{List, ◌++◌}
use lib.ListN.{length, drop}
use lib.Dec.{leb, ltb}
use native.Mathlib.Omega.{arith}
use borrow.Author.Tests.{lt-ltb, le-ltb}
use Rattle.std.proofs.lemmas.Bool.Decides.{nat_tests}
use Rattle.table.specs.Answer.{Answer, given, refused, refused_at, refuse_if, and_then, afterwards}
use Rattle.table.specs.Refusals.{turned_down}
use Rattle.table.specs.declared.refusals.Refusal.{Refusal}
use Rattle.columns.specs.declared.Outcome.{Outcome}
use Rattle.columns.specs.declared.Outcome.TheVariants as columns
use Rattle.columns.specs.Intervals.{ends}
use Rattle.columns.specs.declared.Interval.{Interval}
use Rattle.columns.specs.declared.State.{State}
use Rattle.columns.specs.declared.Start.{Start}
use Rattle.columns.specs.declared.Reading.{Reading}
use Rattle.well_formed.specs.WellFormed.{Passes}
use Rattle.clauses.specs.Clauses.{Outcome as Ending, success, failure}
use Rattle.clauses.specs.Limits.{tokens_of, WithinLimits}
use Rattle.clauses.specs.Trace.{listed}
use Rattle.clauses.specs.RunAnswer.{our_outcome, our_trace, Ended, our_end, run_answer, Reads}
use Rattle.clauses.specs.ListAnswer.{our_captures, fails13, Listing, list_answer, list_words, list_after}
use Rattle.clauses.proofs.ListWords.{list_fills}
use Rattle.theorems.proofs.Narrows.{onward}
use Rattle.theorems.proofs.Agreement.{run_given, farthest_only, captures_only, outcome_answered, answered_within}
use Rattle.capture_list.specs.Put.{most_count}
use Rattle.walk.specs.WalkAnswer.{end_of as walk_end, walk_answer, walk_after}
use Rattle.interpreter.specs.Numbers.{failing, end_of, Looked, CapturesStand}
use Rattle.table.proofs.AnswerLaws.{turned_first}

-- What refuses the second of two answers refuses the first, where the second is given; and a refusal goes on as it is.
refused_first : (A : Type 0) {B : Type 0} (r : Refusal) (first : Answer B) (x : A) → turned_down r ≡ and_then first (given x) → turned_down r ≡ first
refused_first A r (given b) x e = absurd (not_given r x e)
  where
    not_given : {A : Type 0} (r : Refusal) (x : A) → turned_down r ≡ given x → ⊥
    not_given r x e = grind arith
refused_first A r (refused k) x e = grind arith
refused_first A r (refused_at k n) x e = grind arith

-- The lent words afterwards, by whether there are places for so many captures: as a run that lists says, and as the walk does.
in_room :
    (n places : ℕ) (x : Listing) (written lent : List ℕ)
    → afterwards (refuse_if (ltb places n) 13 (given x)) written lent ≡ cond (leb n places) (written ++ drop (length written) lent) lent
in_room n places x written lent = grind (arith, nat_tests)

either_way : (b : Bool) (lent : List ℕ) → lent ≡ cond b lent lent
either_way b lent = grind arith

by_room :
    (r : Answer Ended) (n places : ℕ) (x : Listing) (written lent : List ℕ)
    → afterwards (and_then r (refuse_if (ltb places n) 13 (given x))) written lent ≡ cond (leb n places) (afterwards r written lent) lent
by_room (given ours) n places x written lent = in_room n places x written lent
by_room (refused k) n places x written lent = either_way (leb n places) lent
by_room (refused_at k m) n places x written lent = either_way (leb n places) lent

module _ (reading : Reading) (nodes rules words : List ℕ) (start : Start) where
  -- What refuses a walk refuses a run.
  pub run_refused : (r : Refusal) → turned_down r ≡ walk_answer reading nodes rules words start → turned_down r ≡ run_answer reading nodes rules words start
  unfolding walk_answer
  run_refused r e = refused_first Listing r (run_answer reading nodes rules words start) _ e

  -- What an end that is answered shows; and with the number of captures.
  pub record Shown (x : Ended) : Type 0 where
    pub limits : WithinLimits reading nodes rules words start
    pub well : Passes nodes rules
    pub end : x ≡ our_end reading nodes rules words start

  pub record ShownList (x : Ended) (n : ℕ) : Type 0 where
    pub shows : Shown x
    pub counted : n ≡ min (length (our_captures reading nodes rules words start)) most_count

  pub shown : {x : Ended} → given x ≡ run_answer reading nodes rules words start → Shown x
  shown {x} e =
      let l = answered_within reading nodes rules words start x (sym e) in
      let p : given x ≡ given (our_end reading nodes rules words start) = e ∙ outcome_answered reading nodes rules words start l.0 l.1 in
      record { limits = l.0; well = l.1; end = cc }

  -- What the walk gives where nothing refuses.
  abbrev whole : Listing
  whole =
      record {
        ended = our_end reading nodes rules words start;
        count = min (length (our_captures reading nodes rules words start)) most_count;
      }

  shown_by :
      (x : Listing) (r : Answer Ended) → run_answer reading nodes rules words start ≡ r → given x ≡ and_then r (given whole) → ShownList x.ended x.count
  shown_by x (given ours) p e =
      let l = answered_within reading nodes rules words start ours p in
      let q : x ≡ whole = cc in
      record {
        shows = record { limits = l.0; well = l.1; end = ap (λ (v : Listing). v.ended) q };
        counted = ap (λ (v : Listing). v.count) q;
      }
  shown_by x (refused k) p e = absurd (let z : ◌≡◌ {A = ℕ} 0 1 = cc in omega arith)
  shown_by x (refused_at k m) p e = absurd (let z : ◌≡◌ {A = ℕ} 0 1 = cc in omega arith)

  pub shown_list :
      {x : Ended} {n : ℕ}
      → given (record { ended = x; count = n }) ≡ walk_answer reading nodes rules words start
      → ShownList x n
  unfolding walk_answer
  shown_list {x} {n} e = shown_by (record { ended = x; count = n }) (run_answer reading nodes rules words start) refl e

  module _ {x : Ended} (h : Shown x) where
    answered : run_answer reading nodes rules words start ≡ given (our_end reading nodes rules words start)
    answered = outcome_answered reading nodes rules words start h.limits h.well

    derived : Looked reading nodes rules words start x
    derived =
        let d = (run_given reading nodes rules words start h.limits h.well).run in
        subst (Looked reading nodes rules words start) (sym h.end)
        (record { run = d; looked = sym (farthest_only reading nodes rules words start h.limits h.well _ d) })

  -- What a state ends in, at a place.
  abbrev reached : State → ℕ → Ended
  reached u w = record { outcome = success (w, u.interval, u.flag); farthest = u.farthest }

  module _ (u : State) (h : Shown (end_of u)) where
    pub success_onward : start.place ≤ u.place
    success_onward = onward ends reading nodes rules (tokens_of words) (derived h).run

    -- The tokens read end at the walk's place.
    read : Reads start.place (u.place - start.place) u.place
    read = let l = success_onward in omega arith

  -- What a run answers, by the case of the walk's outcome.
  module _ {o : Outcome} (e : given (walk_end o) ≡ run_answer reading nodes rules words start) where
    pub run_failed : {m : ℕ} → o ≡ columns.Failure m → Looked reading nodes rules words start (failing m)
    run_failed i = derived (shown (rw i at e))

    pub run_succeeded : {u : State} → o ≡ columns.Success u
        → Looked reading nodes rules words start (end_of u) × Reads start.place (u.place - start.place) u.place
    run_succeeded {u} i = let h : Shown (end_of u) = shown (rw i at e) in (derived h, read u h)

    pub run_onward : {u : State} → o ≡ columns.Success u → start.place ≤ u.place
    run_onward {u} i = success_onward u (shown (rw i at e))

  -- A failure lists none.
  failed_none :
      {x : Ended} {n : ℕ}
      → Shown x
      → x.outcome ≡ failure
      → n ≡ min (length (our_captures reading nodes rules words start)) most_count
      → n ≡ 0
  failed_none {x} h e c =
      let q : our_outcome reading nodes rules words start ≡ failure = sym (ap (λ (v : Ended). v.outcome) h.end) ∙ e in
      let z : length (our_captures reading nodes rules words start) ≡ 0 = ap (λ (o : Ending Interval). length (listed o (our_trace reading nodes rules words start))) q in
      omega arith

  -- So many lent words.
  module _ (lent : List ℕ) where
    -- A run that lists leaves in them what the walk does.
    pub list_leaves : list_after reading nodes rules words start lent ≡ walk_after reading nodes rules words start lent
    unfolding list_after walk_after list_answer fails13
    list_leaves = by_room (run_answer reading nodes rules words start) _ _ _ _ lent

    module _ (short : length lent < 2 ^ 64) {x : Ended} {n : ℕ} (h : ShownList x n) where
      thirteen : length lent / 4 < n → list_answer reading nodes rules words start (length lent) ≡ refused 13
      unfolding list_answer fails13
      thirteen k =
          let c = h.counted in
          let l : length lent / 4 < length (our_captures reading nodes rules words start) = omega arith in
          rw (answered h.shows, lt-ltb (length lent / 4) (length (our_captures reading nodes rules words start)) l) refl

      module _ (k : n ≤ length lent / 4) where
        exact : n ≡ length (our_captures reading nodes rules words start)
        exact = let c = h.counted in omega arith

        fits : length (our_captures reading nodes rules words start) * 4 ≤ length lent
        fits = let e = exact in omega arith

        passes : fails13 reading nodes rules words start (length lent) ≡ false
        unfolding fails13
        passes = le-ltb (length lent / 4) (length (our_captures reading nodes rules words start)) (let e = exact in omega arith)

        given_list : list_answer reading nodes rules words start (length lent) ≡ given (record { ended = x; count = n })
        unfolding list_answer
        given_list = rw (answered h.shows, passes, exact, h.shows.end) refl

        -- The words are the list's.
        slice : list_after reading nodes rules words start lent ≡ list_words (our_captures reading nodes rules words start) (length lent)
        unfolding list_after
        slice = rw given_list (list_fills (our_captures reading nodes rules words start) lent fits)

        stands : {l' : List ℕ} → l' ≡ walk_after reading nodes rules words start lent → length l' ≡ length lent → CapturesStand reading nodes rules words start x n l'
        stands after m =
            let f = derived h.shows in
            let c = captures_only reading nodes rules words start h.shows.limits h.shows.well x.outcome f.run in
            record { derived = f; counted = exact ∙ ap length (sym c); stands = rw (c, m) (after ∙ sym list_leaves ∙ slice) }

    -- What a run that lists answers, by the walk's outcome and count.
    module _ (short : length lent < 2 ^ 64) (o : Outcome) {n : ℕ}
        (e : given (record { ended = walk_end o; count = n }) ≡ walk_answer reading nodes rules words start) where
      pub list_short : length lent / 4 < n → list_answer reading nodes rules words start (length lent) ≡ refused 13
      list_short k = thirteen short (shown_list e) k

      -- A failure lists none, so it has room.
      module _ {f : ℕ} (i : o ≡ columns.Failure f) where
        none : ShownList (failing f) 0
        none =
            let h : ShownList (failing f) n = shown_list (rw i at e) in
            let z : n ≡ 0 = failed_none h.shows refl h.counted in
            subst (ShownList (failing f)) z h

        pub list_failed : list_answer reading nodes rules words start (length lent) ≡ given (record { ended = failing f; count = 0 })
        list_failed = given_list short none (omega arith)

        pub list_failed_stands :
            {l' : List ℕ} → l' ≡ walk_after reading nodes rules words start lent → length l' ≡ length lent → CapturesStand reading nodes rules words start (failing f) 0 l'
        list_failed_stands after m = stands short none (omega arith) after m

      module _ {u : State} (i : o ≡ columns.Success u) where
        some : ShownList (end_of u) n
        some = shown_list (rw i at e)

        pub list_onward : start.place ≤ u.place
        list_onward = success_onward u some.shows

        module _ (k : n ≤ length lent / 4) where
          pub list_succeeded :
              list_answer reading nodes rules words start (length lent)
              ≡ given (record { ended = reached u (start.place + (u.place - start.place)); count = n })
          list_succeeded = given_list short some k ∙ ap (λ (v : ℕ). given (record { ended = reached u v; count = n })) (sym (read u some.shows))

          pub list_succeeded_stands :
              {l' : List ℕ} → l' ≡ walk_after reading nodes rules words start lent → length l' ≡ length lent
              → CapturesStand reading nodes rules words start (end_of u) n l' × Reads start.place (u.place - start.place) u.place
          list_succeeded_stands after m = (stands short some k after m, read u some.shows)

    -- The answer, and the words that the walk left, where the run is refused or 13 refuses.
    module _ {l' : List ℕ} (after : l' ≡ walk_after reading nodes rules words start lent) where
      pub list_turned :
          (r : Refusal)
          → turned_down r ≡ run_answer reading nodes rules words start
          → turned_down r ≡ list_answer reading nodes rules words start (length lent)
      unfolding list_answer
      list_turned r e = rw (← e) (sym (turned_first Ended r _))

      pub list_untouched : (r : Refusal) → turned_down r ≡ run_answer reading nodes rules words start → l' ≡ list_after reading nodes rules words start lent
      list_untouched r e = after ∙ sym list_leaves

      module _ (short : length lent < 2 ^ 64) (m : length l' ≡ length lent) {x : Ended} {n : ℕ} (h : ShownList x n) where
        -- 13.
        pub list_13 :
            length l' / 4 < n
            → (refused 13 ≡ list_answer reading nodes rules words start (length lent)) × (l' ≡ list_after reading nodes rules words start lent)
        list_13 k = (sym (thirteen short h (rw m at k)), after ∙ sym list_leaves)

    -- What refuses a walk refuses a run that lists.
    pub list_refused :
        (r : Refusal)
        → turned_down r ≡ walk_answer reading nodes rules words start
        → list_answer reading nodes rules words start (length lent) ≡ turned_down r
    list_refused r e = sym (list_turned refl r (run_refused r e))
