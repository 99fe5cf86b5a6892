-- The farthest place is what 02, Note 7, says: the largest of all the places that a terminal was tried at, and the start place
-- if none was tried; and it is a place in the token list. In any column domain and by either reading.
use Prim.Native.Nat.{ℕ, ◌≤◌, max}
use mathlib.Core.Path.{◌≡◌, refl, sym, ap, ◌∙◌}
use mathlib.Core.List.{List, [], ◌∷◌, ◌++◌}
use native.Mathlib.Omega.{arith}
use Rattle.table.specs.Form.{Form}
use Rattle.columns.specs.Domain.{Domain}
use Rattle.columns.specs.Sets.{ColumnSet, sets}
use Rattle.columns.specs.Intervals.{ends}
use Rattle.columns.specs.declared.Interval.{Interval}
use Rattle.columns.specs.declared.Start.{Start}
use Rattle.columns.specs.declared.Reading.{Reading}
use Rattle.table.specs.Answer.{given}
use Rattle.clauses.specs.Clauses.{Tokens, State, Outcome, Run, empty, terminal_clear, terminal_aligned, terminal_fails, rule}
use Rattle.clauses.specs.Clauses.{sequence, sequence_fails, choice_first, choice_second, not, not_fails, repeat_ends}
use Rattle.clauses.specs.Clauses.{repeat_again, indent, indent_fails, indent_through, position, align, align_fails}
use Rattle.clauses.specs.Trace.{trace, farthest_from}
use Rattle.clauses.specs.Trials.{trials, largest_with, largest_or}
use Rattle.clauses.specs.Limits.{tokens_of}
use Rattle.clauses.specs.RunAnswer.{SetRun, EndsRun, Ended, run_answer}
use Rattle.theorems.proofs.Narrows.{onward, within}
use Rattle.theorems.proofs.LimitLaws.{begins}
use Rattle.theorems.proofs.Agreement.{run_given, farthest_only, third_demand, outcome_answered, answered_within}

-- All of some places lie from one to another.
pub data Places (first last : ℕ) : List ℕ → Type 0 where
  none : Places first last []
  more : {w : ℕ} {places : List ℕ} → first ≤ w → w ≤ last → Places first last places → Places first last (w ∷ places)

later : {first first' last : ℕ} {places : List ℕ} → first ≤ first' → Places first' last places → Places first last places
later h none = none
later {first} h (more {w} l m p) = let k : first ≤ w = omega arith in more k m (later h p)

one : {last : ℕ} (w : ℕ) → w ≤ last → Places w last (w ∷ [])
one w h = let k : w ≤ w = omega arith in more k h none

both : {first last : ℕ} {places places' : List ℕ} → Places first last places → Places first last places' → Places first last (places ++ places')
both none q = q
both (more l m p) q = more l m (both p q)

-- The largest of places one behind the other: first that of the first.
with_both : (v : ℕ) (places places' : List ℕ) → largest_with v (places ++ places') ≡ largest_with (largest_with v places) places'
unfolding largest_with
with_both v [] places' = refl
with_both v (w ∷ places) places' = with_both (max v w) places places'

one_then_other :
    {v w : ℕ} (m : ℕ) (places places' : List ℕ)
    → v ≡ largest_with m places
    → w ≡ largest_with v places'
    → w ≡ largest_with m (places ++ places')
one_then_other m places places' d e = e ∙ ap (λ (v : ℕ). largest_with v places') d ∙ sym (with_both m places places')

-- Where none lies before the start, the start is the largest only if there is none.
or_start : {start last : ℕ} (places : List ℕ) → Places start last places → largest_with start places ≡ largest_or start places
unfolding largest_with
or_start [] none = refl
or_start {start} (w ∷ places) (more l m p) = let h : max start w ≡ w = omega arith in ap (λ (v : ℕ). largest_with v places) h

with_least : (v : ℕ) (places : List ℕ) → v ≤ largest_with v places
unfolding largest_with
with_least v [] = omega arith
with_least v (w ∷ places) = let h = with_least (max v w) places in omega arith

-- A place before them is joined to the largest of them.
with_joined : (v : ℕ) (places : List ℕ) → largest_with v places ≡ max v (largest_with 0 places)
unfolding largest_with
with_joined v [] = omega arith
with_joined v (w ∷ places) = let h = with_joined (max v w) places in let k = with_joined (max 0 w) places in omega arith

with_most : {first last : ℕ} (v : ℕ) (places : List ℕ) → v ≤ last → Places first last places → largest_with v places ≤ last
unfolding largest_with
with_most v [] h none = h
with_most v (w ∷ places) h (more l m p) = with_most (max v w) places (omega arith) p

module _ {ℓ κ} (D : Domain {ℓ, κ}) (reading : Reading) (nodes rules : List ℕ) (tokens : Tokens) where
  abbrev far : {τ : ℕ} {f : Form} {s : State D.Columns} {o : Outcome D.Columns} → Run D reading nodes rules tokens τ f s o → ℕ → ℕ
  far d = (trace D reading nodes rules tokens d).farthest

  abbrev tries : {τ : ℕ} {f : Form} {s : State D.Columns} {o : Outcome D.Columns} → Run D reading nodes rules tokens τ f s o → List ℕ
  tries d = trials D reading nodes rules tokens d

  -- From the largest place before a run to the largest one after it.
  pub runs_largest :
      {τ : ℕ} {f : Form} {s : State D.Columns} {o : Outcome D.Columns} (d : Run D reading nodes rules tokens τ f s o) (m : ℕ)
      → far d m ≡ largest_with m (tries d)
  unfolding trace trials largest_with
  runs_largest empty m = refl
  runs_largest (terminal_clear n i) m = refl
  runs_largest (terminal_aligned n i) m = refl
  runs_largest (terminal_fails h) m = refl
  runs_largest (rule d) m = runs_largest d m
  runs_largest (sequence d e) m = one_then_other m (tries d) (tries e) (runs_largest d m) (runs_largest e (far d m))
  runs_largest (sequence_fails d) m = runs_largest d m
  runs_largest (choice_first d) m = runs_largest d m
  runs_largest (choice_second d e) m = one_then_other m (tries d) (tries e) (runs_largest d m) (runs_largest e (far d m))
  runs_largest (not d) m = runs_largest d m
  runs_largest (not_fails d) m = runs_largest d m
  runs_largest (repeat_ends d) m = runs_largest d m
  runs_largest (repeat_again d e) m = one_then_other m (tries d) (tries e) (runs_largest d m) (runs_largest e (far d m))
  runs_largest (indent c d) m = runs_largest d m
  runs_largest (indent_fails c d) m = runs_largest d m
  runs_largest (indent_through c d) m = runs_largest d m
  runs_largest (position d) m = runs_largest d m
  runs_largest (align d) m = runs_largest d m
  runs_largest (align_fails d) m = runs_largest d m

  -- What a run tried, joined to what was tried before it: the second does not matter for the first.
  pub joined_to :
      {τ : ℕ} {f : Form} {s : State D.Columns} {o : Outcome D.Columns} (d : Run D reading nodes rules tokens τ f s o) (m : ℕ)
      → far d m ≡ max m (far d 0)
  joined_to d m = runs_largest d m ∙ with_joined m (tries d) ∙ ap (max m) (sym (runs_largest d 0))

  -- Every trial is at the run's place or later, and past the last token at the count.
  pub tried_within :
      {τ : ℕ} {f : Form} {s : State D.Columns} {o : Outcome D.Columns} (d : Run D reading nodes rules tokens τ f s o)
      → s.0 ≤ tokens.count
      → Places s.0 tokens.count (tries d)
  unfolding trials
  tried_within empty h = none
  tried_within (terminal_clear {w = w} n i) h = one w h
  tried_within (terminal_aligned {w = w} n i) h = one w h
  tried_within (terminal_fails {w = w} g) h = one w h
  tried_within (rule d) h = tried_within d h
  tried_within (sequence d e) h = both (tried_within d h) (later (onward D reading nodes rules tokens d) (tried_within e (within D reading nodes rules tokens h d)))
  tried_within (sequence_fails d) h = tried_within d h
  tried_within (choice_first d) h = tried_within d h
  tried_within (choice_second d e) h = both (tried_within d h) (tried_within e h)
  tried_within (not d) h = tried_within d h
  tried_within (not_fails d) h = tried_within d h
  tried_within (repeat_ends d) h = tried_within d h
  tried_within (repeat_again d e) h = both (tried_within d h) (later (onward D reading nodes rules tokens d) (tried_within e (within D reading nodes rules tokens h d)))
  tried_within (indent c d) h = tried_within d h
  tried_within (indent_fails c d) h = tried_within d h
  tried_within (indent_through c d) h = tried_within d h
  tried_within (position d) h = tried_within d h
  tried_within (align d) h = tried_within d h
  tried_within (align_fails d) h = tried_within d h

  module _ {τ : ℕ} {f : Form} {s : State D.Columns} {o : Outcome D.Columns} (d : Run D reading nodes rules tokens τ f s o) (h : s.0 ≤ tokens.count) where
    -- "the largest token place that a terminal was tried at .., and the start place if none was tried".
    pub farthest_largest : farthest_from s.0 (trace D reading nodes rules tokens d) ≡ largest_or s.0 (tries d)
    farthest_largest = runs_largest d s.0 ∙ or_start (tries d) (tried_within d h)

    -- It is a place in the token list, or the count.
    pub farthest_within : farthest_from s.0 (trace D reading nodes rules tokens d) ≤ tokens.count
    farthest_within = let p = runs_largest d s.0 in let q = with_most s.0 (tries d) h (tried_within d h) in omega arith

  -- A part that tries nothing adds nothing.
  pub untried :
      {τ : ℕ} {f : Form} {s : State D.Columns} {o : Outcome D.Columns} (d : Run D reading nodes rules tokens τ f s o) (m : ℕ)
      → tries d ≡ []
      → far d m ≡ m
  unfolding largest_with
  untried d m e = runs_largest d m ∙ ap (largest_with m) e

-- So the farthest place that a run answers is the largest one at which a terminal was tried, in every derivation, over two ends
-- and over sets, and the start place if none was tried; and it lies from the start's place to the token count.
module _ (reading : Reading) (nodes rules words : List ℕ) (start : Start) (x : Ended) (e : run_answer reading nodes rules words start ≡ given x) where
  at_start : start.place ≤ (tokens_of words).count
  at_start = let m = answered_within reading nodes rules words start x e in (begins nodes words start m.0.start_right).place

  answered_is : {y : Ended} → run_answer reading nodes rules words start ≡ given y → y ≡ x
  answered_is h = let g = e in cc

  pub answered_largest :
      (o : Outcome Interval) (d : EndsRun reading nodes rules words start o)
      → x.farthest ≡ largest_or start.place (trials ends reading nodes rules (tokens_of words) d)
  answered_largest o d =
      let m = answered_within reading nodes rules words start x e in
      let q = answered_is (outcome_answered reading nodes rules words start m.0 m.1) in
      sym (ap (λ (y : Ended). y.farthest) q)
      ∙ sym (farthest_only reading nodes rules words start m.0 m.1 o d)
      ∙ farthest_largest ends reading nodes rules (tokens_of words) d at_start

  pub answered_largest_sets :
      (o : Outcome ColumnSet) (d : SetRun reading nodes rules words start o)
      → x.farthest ≡ largest_or start.place (trials sets reading nodes rules (tokens_of words) d)
  answered_largest_sets o d =
      let m = answered_within reading nodes rules words start x e in
      let h = third_demand reading nodes rules words start m.0 m.1 in
      sym (ap (λ (y : Ended). y.farthest) (answered_is h.answered))
      ∙ sym (h.looked o d)
      ∙ farthest_largest sets reading nodes rules (tokens_of words) d at_start

  pub answered_farthest : (start.place ≤ x.farthest) × (x.farthest ≤ (tokens_of words).count)
  answered_farthest =
      let m = answered_within reading nodes rules words start x e in
      let d = (run_given reading nodes rules words start m.0 m.1).run in
      let q = answered_is (outcome_answered reading nodes rules words start m.0 m.1) in
      let p = sym (ap (λ (y : Ended). y.farthest) q) ∙ sym (farthest_only reading nodes rules words start m.0 m.1 _ d) in
      let l = runs_largest ends reading nodes rules (tokens_of words) d start.place in
      let k = with_least start.place (trials ends reading nodes rules (tokens_of words) d) in
      let h = farthest_within ends reading nodes rules (tokens_of words) d at_start in
      (omega arith, omega arith)
