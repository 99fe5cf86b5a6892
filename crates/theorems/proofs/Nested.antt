-- The captures of a success in their order (02, Note 2): an outer one before those inside it, otherwise in the order read, each
-- between the ends of the one around it, with the right number around it. `CapturesInside` shows that their rules are there.
use Prim.Native.Nat.{ℕ, ◌+◌, ◌≤◌}
use mathlib.Core.Path.{◌≡◌, sym, subst}
use mathlib.Core.List.{List, [], ◌∷◌, ◌++◌, append_assoc, append-nil}
use native.Mathlib.Omega.{arith}
use Rattle.table.specs.Form.{Form, form}
use Rattle.columns.specs.Domain.{Domain}
use Rattle.columns.specs.Intervals.{ends}
use Rattle.columns.specs.declared.Interval.{Interval}
use Rattle.columns.specs.declared.Start.{Start}
use Rattle.columns.specs.declared.Capture.{Capture}
use Rattle.columns.specs.declared.Reading.{Reading}
use Rattle.well_formed.specs.WellFormed.{Passes}
use Rattle.clauses.specs.Clauses.{Tokens, State, Outcome, success, Run, empty, terminal_clear, terminal_aligned, rule, sequence}
use Rattle.clauses.specs.Clauses.{choice_first, choice_second, not, repeat_ends, repeat_again, indent, indent_through, position}
use Rattle.clauses.specs.Clauses.{align}
use Rattle.clauses.specs.Trace.{Trace, trace, Gives, listed}
use Rattle.clauses.specs.Limits.{tokens_of, WithinLimits}
use Rattle.clauses.specs.RunAnswer.{our_outcome, our_trace}
use Rattle.clauses.specs.ListAnswer.{our_captures}
use Rattle.theorems.proofs.Narrows.{onward}
use Rattle.theorems.proofs.Agreement.{run_given}

abbrev capture : ℕ → ℕ → ℕ → ℕ → Capture
capture x v v' k = record { rule = x; first = v; after = v'; around = k }

-- Captures from place w to place w' with k around them: a capture, those inside it, and then the rest.
pub data Nested : ℕ → ℕ → ℕ → List Capture → Type 0 where
  none : {k w w' : ℕ} → w ≤ w' → Nested k w w' []
  one :
      {k x w v v' w' : ℕ} {inside rest : List Capture}
      → w ≤ v
      → v ≤ v'
      → Nested (k + 1) v v' inside
      → Nested k v' w' rest
      → Nested k w w' (capture x v v' k ∷ (inside ++ rest))

stays : {k w : ℕ} → Nested k w w []
stays {k} {w} = let h : w ≤ w = omega arith in none h

token : {k w : ℕ} → Nested k w (w + 1) []
token {k} {w} = let h : w ≤ w + 1 = omega arith in none h

onto : {w v u : ℕ} → w ≤ v → v ≤ u → w ≤ u
onto h l = omega arith

earlier : {k w v u : ℕ} {cs : List Capture} → w ≤ v → Nested k v u cs → Nested k w u cs
earlier h (none l) = none (onto h l)
earlier h (one l g x r) = one (onto h l) g x r

joined : {k w v u : ℕ} {cs ds : List Capture} → Nested k w v cs → Nested k v u ds → Nested k w u (cs ++ ds)
joined (none h) y = earlier h y
joined {u = u} {ds = ds} (one {k = k} {x = x} {w = w} {v = v} {v' = v'} {inside = inside} {rest = rest} h g i r) y =
    subst (λ (l : List Capture). Nested k w u (capture x v v' k ∷ l)) (sym (append_assoc inside rest ds)) (one h g i (joined r y))

around : {k x v v' : ℕ} {inside : List Capture} → v ≤ v' → Nested (k + 1) v v' inside → Nested k v v' (capture x v v' k ∷ inside)
around {k} {x} {v} {v'} {inside} h i =
    subst (λ (l : List Capture). Nested k v v' (capture x v v' k ∷ l)) (append-nil inside) (one (let l : v ≤ v = omega arith in l) h i stays)

module _ {ℓ κ} (D : Domain {ℓ, κ}) (reading : Reading) (nodes rules : List ℕ) (tokens : Tokens) where
  pub nested :
      {τ : ℕ} {f : Form} {s s' : State D.Columns} (d : Run D reading nodes rules tokens τ f s (success s')) (k : ℕ)
      → Nested k s.0 s'.0 ((trace D reading nodes rules tokens d).captures k)
  unfolding trace
  nested empty k = stays
  nested (terminal_clear n i) k = token
  nested (terminal_aligned n i) k = token
  nested (rule d) k = around (onward D reading nodes rules tokens d) (nested d (k + 1))
  nested (sequence d e) k = joined (nested d k) (nested e k)
  nested (choice_first d) k = nested d k
  nested (choice_second d e) k = nested e k
  nested (not d) k = stays
  nested (repeat_ends d) k = stays
  nested (repeat_again d e) k = joined (nested d k) (nested e k)
  nested (indent c d) k = nested d k
  nested (indent_through c d) k = nested d k
  nested (position d) k = nested d k
  nested (align d) k = nested d k

-- So stand the captures that a run lists, with none around the outermost.
pub our_captures_nested :
    (reading : Reading) (nodes rules words : List ℕ) (start : Start) (limits : WithinLimits reading nodes rules words start) (well : Passes nodes rules) (s : State Interval)
    → our_outcome reading nodes rules words start ≡ success s
    → Nested 0 start.place s.0 (our_captures reading nodes rules words start)
our_captures_nested reading nodes rules words start limits well s e =
    by_outcome (our_outcome reading nodes rules words start) (our_trace reading nodes rules words start) (run_given reading nodes rules words start limits well) e
  where
    by_outcome :
        (o : Outcome Interval) (t : Trace)
        → Gives ends reading nodes rules (tokens_of words) start.mode (form nodes start.node) (start.place, start.interval, start.flag) o t
        → o ≡ success s
        → Nested 0 start.place s.0 (listed o t)
    by_outcome o t g q =
        let h : Gives ends reading nodes rules (tokens_of words) start.mode (form nodes start.node) (start.place, start.interval, start.flag) (success s) t = rw q at g in
        rw q (subst (λ (u : Trace). Nested 0 start.place s.0 (u.captures 0)) h.shows (nested ends reading nodes rules (tokens_of words) h.run 0))
