-- What a run shows besides its outcome, read off its derivation by the ten clauses in any column domain: its captures (02,
-- Note 2) and the farthest place (02, Note 7). The clauses themselves know nothing of them.
use Rattle.std.specs.Prelude.{ℕ, ◌+◌, max, ◌≡◌, List, [], ◌∷◌, ◌++◌}
use Rattle.table.specs.Form.{Form}
use Rattle.columns.specs.Domain.{Domain}
use Rattle.columns.specs.declared.Reading.{Reading}
use Rattle.columns.specs.declared.Capture.{Capture}
use Rattle.clauses.specs.Clauses.{Tokens, State, Outcome, success, failure, Run, empty, terminal_clear}
use Rattle.clauses.specs.Clauses.{terminal_aligned, terminal_fails, rule, sequence, sequence_fails, choice_first}
use Rattle.clauses.specs.Clauses.{choice_second, not, not_fails, repeat_ends, repeat_again, indent, indent_fails}
use Rattle.clauses.specs.Clauses.{indent_through, position, align, align_fails}

-- The captures of a run, where so many are around it; and the largest place that a terminal was tried at, from the largest one
-- before the run.
pub record Trace : Type 0 where
  pub captures : ℕ → List Capture
  pub farthest : ℕ → ℕ

-- Nothing is captured, and no terminal is tried: the farthest place stays.
abbrev pub silent : Trace
silent = record { captures = λ k. []; farthest = λ m. m }

-- A terminal is tried at place w; "the count itself if tried past the last token", since the place there is the count.
abbrev pub tried : ℕ → Trace
tried w = record { captures = λ k. []; farthest = λ m. max m w }

-- One after the other, "in the order in which they were read".
infixl 60 ◌then◌
abbrev pub ◌then◌ : Trace → Trace → Trace
t then u = record { captures = λ k. t.captures k ++ u.captures k; farthest = λ m. u.farthest (t.farthest m) }

-- "outside any not, any failed alternative and a repeat's last, failed round": what was captured there is not listed. But
-- "Trials inside a not and in failed alternatives count", and so do those of the last round.
abbrev pub dropped : Trace → Trace
dropped t = record { captures = λ k. []; farthest = t.farthest }

-- Rule x from place w to the end of its outcome, with k captures around it, "before those inside it"; only a rule "that
-- succeeded" is a capture.
abbrev pub entered {ℓ} : {C : Type ℓ} → ℕ → ℕ → ℕ → Outcome C → List Capture → List Capture
entered x w k (success s) inside = record { rule = x; first = w; after = s.0; around = k } ∷ inside
entered x w k failure inside = []

-- Those inside it have one more around them.
abbrev pub captured {ℓ} : {C : Type ℓ} → ℕ → ℕ → Outcome C → Trace → Trace
captured x w o t = record { captures = λ k. entered x w k o (t.captures (k + 1)); farthest = t.farthest }

module _ {ℓ κ} (D : Domain {ℓ, κ}) (reading : Reading) (nodes rules : List ℕ) (tokens : Tokens) where
  -- The trace of a run, a word for each clause. A failed run's trace may hold what a part of it captured: inside a success
  -- every failure is dropped, and a whole run that fails lists none.
  unfoldable pub trace :
      {τ : ℕ} {f : Form} {s : State D.Columns} {o : Outcome D.Columns}
      → Run D reading nodes rules tokens τ f s o
      → Trace
  trace empty = silent
  trace (terminal_clear {w = w} n m) = tried w
  trace (terminal_aligned {w = w} n m) = tried w
  trace (terminal_fails {w = w} h) = tried w
  trace (rule {x = x} {s = s} {o = o} d) = captured x s.0 o (trace d)
  trace (sequence d e) = trace d then trace e
  trace (sequence_fails d) = trace d
  trace (choice_first d) = trace d
  trace (choice_second d e) = dropped (trace d) then trace e
  trace (not d) = dropped (trace d)
  trace (not_fails d) = dropped (trace d)
  trace (repeat_ends d) = dropped (trace d)
  trace (repeat_again d e) = trace d then trace e
  trace (indent c d) = trace d
  trace (indent_fails c d) = trace d
  trace (indent_through c d) = trace d
  trace (position d) = trace d
  trace (align d) = trace d
  trace (align_fails d) = trace d

  -- The clauses give outcome o, and trace t with it.
  pub record Gives (τ : ℕ) (f : Form) (s : State D.Columns) (o : Outcome D.Columns) (t : Trace) : Type (ℓ ⊔ κ) where
    pub run : Run D reading nodes rules tokens τ f s o
    pub shows : trace run ≡ t

-- The captures that a whole run lists: "a failure lists none".
abbrev pub listed {ℓ} : {C : Type ℓ} → Outcome C → Trace → List Capture
listed (success s) t = t.captures 0
listed failure t = []

-- The farthest place of a whole run from place w: it begins with w, "the start place if none was tried". No terminal is tried
-- before w, so where one was tried this is the largest place of all (`farthest_largest`, in `theorems`).
abbrev pub farthest_from : ℕ → Trace → ℕ
farthest_from w t = t.farthest w
