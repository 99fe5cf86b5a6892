-- Note 7's words once more, without a running maximum: the list of all places that a terminal was tried at, read off a
-- derivation, and the largest of it. That the farthest place is this one is a theorem (`farthest_largest`, in `theorems`).
use Rattle.std.specs.Prelude.{ℕ, max, List, [], ◌∷◌, ◌++◌}
use Rattle.table.specs.Form.{Form}
use Rattle.columns.specs.Domain.{Domain}
use Rattle.columns.specs.declared.Reading.{Reading}
use Rattle.clauses.specs.Clauses.{Tokens, State, Outcome, Run, empty, terminal_clear}
use Rattle.clauses.specs.Clauses.{terminal_aligned, terminal_fails, rule, sequence, sequence_fails, choice_first}
use Rattle.clauses.specs.Clauses.{choice_second, not, not_fails, repeat_ends, repeat_again, indent, indent_fails}
use Rattle.clauses.specs.Clauses.{indent_through, position, align, align_fails}

module _ {ℓ κ} (D : Domain {ℓ, κ}) (reading : Reading) (nodes rules : List ℕ) (tokens : Tokens) where
  -- The places that a terminal was tried at, in the order of the trials; those inside nots and failed alternatives too.
  unfoldable pub trials :
      {τ : ℕ} {f : Form} {s : State D.Columns} {o : Outcome D.Columns}
      → Run D reading nodes rules tokens τ f s o
      → List ℕ
  trials empty = []
  trials (terminal_clear {w = w} n m) = w ∷ []
  trials (terminal_aligned {w = w} n m) = w ∷ []
  trials (terminal_fails {w = w} h) = w ∷ []
  trials (rule d) = trials d
  trials (sequence d e) = trials d ++ trials e
  trials (sequence_fails d) = trials d
  trials (choice_first d) = trials d
  trials (choice_second d e) = trials d ++ trials e
  trials (not d) = trials d
  trials (not_fails d) = trials d
  trials (repeat_ends d) = trials d
  trials (repeat_again d e) = trials d ++ trials e
  trials (indent c d) = trials d
  trials (indent_fails c d) = trials d
  trials (indent_through c d) = trials d
  trials (position d) = trials d
  trials (align d) = trials d
  trials (align_fails d) = trials d

-- The largest of a place and some more.
unfoldable pub largest_with : ℕ → List ℕ → ℕ
largest_with v [] = v
largest_with v (w ∷ places) = largest_with (max v w) places

-- "the largest token place that a terminal was tried at .., and the start place if none was tried".
abbrev pub largest_or : ℕ → List ℕ → ℕ
largest_or start [] = start
largest_or start (w ∷ places) = largest_with w places
