-- What the walk tells of the lent slice that it remembers in. No public promise rests on this file.
use Rattle.std.specs.Prelude.{ℕ, ◌≡◌, Bool, true, Option, Some, None, List, ◌⊎◌}
use Rattle.table.specs.Form.{form}
use Rattle.table.specs.Kinds.{word_of}
use Rattle.table.specs.declared.kinds.Kind.{Kind}
use Rattle.columns.specs.declared.Interval.{Interval}
use Rattle.columns.specs.declared.State.{State}
use Rattle.columns.specs.declared.Outcome.{Outcome}
use Rattle.columns.specs.declared.Outcome.TheVariants.{Success, Failure}
use Rattle.columns.specs.declared.Reading.{Reading}
use Rattle.clauses.specs.Trace.{Trace}
use Rattle.capture_list.specs.Put.{quiet_in}
use Rattle.memory.specs.Memory.{recalled, kept}
use Rattle.memory.specs.InternalRemembers.{Remembers}
use Rattle.walk.specs.InternalWalk.{Gives}

-- An outcome of a node n in mode τ at place w with interval I and flag b has a derivation, and its farthest place is that of
-- what the derivation tried.
pub record Derives (reading : Reading) (nodes rules words : List ℕ) (n τ w : ℕ) (I : Interval) (b : Bool) (x : Outcome) : Type 0
  where
    pub shown : Trace
    pub gives :
        Gives reading nodes rules words τ (form nodes n) (record { place = w; farthest = 0; interval = I; flag = b }) x shown

-- Every remembered outcome has a derivation.
abbrev pub Remembering : Reading → List ℕ → List ℕ → List ℕ → List ℕ → Type 0
Remembering reading nodes rules words memory = Remembers (Derives reading nodes rules words) memory

-- An outcome of what is walked first in a node of kind q may be used again, with so many captures so far: a success only where
-- nothing is listed.
abbrev pub Usable : Kind → ℕ → Outcome → Type 0
Usable q count (Success u) = quiet_in (word_of q) count ≡ true
Usable q count (Failure farthest) = Unit

-- What is found for node n in mode τ from a state: a remembered outcome that may be used, or nothing, always.
abbrev pub Recalls : List ℕ → Kind → ℕ → ℕ → State → ℕ → Option Outcome → Type 0
Recalls memory q n τ s count (Some x) =
    (recalled memory n τ s.place s.interval s.flag ≡ Some x) × Usable q count x
Recalls memory q n τ s count None = Unit

-- The slice once an outcome from a state was to be remembered: it is kept, or nothing is.
abbrev pub Stored : List ℕ → ℕ → ℕ → State → Outcome → List ℕ → Type 0
Stored memory n τ s x memory' = (memory' ≡ kept memory n τ s.place s.interval s.flag x) ⊎ (memory' ≡ memory)
