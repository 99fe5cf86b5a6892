-- The state after an indent and after an align: s is the state before it, u the one that its child ended in; and the state
-- behind a child that failed.
use Rattle.std.specs.Prelude.{ℕ, Bool}
use Rattle.columns.specs.Intervals.{outer_ends, meet_ends}
use Rattle.columns.specs.declared.Interval.{Interval}
use Rattle.columns.specs.declared.State.{State}
use Rattle.columns.specs.declared.Reading.{Reading}
use Rattle.clauses.specs.Clauses.{handed_on}

-- A state with another interval.
abbrev pub with_interval : State → Interval → State
with_interval s c = record { place = s.place; farthest = s.farthest; interval = c; flag = s.flag }

-- A state with another flag.
abbrev pub with_flag : State → Bool → State
with_flag s b = record { place = s.place; farthest = s.farthest; interval = s.interval; flag = b }

-- Clause 8, success: the old interval met with the outer set, by relation r, of the child's.
abbrev pub left_state : ℕ → State → State → State
left_state r s u = with_interval u (meet_ends s.interval (outer_ends r u.interval))

-- Clause 10, success: the flag that the reading hands on.
abbrev pub aligned_state : Reading → State → State → State
aligned_state reading s u = with_flag u (handed_on reading s.flag u.flag)

-- "Not and failure hand the old state on" (01), with the farthest place that the child left: "Trials inside a not and in failed
-- alternatives count" (02, Note 7).
abbrev pub failed_state : State → ℕ → State
failed_state s farthest = record { place = s.place; farthest = farthest; interval = s.interval; flag = s.flag }
