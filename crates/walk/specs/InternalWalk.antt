-- What the walk's functions tell one another. No public promise rests on this file.
use Rattle.std.specs.Prelude.{ℕ, ◌+◌, ◌-◌, ◌*◌, ◌%◌, ◌≤◌, ◌<◌, ◌^◌, max, ◌≡◌, true, false, cond, List, length}
use Rattle.table.specs.Limits.{most_nodes, relation_count, most_tokens, most_column}
use Rattle.table.specs.Answer.{given}
use Rattle.table.specs.Checks.{table_answer}
use Rattle.table.specs.Kinds.{word_of}
use Rattle.table.specs.declared.kinds.Kind.{Kind}
use Rattle.table.specs.declared.kinds.Kind.TheVariants.{Terminal, Indent, Align}
use Rattle.table.specs.Form.{Form, kind_of, node_count, stands_for}
use Rattle.columns.specs.Relations.{amount}
use Rattle.columns.specs.Lawful.{Some}
use Rattle.columns.specs.Intervals.{ends, inner_ends, fits, after_token}
use Rattle.columns.specs.InternalHighest.{highest, rise}
use Rattle.columns.specs.declared.Interval.{Interval}
use Rattle.columns.specs.declared.State.{State}
use Rattle.columns.specs.declared.Outcome.{Outcome}
use Rattle.columns.specs.declared.Outcome.TheVariants.{Success, Failure}
use Rattle.columns.specs.declared.Reading.{Reading}
use Rattle.well_formed.specs.WellFormed.{Passes}
use Rattle.well_formed.specs.InternalRank.{rank}
use Rattle.clauses.specs.Clauses as clauses
use Rattle.clauses.specs.Trace as trace
use Rattle.clauses.specs.Trace.{Trace, dropped}
use Rattle.clauses.specs.Evaluation.{reads}
use Rattle.clauses.specs.Limits.{tokens_of, fails11}
use Rattle.readings.specs.Readings.{in_force}
use Rattle.after_child.specs.AfterChild.{with_interval, with_flag}
use Rattle.capture_list.specs.Put.{puts_back}
use Rattle.capture_list.specs.declared.Counts.{Counts}
use Rattle.capture_list.specs.InternalList.{Lists, Leaves}

-- The declared states and outcomes as those of the clauses.
abbrev pub state_of : State → clauses.State Interval
state_of s = (s.place, s.interval, s.flag)

abbrev pub outcome_of : Outcome → clauses.Outcome Interval
outcome_of (Success s) = clauses.success (state_of s)
outcome_of (Failure farthest) = clauses.failure

-- The farthest place that an outcome has.
abbrev pub farthest_of : Outcome → ℕ
farthest_of (Success s) = s.farthest
farthest_of (Failure farthest) = farthest

-- The state in which the first child of a node of a kind is walked, by a reading.
unfoldable pub child_state : Reading → Kind → ℕ → State → State
child_state reading Indent r s = with_interval s (inner_ends (in_force reading s.flag r) s.interval)
child_state reading Align r s = with_flag s true
child_state reading kind r s = s

-- A state with another farthest place.
abbrev pub with_farthest : State → ℕ → State
with_farthest s m = record { place = s.place; farthest = m; interval = s.interval; flag = s.flag }

-- An outcome from a state in which nothing was tried, with what was tried before, up to m, joined to what it tried.
abbrev pub joined_outcome : ℕ → Outcome → Outcome
joined_outcome m (Success u) = Success (with_farthest u (max m u.farthest))
joined_outcome m (Failure farthest) = Failure (max m farthest)

-- Clause 2: tokens, mode, terminal, state.
unfoldable pub token_outcome : List ℕ → ℕ → ℕ → State → Outcome
token_outcome words τ a s =
    cond (reads (tokens_of words) τ a (state_of s))
    (Success
    (record {
      place = s.place + 1;
      farthest = max s.farthest s.place;
      interval = after_token s.flag τ s.interval ((tokens_of words).column s.place);
      flag = false;
    })) (Failure (max s.farthest s.place))

-- The same for a token that is there, of that terminal: mode, state, farthest place, column.
abbrev pub column_outcome : ℕ → State → ℕ → ℕ → Outcome
column_outcome τ s farthest i =
    cond (fits s.flag τ s.interval i)
    (Success
    (record { place = s.place + 1; farthest = farthest; interval = after_token s.flag τ s.interval i; flag = false }))
    (Failure farthest)

pub record ReadyToken (words : List ℕ) : Type 0 where
  pub whole : length words % 4 ≡ 0
  pub few : length words ≤ 16384

-- What is left to do at a node in a state: tokens left, then rank, which is 1 to the number of nodes.
unfoldable pub weight : List ℕ → List ℕ → List ℕ → ℕ → State → ℕ
weight nodes rules words n s = ((tokens_of words).count - s.place) * node_count nodes + rank nodes rules n

-- The largest weight: 4,096 tokens left and rank 512.
abbrev pub most_weight : ℕ
most_weight = (most_tokens + 1) * most_nodes

-- The largest amount of a step.
abbrev pub most_amount : ℕ
most_amount = amount (relation_count - 1)

-- No end passes this: 65,535 + 31 × 512 × 4,097 = 65,093,119.
abbrev pub most_end : ℕ
most_end = most_column + most_amount * most_weight

-- The checks that a call of the walk has behind it: 3, 4, 5, 7 and 11.
pub record Checked (nodes rules words : List ℕ) : Type 0 where
  pub table : table_answer nodes rules ≡ given tt
  pub well : Passes nodes rules
  pub tokens : fails11 words ≡ false

-- What the expression walk asks: a node and a place that are there, columns that are not none, and room for both ends to
-- rise.
pub record Ready (nodes rules words : List ℕ) (n : ℕ) (s : State) : Type 0 where
  pub checked : Checked nodes rules words
  pub node : n < node_count nodes
  pub place : s.place ≤ (tokens_of words).count
  pub some : Some ends s.interval
  pub room : highest s.interval + most_amount * weight nodes rules words n s ≤ most_end

-- The node that is walked first in a node n of a kind: a terminal's own, else its first child a.
abbrev pub first_node : Kind → ℕ → ℕ → ℕ
first_node Terminal n a = n
first_node kind n a = a

-- What the walk of that node asks. For a terminal it is the node itself.
pub record ReadyFirst (reading : Reading) (nodes rules words : List ℕ) (n : ℕ) (q : Kind) (r : ℕ) (s : State) : Type 0
  where
    pub ready : Ready nodes rules words n (child_state reading q r s)
    pub terminal : q ≡ Terminal → kind_of nodes n ≡ 1
    pub room : highest s.interval + rise (in_force reading s.flag r) < 2 ^ 32

-- What the rule walk asks.
pub record ReadyRule (nodes rules words : List ℕ) (x : ℕ) (s : State) : Type 0 where
  pub there : x < length rules
  pub ready : Ready nodes rules words (stands_for rules x) s

-- The clauses over two ends give the outcome, and a trace with it, which leads to the outcome's farthest place.
pub record Gives (reading : Reading) (nodes rules words : List ℕ) (τ : ℕ) (f : Form) (s : State) (o : Outcome)
    (t : Trace) : Type 0 where
  pub derived : trace.Gives ends reading nodes rules (tokens_of words) τ f (state_of s) (outcome_of o) t
  pub looked : farthest_of o ≡ t.farthest s.farthest

-- What the expression walk and the rule walk show: an outcome with its trace, whose captures are in the list.
pub record Walked (reading : Reading) (nodes rules words : List ℕ) (τ : ℕ) (f : Form) (s : State) (counts : Counts) (list : List ℕ)
    (o : Outcome) (counts' : Counts) (list' : List ℕ) : Type 0 where
  pub shown : Trace
  pub gives : Gives reading nodes rules words τ f s o shown
  pub left : Leaves shown counts list counts' list' o

-- What the walk of what is walked first in a node of kind q shows: its captures, unless they are put back.
pub record WalkedFirst (q : Kind) (reading : Reading) (nodes rules words : List ℕ) (τ : ℕ) (f : Form) (s : State)
    (counts : Counts) (list : List ℕ) (o : Outcome) (counts' : Counts) (list' : List ℕ) : Type 0 where
  pub shown : Trace
  pub gives : Gives reading nodes rules words τ f s o shown
  pub left : Lists (cond (puts_back (word_of q) o) (dropped shown) shown) counts list counts' list'
