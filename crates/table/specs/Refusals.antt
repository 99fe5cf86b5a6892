-- 01's numbers of the checks that turn a call down ("Turned-down calls"; 13 and 14: 02, note 2; 15: note 4; 16: note 5), and
-- the answer that a result of the code stands for.
use Rattle.std.specs.Prelude.{ℕ, Result, Ok, Err}
use Rattle.table.specs.Answer.{Answer, given, refused, refused_at}
use Rattle.table.specs.declared.refusals.Refusal.{Refusal}
use Rattle.table.specs.declared.refusals.Refusal.TheVariants.{Fields, Spelling, Counts, Node, Rule, Room, IllFormed, Report, Column}
use Rattle.table.specs.declared.refusals.Refusal.TheVariants.{TokenRoom, Tokens, Start, CaptureRoom, Capture, RuleCount, Reading}

-- The number of a check.
abbrev pub number_of : Refusal → ℕ
number_of Fields = 1
number_of Spelling = 2
number_of Counts = 3
number_of Node = 4
number_of Rule = 5
number_of Room = 6
number_of (IllFormed node) = 7
number_of Report = 8
number_of Column = 9
number_of TokenRoom = 10
number_of Tokens = 11
number_of Start = 12
number_of CaptureRoom = 13
number_of Capture = 14
number_of RuleCount = 15
number_of Reading = 16

-- The answer of a call that is turned down: the number, "with the node for 7".
abbrev pub turned_down : {A : Type 0} → Refusal → Answer A
turned_down (IllFormed node) = refused_at (number_of (IllFormed node)) node
turned_down r = refused (number_of r)

-- What a result answers: what was asked for, by what it means, or the refusal.
abbrev pub answer_by : {A B : Type 0} → (A → B) → Result A Refusal → Answer B
answer_by meaning (Ok x) = given (meaning x)
answer_by meaning (Err r) = turned_down r
