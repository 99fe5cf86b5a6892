-- What stored bytes stand for in a run, and how many numbers are printed of what it ended in.
use Rattle.std.specs.Prelude.{ℕ, zero, suc, ◌≡◌, Bool, true, false, Result, Ok, Err, List, get_or}
use Rattle.table.specs.declared.refusals.Refusal.{Refusal}
use Rattle.columns.specs.declared.Start.{Start}
use Rattle.columns.specs.declared.Reading.{Reading}
use Rattle.columns.specs.declared.Upper.{Upper}
use Rattle.columns.specs.declared.Upper.TheVariants.{At, Endless}
use Rattle.interpreter.specs.Numbers.{numbers, Derived}
use Rattle.interpreter.specs.declared.Ran.{Ran}
use Rattle.interpreter.specs.declared.Ran.TheVariants.{Success, Failure}
use Rattle.clauses.specs.RunAnswer.{run_answer}
use Rattle.stored_cases.specs.Numbers.{pair_at, quad_at, pairs}

-- 0 is without end; any other number says that the end is a column.
abbrev pub upper_of : ℕ → ℕ → Upper
upper_of zero column = Endless
upper_of (suc n) column = At column

-- 0 is clear.
abbrev pub flag_of : ℕ → Bool
flag_of zero = false
flag_of (suc n) = true

-- The start of a run in 18 bytes.
unfoldable pub start_of : List ℕ → Start
start_of bytes =
    record {
      node = pair_at bytes 2;
      place = quad_at bytes 6;
      interval = record { lower = quad_at bytes 10; upper = upper_of (get_or bytes 1 0) (quad_at bytes 14) };
      flag = flag_of (get_or bytes 0 0);
      mode = pair_at bytes 4;
    }

-- A run of a table answered what it is to answer, and its outcome is derived.
pub record Answers (reading : Reading) (nodes rules tokens : List ℕ) (start : Start) (ran : Result Ran Refusal) : Type 0 where
  pub answer : numbers start.place ran ≡ run_answer reading nodes rules tokens start
  pub derived : Derived reading nodes rules tokens start ran

-- The same of stored bytes, of at most 2,100 node words and 200 rule words.
abbrev pub StoredAnswers : Reading → List ℕ → List ℕ → List ℕ → Start → Result Ran Refusal → Type 0
StoredAnswers reading nodes rules tokens start ran = Answers reading (pairs 2100 nodes) (pairs 200 rules) tokens start ran

-- How many numbers a success has: the tokens read, the lower end, the upper end where it is a column, and the farthest place.
abbrev pub shown_upper : Upper → ℕ
shown_upper (At column) = 4
shown_upper Endless = 3

-- How many numbers are printed of what a run ended in.
abbrev pub shown_count : {E : Type 0} → Result Ran E → ℕ
shown_count (Ok (Success read state)) = shown_upper state.interval.upper
shown_count (Ok (Failure farthest)) = 1
shown_count (Err refusal) = 1
