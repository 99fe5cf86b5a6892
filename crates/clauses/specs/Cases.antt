-- The bench cases a to j of 01 in one table, with the answers that 01 gives, and beside them cases that its slips would
-- break and runs that are turned down. The farthest place of each (02, Note 7) is worked by hand. A case is a run (nodes,
-- rules, tokens, start), answered by `run_answer`, or a check, answered by `check_answer`. `CasesHold`, in proofs, computes
-- them all.
use Rattle.std.specs.Prelude.{ℕ, Bool, true, false, List, [], ◌∷◌}
use Rattle.table.specs.Answer.{Answer, given, refused, refused_at}
use Rattle.table.specs.Words.{each_words}
use Rattle.table.specs.Form.{Form, empty, terminal, rule, sequence, choice, not, repeat, indent, position, align, other}
use Rattle.columns.specs.Relations.{equal, greater, at_least, any, step}
use Rattle.columns.specs.Intervals.{to}
use Rattle.columns.specs.declared.Upper.{Upper}
use Rattle.columns.specs.declared.Upper.TheVariants.{At, Endless}
use Rattle.columns.specs.declared.Start.{Start}
use Rattle.columns.specs.declared.Reading.{Reading}
use Rattle.columns.specs.declared.Reading.TheVariants.{By2017, By2014}
use Rattle.well_formed.specs.Check.{check_answer}
use Rattle.clauses.specs.Clauses.{success, failure}
use Rattle.clauses.specs.RunAnswer.{Ended, run_answer}

-- The four words of a form, by 01's table of kinds.
abbrev pub four_words : Form → List ℕ
four_words empty = 0 ∷ 0 ∷ 0 ∷ 0 ∷ []
four_words (terminal a) = 1 ∷ a ∷ 0 ∷ 0 ∷ []
four_words (rule x) = 2 ∷ x ∷ 0 ∷ 0 ∷ []
four_words (sequence a b) = 3 ∷ a ∷ b ∷ 0 ∷ []
four_words (choice a b) = 4 ∷ a ∷ b ∷ 0 ∷ []
four_words (not a) = 5 ∷ a ∷ 0 ∷ 0 ∷ []
four_words (repeat a) = 6 ∷ a ∷ 0 ∷ 0 ∷ []
four_words (indent a r) = 7 ∷ a ∷ 0 ∷ r ∷ []
four_words (position a r) = 8 ∷ a ∷ 0 ∷ r ∷ []
four_words (align a) = 9 ∷ a ∷ 0 ∷ 0 ∷ []
four_words other = 10 ∷ 0 ∷ 0 ∷ 0 ∷ []

-- "a5 is a at column 5": a terminal at a column.
pub record TokenAt : Type 0 where
  pub terminal : ℕ
  pub column : ℕ

-- A terminal at a column.
infixl 90 ◌at◌
abbrev pub ◌at◌ : ℕ → ℕ → TokenAt
t at c = record { terminal = t; column = c }

-- Its four words; the last two are not looked at.
abbrev pub token_words : TokenAt → List ℕ
token_words t = t.terminal ∷ t.column ∷ 0 ∷ 0 ∷ []

-- What a run answers: success at an end place, which from place 0 is the number of tokens read, with an interval from a lower to
-- an upper end, a flag and the farthest place.
abbrev pub reads : (end lower : ℕ) (upper : Upper) (flag : Bool) (farthest : ℕ) → Answer Ended
reads end lower upper flag farthest =
    given (record { outcome = success (end, to lower upper, flag); farthest = farthest })

-- A run that fails, and the farthest place.
abbrev pub fails : ℕ → Answer Ended
fails farthest = given (record { outcome = failure; farthest = farthest })

-- A call with the answer that is expected of it: a run of forms and rules on tokens, by 2017 or by 2014, or a check.
pub data Case : Type 0 where
  run :
      (nodes : List Form) (rules : List ℕ) (tokens : List TokenAt) (start : Start)
      (expected : Answer Ended)
      → Case
  run_by2014 :
      (nodes : List Form) (rules : List ℕ) (tokens : List TokenAt) (start : Start)
      (expected : Answer Ended)
      → Case
  check : (nodes : List Form) (rules : List ℕ) (expected : Answer Unit) → Case

-- What a run, or a check, answers.
pub data Answered : Type 0 where
  ran : Answer Ended → Answered
  checked : Answer Unit → Answered

-- What is expected of a case, and what the definitions answer to its call.
abbrev pub expected : Case → Answered
expected (run nodes rules tokens start answer) = ran answer
expected (run_by2014 nodes rules tokens start answer) = ran answer
expected (check nodes rules answer) = checked answer

abbrev pub running : Reading → List Form → List ℕ → List TokenAt → Start → Answer Ended
running reading nodes rules tokens start =
    run_answer reading (each_words four_words nodes) rules (each_words token_words tokens) start

unfoldable pub answered : Case → Answered
answered (run nodes rules tokens start answer) = ran (running By2017 nodes rules tokens start)
answered (run_by2014 nodes rules tokens start answer) = ran (running By2014 nodes rules tokens start)
answered (check nodes rules answer) = checked (check_answer (each_words four_words nodes) rules)

-- "Start interval 0 without end and flag clear unless said": node, mode.
abbrev pub from : ℕ → ℕ → Start
from node mode = record { node = node; place = 0; interval = to 0 Endless; flag = false; mode = mode }

-- The same at a place, node 0 in mode greater.
abbrev pub from_place : ℕ → Start
from_place place = record { node = 0; place = place; interval = to 0 Endless; flag = false; mode = greater }

-- "a, b are terminals"; c is one more.
abbrev pub a : ℕ
a = 1

abbrev pub b : ℕ
b = 2

abbrev pub c : ℕ
c = 3

-- Cases a to j.
unfoldable pub bench_cases : List Case
bench_cases =
    -- a. |ab|^> in mode ≥ on a²b³ (001's own example).
    run (terminal a ∷ terminal b ∷ sequence 0 1 ∷ align 2 ∷ indent 3 greater ∷ []) [] (a at 2 ∷ b at 3 ∷ [])
    (from 4 at_least) (reads 2 0 (At 1) false 1)
    -- b. a in mode > on a⁵ and on a⁰.
    ∷ run (terminal a ∷ []) [] (a at 5 ∷ []) (from 0 greater) (reads 1 0 (At 4) false 0)
    ∷ run (terminal a ∷ []) [] (a at 0 ∷ []) (from 0 greater) (fails 0)
    -- c. a in mode ≥ on a⁰.
    ∷ run (terminal a ∷ []) [] (a at 0 ∷ []) (from 0 at_least) (reads 1 0 (At 0) false 0)
    -- d. a in mode > with the flag set, on a⁵.
    ∷ run (terminal a ∷ []) [] (a at 5 ∷ [])
    (record { node = 0; place = 0; interval = to 0 Endless; flag = true; mode = greater }) (reads 1 5 (At 5) false 0)
    -- e. a and ε on no tokens.
    ∷ run (terminal a ∷ []) [] [] (from 0 equal) (fails 0)
    ∷ run (empty ∷ []) [] [] (from 0 equal) (reads 0 0 Endless false 0)
    -- f. a(b^> / ε) in mode equal on a¹b² and on a³b².
    ∷ run (terminal a ∷ terminal b ∷ indent 1 greater ∷ empty ∷ choice 2 3 ∷ sequence 0 4 ∷ []) []
    (a at 1 ∷ b at 2 ∷ []) (from 5 equal) (reads 2 1 (At 1) false 1)
    ∷ run (terminal a ∷ terminal b ∷ indent 1 greater ∷ empty ∷ choice 2 3 ∷ sequence 0 4 ∷ []) []
    (a at 3 ∷ b at 2 ∷ []) (from 5 equal) (reads 1 3 (At 3) false 1)
    -- g. ab^any in mode equal on a³b⁰.
    ∷ run (terminal a ∷ terminal b ∷ indent 1 any ∷ sequence 0 2 ∷ []) [] (a at 3 ∷ b at 0 ∷ [])
    (from 3 equal) (reads 2 3 (At 3) false 1)
    -- h. |ε|a in mode > on a⁵.
    ∷ run (empty ∷ align 0 ∷ terminal a ∷ sequence 1 2 ∷ []) [] (a at 5 ∷ [])
    (from 3 greater) (reads 1 0 (At 4) false 0)
    -- i. |a^>| in mode equal from 1 to 1 on a⁴.
    ∷ run (terminal a ∷ indent 0 greater ∷ align 1 ∷ []) [] (a at 4 ∷ [])
    (record { node = 2; place = 0; interval = to 1 (At 1); flag = false; mode = equal }) (reads 1 1 (At 1) false 0)
    -- j. The checks of ε*, of (!ε)* and of X = (a / ε)X.
    ∷ check (empty ∷ repeat 0 ∷ []) [] (refused_at 7 1)
    ∷ check (empty ∷ not 0 ∷ repeat 1 ∷ []) [] (given tt)
    ∷ check (terminal a ∷ empty ∷ choice 0 1 ∷ rule 0 ∷ sequence 2 3 ∷ []) (4 ∷ []) (refused_at 7 3)
    ∷ []

-- Cases that each slip would break.
unfoldable pub slip_cases : List Case
slip_cases =
    -- "Leaving the flag set ..": then b too would have to stand on the baseline.
    run (empty ∷ align 0 ∷ terminal b ∷ sequence 1 2 ∷ terminal a ∷ sequence 4 3 ∷ []) [] (a at 2 ∷ b at 5 ∷ [])
    (from 5 at_least) (reads 2 0 (At 2) false 1)
    -- "Ignoring indentation under a set flag ..": then a would have to stand at 1.
    ∷ run (terminal a ∷ indent 0 greater ∷ align 1 ∷ []) [] (a at 1 ∷ [])
    (record { node = 2; place = 0; interval = to 1 (At 1); flag = false; mode = equal }) (fails 0)
    -- "Trying the second alternative ..": a at 5 then c, in mode equal, or a in mode greater. From 5 to 5 the second would
    -- fail. c was tried behind the last token.
    ∷ run (terminal a ∷ terminal c ∷ sequence 0 1 ∷ position 2 equal ∷ choice 3 0 ∷ []) [] (a at 5 ∷ [])
    (from 4 greater) (reads 1 0 (At 4) false 1)
    -- "Capping the lower end ..": from 65,535 on, a under greater still matches (a reader that refused to pass 65,535 would
    -- fail), and an aligned a under greater is asked for past 65,535 (a reader that stopped there would read it).
    ∷ run (terminal a ∷ indent 0 greater ∷ []) [] (a at 7 ∷ [])
    (record { node = 1; place = 0; interval = to 65535 Endless; flag = false; mode = any }) (reads 1 65535 Endless false 0)
    ∷ run (terminal a ∷ align 0 ∷ indent 1 greater ∷ []) [] (a at 65535 ∷ [])
    (record { node = 2; place = 0; interval = to 65535 Endless; flag = false; mode = any }) (fails 0)
    -- The same of a finite upper end ("may now pass 65,535", 02, note 1): under a step by 2 it is 65,537, and back.
    ∷ run (terminal a ∷ indent 0 (step 2) ∷ []) [] (a at 7 ∷ [])
    (record { node = 1; place = 0; interval = to 65535 (At 65535); flag = false; mode = any }) (reads 1 65535 (At 65535) false 0)
    -- "Not and failure hand the old state on": not of a b in mode equal, then a in mode greater.
    ∷ run (terminal b ∷ position 0 equal ∷ not 1 ∷ terminal a ∷ sequence 2 3 ∷ []) [] (a at 5 ∷ [])
    (from 4 greater) (reads 1 0 (At 4) false 0)
    -- "else the repeat again from where the child ended": three tokens, and a last round behind them.
    ∷ run (terminal a ∷ repeat 0 ∷ []) [] (a at 0 ∷ a at 1 ∷ a at 2 ∷ []) (from 1 at_least) (reads 3 0 (At 0) false 3)
    ∷ []

-- Runs from another place than 0, and runs that a number turns down: 01's small inputs, and a terminal over 255 for 11.
unfoldable pub answer_cases : List Case
answer_cases =
    -- From place 1 one token is read, b, to the end place 2; from place 2, behind the last token, none.
    run (terminal b ∷ []) [] (a at 5 ∷ b at 7 ∷ []) (from_place 1) (reads 2 0 (At 6) false 1)
    ∷ run (empty ∷ []) [] (a at 5 ∷ b at 7 ∷ []) (from_place 2) (reads 2 0 Endless false 2)
    ∷ run (terminal b ∷ []) [] (a at 5 ∷ b at 7 ∷ []) (from_place 2) (fails 2)
    ∷ run [] [] [] (from 0 equal) (refused 3)
    ∷ run (repeat 0 ∷ []) [] [] (from 0 equal) (refused 4)
    ∷ run (empty ∷ []) (1 ∷ []) [] (from 0 equal) (refused 5)
    ∷ run (rule 0 ∷ []) (0 ∷ []) [] (from 0 equal) (refused_at 7 0)
    ∷ run (empty ∷ []) [] (256 at 0 ∷ []) (from 0 equal) (refused 11)
    ∷ run (empty ∷ []) [] [] (record { node = 0; place = 0; interval = to 5 (At 4); flag = false; mode = equal }) (refused 12)
    -- "Numbers 4, 5 and 12 begin at relation or mode 35" (02, note 1).
    ∷ run (empty ∷ indent 0 34 ∷ []) [] [] (from 1 34) (reads 0 0 Endless false 0)
    ∷ run (empty ∷ indent 0 35 ∷ []) [] [] (from 1 34) (refused 4)
    ∷ run (empty ∷ []) [] [] (from 0 35) (refused 12)
    -- "Checks run in rising number": 7 before 11, 11 before 12.
    ∷ run (rule 0 ∷ []) (0 ∷ []) (256 at 0 ∷ []) (from 0 equal) (refused_at 7 0)
    ∷ run (empty ∷ []) [] (256 at 0 ∷ []) (from 1 equal) (refused 11)
    ∷ []
