-- A run that is lent words to remember outcomes in (02, Note 8). Its answer is that of the plain run (`run_answer`), whatever
-- the words held; this file says what they hold afterwards.
use Rattle.std.specs.Prelude.{ℕ, List, length, replicate}
use Rattle.table.specs.Answer.{afterwards}
use Rattle.columns.specs.declared.Start.{Start}
use Rattle.columns.specs.declared.Reading.{Reading}
use Rattle.clauses.specs.RunAnswer.{run_answer}

-- "after an unrefused run all its words are 0"; as they were where the call is refused.
unfoldable pub memory_after : Reading → List ℕ → List ℕ → List ℕ → Start → List ℕ → List ℕ
memory_after reading nodes rules words start before =
    afterwards (run_answer reading nodes rules words start) (replicate (length before) 0) before
