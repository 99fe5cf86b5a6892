-- Where the farthest place is (02, Note 7), as the program `entries` prints it below the line of the run: `farthest LINE:COLUMN`,
-- or `farthest end` behind the last token. It is said after a failure, and after a success that leaves tokens. A choice of ours.
use Rattle.std.specs.Prelude.{ℕ, Bool, true, cond, ◌||◌, List, [], ◌∷◌, ◌++◌, ltb}
use Rattle.table.specs.Answer.{Answer, given, refused, refused_at}
use Rattle.columns.specs.declared.Interval.{Interval}
use Rattle.report_checks.specs.Report.{fails8}
use Rattle.clauses.specs.Clauses.{Outcome, success, failure}
use Rattle.clauses.specs.Limits.{tokens_of, fails11}
use Rattle.clauses.specs.RunAnswer.{Ended}
use Rattle.answer_line.specs.AnswerLine.{decimal, space, break, count_in, slice_in, room}
use Rattle.answer_line.specs.EntryLine.{line_of, column_of, colon}

-- `farthest`
abbrev pub farthest_word : List ℕ
farthest_word = 102 ∷ 97 ∷ 114 ∷ 116 ∷ 104 ∷ 101 ∷ 115 ∷ 116 ∷ []

-- `end`
abbrev pub end_word : List ℕ
end_word = 101 ∷ 110 ∷ 100 ∷ []

-- The line for a place: the line and the column of its token, or `end` where there is none.
abbrev pub place_bytes : List ℕ → List ℕ → ℕ → List ℕ
place_bytes report words w =
    cond (ltb w (tokens_of words).count)
    (farthest_word ++ space ++ decimal (line_of report words w) ++ colon ++ decimal (column_of words w) ++ break)
    (farthest_word ++ space ++ end_word ++ break)

-- Whether a run from the first token on failed, or left some of so many tokens.
abbrev pub leaves : Outcome Interval → (count : ℕ) → Bool
leaves (success s) count = ltb s.0 count
leaves failure count = true

-- The line for an answer, over a report and its tokens: none where the run read every token or was refused.
abbrev pub said_bytes : List ℕ → List ℕ → Answer Ended → List ℕ
said_bytes report words (given e) =
    cond (leaves e.outcome (tokens_of words).count) (place_bytes report words e.farthest) []
said_bytes report words (refused number) = []
said_bytes report words (refused_at number node) = []

-- And none where 8 refuses the report or 11 the tokens.
unfoldable pub farthest_bytes : List ℕ → List ℕ → Answer Ended → List ℕ
farthest_bytes report words answer = cond (fails8 report || fails11 words) [] (said_bytes report words answer)

-- The line in a lent slice: how many bytes are written, and the slice afterwards.
unfoldable pub farthest_count : List ℕ → List ℕ → Answer Ended → ℕ → ℕ
farthest_count report words answer lent = count_in room (farthest_bytes report words answer) lent

unfoldable pub farthest_after : List ℕ → List ℕ → Answer Ended → List ℕ → List ℕ
farthest_after report words answer before = slice_in room (farthest_bytes report words answer) before
