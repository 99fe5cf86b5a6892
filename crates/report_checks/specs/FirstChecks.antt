-- The checks that a scan and a step begin with: 1 to 5 of the grammar file and 8 of the report.
use Rattle.std.specs.Prelude.{ℕ, ◌≤◌, ◌≡◌, Result, Ok, Err, List, length}
use Rattle.table.specs.Answer.{Answer, given, refuse_if, and_then}
use Rattle.table.specs.Refusals.{turned_down}
use Rattle.table.specs.declared.refusals.Refusal.{Refusal}
use Rattle.file_fields.specs.Offsets.{keywords_from}
use Rattle.grammar_file.specs.File.{most_keywords, keywords, fields_of, file_answer}
use Rattle.report_checks.specs.Report.{most_bytes, fails8}

-- The first of 1 to 5 and 8 that fails, or none.
unfoldable pub first_answer : List ℕ → List ℕ → Answer Unit
first_answer file text = and_then (file_answer file) (refuse_if (fails8 text) 8 (given tt))

-- Where none of them fails: so many keywords, where they stand, and a report within the limit.
pub record Passed (file text : List ℕ) (count : ℕ) : Type 0 where
  pub passes : given tt ≡ first_answer file text
  pub stands : keywords (fields_of file) ≡ keywords_from file count
  pub few : count ≤ most_keywords
  pub short : length text ≤ most_bytes

-- What a result says: so many keywords, and none of them fails, or the one that `first_answer` has.
abbrev pub Checks : List ℕ → List ℕ → Result ℕ Refusal → Type 0
Checks file text (Ok count) = Passed file text count
Checks file text (Err r) = turned_down r ≡ first_answer file text
