-- What the program `entries` prints its lines from: the captures of the file's start on a report's tokens (02, Note 2).
use Rattle.std.specs.Prelude.{ℕ, ◌+◌, ◌*◌, ◌/◌, cond, List, length, get_or, ltb, Result, Ok, Err}
use Rattle.table.specs.Answer.{Answer, given, refused, refused_at, afterwards}
use Rattle.table.specs.declared.refusals.Refusal.{Refusal}
use Rattle.grammar_file.specs.File.{fields_of, node_table, rule_list}
use Rattle.token_words.specs.Scan.{words_of, scan_tokens}
use Rattle.columns.specs.declared.Capture.{Capture}
use Rattle.columns.specs.declared.Reading.TheVariants.{By2017}
use Rattle.clauses.specs.RunAnswer.{Ended, Reads}
use Rattle.clauses.specs.ListAnswer.{our_captures, Listing, list_answer, list_words}
use Rattle.interpreter.specs.declared.Ran.{Ran}
use Rattle.interpreter.specs.declared.Ran.TheVariants.{Success, Failure}
use Rattle.line.specs.Line.{file_start, after_parts, parts_answer}

-- The lowest number of the parts, then 13, then what the run ends in with the number of captures: for so many words lent for the
-- tokens and for the captures.
unfoldable pub entries_answer : List ℕ → List ℕ → ℕ → ℕ → Answer Listing
entries_answer file report tokens_lent captures_lent =
    after_parts file report tokens_lent
    (list_answer By2017 (node_table (fields_of file)) (rule_list (fields_of file)) (words_of (scan_tokens file report))
    (file_start file) captures_lent)

-- What the run ends in alone, by which the last lines are printed.
abbrev pub end_answer : Answer Listing → Answer Ended
end_answer (given x) = given x.ended
end_answer (refused number) = refused number
end_answer (refused_at number node) = refused_at number node

-- The state of a success stands where the tokens read end: the run begins at place 0.
abbrev pub Placed : Result Ran Refusal → Type 0
Placed (Ok (Success read s)) = Reads 0 read s.place
Placed (Ok (Failure farthest)) = Unit
Placed (Err refusal) = Unit

-- The number of captures; none where the call is refused.
abbrev pub capture_count : Answer Listing → ℕ
capture_count (given x) = x.count
capture_count (refused number) = 0
capture_count (refused_at number node) = 0

-- The number of tokens, where 1 to 10 pass.
abbrev pub given_count : Answer ℕ → ℕ
given_count (given n) = n
given_count (refused number) = 0
given_count (refused_at number node) = 0

unfoldable pub token_count : List ℕ → List ℕ → ℕ → ℕ
token_count file report lent = given_count (after_parts file report lent (given (length (scan_tokens file report))))

-- The words lent for the tokens afterwards: those of the scan where 1 to 10 pass.
unfoldable pub tokens_after : List ℕ → List ℕ → List ℕ → List ℕ
tokens_after file report before =
    afterwards (parts_answer file report (length before)) (words_of (scan_tokens file report)) before

-- The captures of the file's start.
abbrev pub entries : List ℕ → List ℕ → List Capture
entries file report =
    our_captures By2017 (node_table (fields_of file)) (rule_list (fields_of file)) (words_of (scan_tokens file report)) (file_start file)

-- The words lent for the captures afterwards: the list and zeros behind it, where nothing refuses.
unfoldable pub captures_after : List ℕ → List ℕ → ℕ → List ℕ → List ℕ
captures_after file report tokens_lent before =
    afterwards (entries_answer file report tokens_lent (length before)) (list_words (entries file report) (length before)) before

-- The capture at a place of a list, from its four words; zeros where there is no such place.
unfoldable pub capture_at : List ℕ → ℕ → Capture
capture_at words n =
    cond (ltb n (length words / 4))
    (record {
      rule = get_or words (n * 4) 0;
      first = get_or words (n * 4 + 1) 0;
      after = get_or words (n * 4 + 2) 0;
      around = get_or words (n * 4 + 3) 0;
    })
    (record { rule = 0; first = 0; after = 0; around = 0 })
