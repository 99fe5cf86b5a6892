-- The program's line (01, "Bench cases", last paragraph): from the bytes of a grammar file and a report.
use Rattle.std.specs.Prelude.{ℕ, ◌*◌, false, List}
use Rattle.table.specs.Answer.{Answer, given, and_then}
use Rattle.table.specs.Limits.{most_nodes, most_rules, most_tokens}
use Rattle.columns.specs.Intervals.{to}
use Rattle.columns.specs.declared.Upper.TheVariants.{Endless}
use Rattle.columns.specs.declared.Start.{Start}
use Rattle.grammar_file.specs.File.{fields_of, node_table, rule_list, start_node, start_mode, read_answer}
use Rattle.token_words.specs.Scan.{words_of, scan_tokens, scan_answer}
use Rattle.well_formed.specs.Check.{check_answer}
use Rattle.columns.specs.declared.Reading.TheVariants.{By2017}
use Rattle.clauses.specs.RunAnswer.{Ended, run_answer}
use Rattle.answer_line.specs.AnswerLine.{line_bytes, count_in, slice_in, room}

-- "runs the file's start from token 0, interval 0 without end, flag clear": node and mode.
abbrev pub start_at : ℕ → ℕ → Start
start_at node mode = record { node = node; place = 0; interval = to 0 Endless; flag = false; mode = mode }

-- The file's start.
abbrev pub file_start : List ℕ → Start
file_start file = start_at (start_node (fields_of file)) (start_mode (fields_of file))

-- "the lowest number that any of the four parts gives": first 1 to 5, by the file reader, which is lent what the largest
-- table needs; then 7, by the check; then 8 to 10, by the scanner, which is lent so many words; and then what follows.
unfoldable pub after_parts : {A : Type 0} → List ℕ → List ℕ → ℕ → Answer A → Answer A
after_parts file report lent next =
    and_then (read_answer file (most_nodes * 4) most_rules)
    (and_then (check_answer (node_table (fields_of file)) (rule_list (fields_of file)))
    (and_then (scan_answer file report lent) next))

-- What they answer by themselves.
abbrev pub parts_answer : List ℕ → List ℕ → ℕ → Answer Unit
parts_answer file report lent = after_parts file report lent (given tt)

-- Then the run. The scanner is lent what the most tokens need.
unfoldable pub line_answer : List ℕ → List ℕ → Answer Ended
line_answer file report =
    after_parts file report (most_tokens * 4)
    (run_answer By2017 (node_table (fields_of file)) (rule_list (fields_of file)) (words_of (scan_tokens file report)) (file_start file))

-- The line in a lent slice: how many bytes are written, all of it or none where it has fewer than 64, and the slice afterwards.
unfoldable pub line_count : List ℕ → List ℕ → ℕ → ℕ
line_count file report lent = count_in room (line_bytes (line_answer file report)) lent

unfoldable pub line_after : List ℕ → List ℕ → List ℕ → List ℕ
line_after file report before = slice_in room (line_bytes (line_answer file report)) before
