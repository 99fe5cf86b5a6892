-- The table of cases by both readings holds, by computation.
use mathlib.Core.Path.{◌≡◌, refl}
use mathlib.Core.List.{List, map, ◌++◌}
use Rattle.table.specs.Words.{each_words}
use Rattle.table.specs.Every.{every}
use Rattle.table.specs.Form.{form}
use Rattle.table.specs.Checks.{table_answer, fails3, fails4, fails5, right_words}
use Rattle.well_formed.specs.Rounds.{gives, known_after, passes, well_after}
use Rattle.well_formed.specs.Check.{may_nothing, is_well, verdict_from, check_answer}
use Rattle.clauses.specs.Limits.{fails11, fails12, fails16}
use Rattle.clauses.specs.Evaluation.{evaluate, outcome_for, trace_for}
use Rattle.clauses.specs.RunAnswer.{run_answer}
use Rattle.clauses.specs.ListAnswer.{fails13, list_answer, list_after}
use Rattle.clauses.specs.ReadingCases.{ReadingCase, expected, answered, note_cases, paper_cases, flag_cases, indent_cases}
use Rattle.clauses.specs.ReadingCases.{law_cases, start_cases, back_cases, sixteen_cases, place_cases, captured_cases}

abbrev cases : List ReadingCase
cases =
    note_cases ++ paper_cases ++ flag_cases ++ indent_cases ++ law_cases ++ start_cases ++ back_cases ++ sixteen_cases ++ place_cases
    ++ captured_cases

pub reading_cases_hold : map answered cases ≡ map expected cases
unfolding answered note_cases paper_cases flag_cases indent_cases law_cases start_cases back_cases sixteen_cases place_cases
    captured_cases each_words form evaluate outcome_for trace_for run_answer fails11 fails12 fails16 fails13 list_answer list_after
    every fails3 fails4 fails5 right_words table_answer gives known_after passes well_after may_nothing is_well verdict_from
    check_answer
reading_cases_hold = refl
