-- The cases of the farthest place hold, by computation.
use mathlib.Core.Path.{◌≡◌, refl}
use mathlib.Core.List.{List, map, ◌++◌}
use Rattle.table.specs.Words.{each_words}
use Rattle.table.specs.Every.{every}
use Rattle.table.specs.Form.{form}
use Rattle.table.specs.Checks.{table_answer, fails3, fails4, fails5, right_words}
use Rattle.well_formed.specs.Rounds.{gives, known_after, passes, well_after}
use Rattle.well_formed.specs.Check.{may_nothing, is_well, verdict_from, check_answer}
use Rattle.clauses.specs.Limits.{fails11, fails12, fails16}
use Rattle.clauses.specs.Evaluation.{evaluate, outcome_for, trace_for}
use Rattle.clauses.specs.RunAnswer.{run_answer}
use Rattle.clauses.specs.Cases.{Case, expected, answered}
use Rattle.clauses.specs.FarthestCases.{none_tried, silent_parts, put_back, past_the_last, last_rounds, by_reading}

abbrev cases : List Case
cases = none_tried ++ silent_parts ++ put_back ++ past_the_last ++ last_rounds ++ by_reading

pub farthest_cases_hold : map answered cases ≡ map expected cases
unfolding answered none_tried silent_parts put_back past_the_last last_rounds by_reading each_words form evaluate outcome_for trace_for run_answer
    fails11 fails12 fails16 every fails3 fails4 fails5 right_words table_answer gives known_after passes well_after may_nothing
    is_well verdict_from check_answer
farthest_cases_hold = refl
