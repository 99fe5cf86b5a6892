-- The captures that 14 takes and refuses, by computation.
use mathlib.Core.Path.{◌≡◌, refl}
use mathlib.Core.List.{List, map, ◌++◌}
use Rattle.table.specs.Every.{every}
use Rattle.capture_checks.specs.Fourteen.{offsets_fall, fails14}
use Rattle.capture_checks.specs.CaptureChecksCases.{FourteenCase, expected, answered, rule_cases, token_cases, order_cases, offset_cases, end_cases}

abbrev cases : List FourteenCase
cases = rule_cases ++ token_cases ++ order_cases ++ offset_cases ++ end_cases

pub capture_checks_cases_hold : map answered cases ≡ map expected cases
unfolding answered rule_cases token_cases order_cases offset_cases end_cases fails14 offsets_fall every
capture_checks_cases_hold = refl
