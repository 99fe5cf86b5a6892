-- A number that tells the verdicts apart, since that of a refusal is below 256.
use Rattle.std.specs.Prelude.{ℕ, ◌+◌, List}
use Rattle.table.specs.Answer.{Answer, given, refused, refused_at}
use Rattle.well_formed.specs.Check.{check_answer}
use Rattle.stored_cases.specs.Numbers.{pairs}

abbrev pub number_of : Answer Unit → ℕ
number_of (given x) = 0
number_of (refused n) = 1 + n
number_of (refused_at n node) = 1000 + node

-- That of a stored table, of at most 2,100 node words and 200 rule words.
abbrev pub stored_number : List ℕ → List ℕ → ℕ
stored_number nodes rules = number_of (check_answer (pairs 2100 nodes) (pairs 200 rules))
