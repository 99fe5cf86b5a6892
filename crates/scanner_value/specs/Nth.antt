-- What a step of a value answers after others (01, "The scanner": "One value carries the report text .. and hands out tokens
-- one by one").
use Rattle.std.specs.Prelude.{ℕ, zero, suc, Option, List}
use Rattle.table.specs.Answer.{Answer}
use Rattle.scanner.specs.declared.Token.{Token}
use Rattle.scanner.specs.Steps.{Position, step_answer, standing}

-- Where a value stands after one step.
unfoldable pub stepped : List ℕ → List ℕ → Position → Position
stepped file text p = standing (step_answer file text p) text p

-- What step n from a position answers, counted from 0.
unfoldable pub nth_answer : List ℕ → List ℕ → ℕ → Position → Answer (Option Token)
nth_answer file text zero p = step_answer file text p
nth_answer file text (suc n) p = nth_answer file text n (stepped file text p)
