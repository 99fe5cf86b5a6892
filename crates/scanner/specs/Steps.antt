-- Tokens one by one (01, "The scanner": "One value carries the report text ..").
use Rattle.std.specs.Prelude.{ℕ, zero, suc, Bool, false, ◌||◌, Option, Some, None, option_map, Result, List, [], ◌∷◌, length, ltb}
use Rattle.table.specs.Limits.{most_column}
use Rattle.table.specs.Answer.{Answer, given, refused, refused_at, refuse_if, and_then}
use Rattle.grammar_file.specs.File.{keywords, fields_of, file_answer}
use Rattle.report_checks.specs.Report.{fails8}
use Rattle.places.specs.declared.Place.{Place}
pub use Rattle.places.specs.Moves.{position, next_in}
pub use Rattle.places.specs.declared.Position.{Position}
pub use Rattle.places.specs.declared.Move.{Move}
use Rattle.scanner.specs.Tokens.{token_of}
use Rattle.scanner.specs.declared.Token.{Token}
use Rattle.table.specs.Refusals.{answer_by}
use Rattle.table.specs.declared.refusals.Refusal.{Refusal}

-- The last column that a step begins at: 65,535 tabs of 8 columns.
abbrev pub last_step_column : ℕ
last_step_column = 524280

-- 8, for a step: the whole text, and "an offset past the text or a column over 524,280 ..".
unfoldable pub step_fails8 : List ℕ → Position → Bool
step_fails8 text p = fails8 text || ltb (length text) p.offset || ltb last_step_column p.column

-- 9, for a step: "the token handed out".
unfoldable pub step_fails9 : Option Place → Bool
step_fails9 None = false
step_fails9 (Some p) = ltb most_column p.column

-- What a step answers: the first of 1 to 5, 8 and 9 that fails, or the next token or none.
unfoldable pub step_answer : List ℕ → List ℕ → Position → Answer (Option Token)
step_answer file text p =
    and_then (file_answer file)
    (refuse_if (step_fails8 text p) 8
    (refuse_if (step_fails9 (next_in text p).found) 9
    (given (option_map (token_of (keywords (fields_of file)) text) (next_in text p).found))))

-- Where the value stands afterwards: "a refused call leaves the value unchanged".
abbrev pub standing : Answer (Option Token) → List ℕ → Position → Position
standing (given t) text p = (next_in text p).reached
standing (refused n) text p = p
standing (refused_at n node) text p = p

-- 01's number, or the token or none, for what a step hands out.
abbrev pub numbers : Result (Option Token) Refusal → Answer (Option Token)
numbers = answer_by (λ t. t)

-- A token in front of the later ones; none where a step hands none out.
abbrev pub hand_on : Answer (Option Token) → List Token → List Token
hand_on (given (Some t)) later = t ∷ later
hand_on (given None) later = []
hand_on (refused n) later = []
hand_on (refused_at n node) later = []

-- The tokens that are handed out one by one from a position on, at most n of them.
unfoldable pub handed_out : ℕ → List ℕ → List ℕ → Position → List Token
handed_out zero file text p = []
handed_out (suc n) file text p = hand_on (step_answer file text p) (handed_out n file text (standing (step_answer file text p) text p))
