-- What the scanner's private functions promise one another. No public promise rests on this file.
use Rattle.std.specs.Prelude.{ℕ, ◌≡◌, Option, Result, Ok, Err, List}
use Rattle.table.specs.Answer.{given}
use Rattle.table.specs.Refusals.{turned_down}
use Rattle.table.specs.declared.refusals.Refusal.{Refusal}
use Rattle.scanner.specs.declared.Token.{Token}
use Rattle.scanner.specs.Steps.{Position, next_in, step_answer}

-- A step from a position on: the next token or none, and the position behind it, or why it is refused.
abbrev pub Stepped : List ℕ → List ℕ → Position → Result (Option Token × Position) Refusal → Type 0
Stepped file text from (Ok s) = (given s.0 ≡ step_answer file text from) × (s.1 ≡ (next_in text from).reached)
Stepped file text from (Err r) = turned_down r ≡ step_answer file text from
