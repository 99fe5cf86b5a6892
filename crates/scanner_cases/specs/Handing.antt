-- What was handed out, beside the words of a scan.
use Rattle.std.specs.Prelude.{ℕ, ◌+◌, ◌*◌, ◌≡◌, Bool, true, false, ◌&&◌, Option, Some, None, Result, Ok, Err, List, ltb, eqb, length, get_or}
use Rattle.table.specs.declared.refusals.Refusal.{Refusal}
use Rattle.scanner.specs.declared.Token.{Token}
use Rattle.scanner.specs.declared.Step.{Step}
use Rattle.scanner.specs.Steps.{Position, position, step_answer, standing, numbers}

-- Whether a token was handed out.
abbrev pub is_token : Result (Option Token) Refusal → Bool
is_token (Ok (Some t)) = true
is_token (Ok None) = false
is_token (Err r) = false

-- Whether there is a word at an index, and it is this one.
abbrev pub is_word : List ℕ → ℕ → ℕ → Bool
is_word words at word = ltb at (length words) && eqb (get_or words at 0) word

-- Whether the words from an index on are these four.
abbrev pub are_words : List ℕ → ℕ → ℕ → ℕ → ℕ → ℕ → Bool
are_words words at a b c d =
    is_word words at a && (is_word words (at + 1) b && (is_word words (at + 2) c && is_word words (at + 3) d))

-- Whether words 4 i to 4 i + 3 are those of the token.
abbrev pub holds_at : List ℕ → ℕ → Result (Option Token) Refusal → Bool
holds_at words i (Ok (Some t)) = are_words words (i * 4) t.terminal t.column t.offset t.length
holds_at words i (Ok None) = false
holds_at words i (Err r) = false

-- A step is the one from a position on.
pub record StepFrom (file report : List ℕ) (p : Position) (s : Step) : Type 0 where
  pub handed : numbers s.handed ≡ step_answer file report p
  pub stands : s.reached ≡ standing (numbers s.handed) report p

-- So many tokens were handed out one by one from the report's start on, they are or are not those of the words, and a last
-- step was taken.
pub data Walked (file report words : List ℕ) : ℕ → Bool → Step → Type 0 where
  first : {s : Step} → StepFrom file report (position 0 0 false) s → Walked file report words 0 true s
  next : {n : ℕ} {same : Bool} {s s' : Step} → Walked file report words n same s → is_token s.handed ≡ true
      → StepFrom file report s.reached s' → Walked file report words (n + 1) (same && holds_at words n s.handed) s'
