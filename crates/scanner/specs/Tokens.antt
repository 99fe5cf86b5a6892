-- A token: "terminal, column, offset, length", by its place (01, "The scanner").
use Rattle.std.specs.Prelude.{ℕ, suc, ◌+◌, Bool, cond, List, [], ◌∷◌, take, drop}
use Rattle.spellings.specs.Spellings.{same_bytes}
use Rattle.number_spelling.specs.Number.{is_number}
use Rattle.places.specs.declared.Place.{Place}
use Rattle.scanner.specs.declared.Token.{Token}

-- "Terminal: 3 + k where the spelling equals keyword k ..", else 0 for a number, else 1: the keywords from k on.
unfoldable pub terminal_from : ℕ → List (List ℕ) → List ℕ → ℕ
terminal_from k [] s = cond (is_number s) 0 1
terminal_from k (w ∷ keywords) s = cond (same_bytes w s) (3 + k) (terminal_from (suc k) keywords s)

-- The terminal at a place: "a token of terminal 2" at a line's end, and elsewhere that of the bytes from an offset on.
unfoldable pub terminal_at : List (List ℕ) → List ℕ → Bool → ℕ → ℕ → ℕ
terminal_at keywords text ends o n = cond ends 2 (terminal_from 0 keywords (take n (drop o text)))

-- The token at a place.
abbrev pub token_of : List (List ℕ) → List ℕ → Place → Token
token_of keywords text p =
    record {
      terminal = terminal_at keywords text p.ends p.offset p.length;
      column = p.column;
      offset = p.offset;
      length = p.length;
    }
