-- The tokens of a report and their words, numbers 9 and 10, and what a whole scan answers (01, "The scanner" and
-- "Turned-down calls").
use Rattle.std.specs.Prelude.{ℕ, ◌*◌, Bool, false, ◌||◌, List, [], ◌∷◌, map, length, ltb}
use Rattle.table.specs.Words.{each_words}
use Rattle.table.specs.Limits.{most_tokens, most_column}
use Rattle.table.specs.Answer.{Answer, given, refuse_if, and_then}
use Rattle.grammar_file.specs.File.{keywords, fields_of, file_answer}
pub use Rattle.report_checks.specs.Report.{fails8}
use Rattle.places.specs.declared.Place.{Place}
use Rattle.scanner.specs.Tokens.{token_of}
use Rattle.scanner.specs.declared.Token.{Token}
use Rattle.token_words.specs.Places.{places}

-- The tokens of a text.
unfoldable pub tokens : List (List ℕ) → List ℕ → List Token
tokens keywords text = map (token_of keywords text) (places text)

-- "A token is four words".
abbrev pub token_words : Token → List ℕ
token_words t = t.terminal ∷ t.column ∷ t.offset ∷ t.length ∷ []

-- The words of some tokens.
abbrev pub words_of : List Token → List ℕ
words_of ts = each_words token_words ts

-- Whether one of some tokens stands past the last column.
unfoldable pub over_column : List Place → Bool
over_column [] = false
over_column (p ∷ ps) = ltb most_column p.column || over_column ps

-- 9: "a token's column over 65,535"
unfoldable pub fails9 : List ℕ → Bool
fails9 text = over_column (places text)

-- 10: "over 4,096 tokens, or too few words lent"
unfoldable pub fails10 : List ℕ → ℕ → Bool
fails10 text lent = ltb most_tokens (length (places text)) || ltb lent (length (places text) * 4)

-- The tokens of a report by a grammar file's keywords.
abbrev pub scan_tokens : List ℕ → List ℕ → List Token
scan_tokens file text = tokens (keywords (fields_of file)) text

-- What a scan answers: the first of 1 to 5, 8, 9 and 10 that fails, or how many tokens there are.
unfoldable pub scan_answer : List ℕ → List ℕ → ℕ → Answer ℕ
scan_answer file text lent =
    and_then (file_answer file)
    (refuse_if (fails8 text) 8
    (refuse_if (fails9 text) 9
    (refuse_if (fails10 text lent) 10
    (given (length (places text))))))
