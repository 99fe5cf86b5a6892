-- What a scan was by 01 alone, before Note 3 of 02: classes, columns, runs, places, tokens, steps, 8 and the answer; and the texts
-- for which it is the same, none of whose bytes is over 127. Shared are what a class means (`run_class`, `place_by` and their
-- like) and the terminal of a spelling. `AsciiLaws` has the theorems.
use Prim.Native.Nat.{ℕ, zero, suc, ◌+◌, ◌*◌, ◌/◌, ◌≤◌, ◌<◌}
use mathlib.Core.Bool.{Bool, true, false, cond, not, ◌&&◌, ◌||◌}
use mathlib.Core.List.{List, [], ◌∷◌, ◌++◌, map}
use Rattle.std.proofs.Common.{None}
use lib.Dec.{leb, ltb, eqb}
use lib.ListN.{length, get_or, take, drop}
use Rattle.table.specs.Every.{every}
use Rattle.table.specs.Limits.{most_tokens}
use Rattle.table.specs.Answer.{Answer, given, refuse_if, and_then}
use Rattle.byte_class.specs.Bytes.{is_single}
use Rattle.byte_class.specs.declared.Class.{Class}
use Rattle.byte_class.specs.declared.Class.TheVariants.{Break, Tab, Blank, Single, Digit, Run, Refused}
use Rattle.grammar_file.specs.File.{file_answer}
use Rattle.report_checks.specs.Report.{most_bytes, refused_class}
use Rattle.places.specs.Places.{run_class}
use Rattle.places.specs.declared.Place.{Place}
use Rattle.places.specs.Moves.{position, move, move_by}
use Rattle.places.specs.declared.Position.{Position}
use Rattle.places.specs.declared.Move.{Move}
use Rattle.scanner.specs.Tokens.{token_of}
use Rattle.scanner.specs.declared.Token.{Token}
use Rattle.token_words.specs.Places.{mark_by, line_end, place_by}
use Rattle.token_words.specs.Scan.{over_column}

-- The classes of 01.
unfoldable pub old_class_of : ℕ → Class
old_class_of b =
    cond (eqb b 10) Break
    (cond (eqb b 9) Tab
    (cond (eqb b 13 || eqb b 32) Blank
    (cond (ltb b 32 || eqb b 127) Refused
    (cond (is_single b) Single
    (cond (leb 48 b && leb b 57) Digit
    Run)))))

-- The old rule: "Byte 10 ends a line and sets the column to 0. Byte 9 moves to the next higher multiple of 8. .. Each byte but
-- 9 and 10 advances the column by one."
unfoldable pub old_column_after : ℕ → ℕ → ℕ
old_column_after byte c = cond (eqb byte 10) 0 (cond (eqb byte 9) ((c / 8 + 1) * 8) (c + 1))

-- The column at an offset, and behind some bytes from a column on.
unfoldable pub old_column_at : List ℕ → ℕ → ℕ
old_column_at text zero = 0
old_column_at text (suc i) = old_column_after (get_or text i 0) (old_column_at text i)

unfoldable pub old_column_over : List ℕ → ℕ → ℕ
old_column_over [] c = c
old_column_over (b ∷ bytes) c = old_column_over bytes (old_column_after b c)

-- Runs, and lines that have had a token.
unfoldable pub old_in_run : ℕ → Bool
old_in_run byte = run_class (old_class_of byte)

unfoldable pub old_run_length : List ℕ → ℕ
old_run_length [] = 0
old_run_length (b ∷ bytes) = cond (old_in_run b) (suc (old_run_length bytes)) 0

unfoldable pub old_mid_run : List ℕ → ℕ → Bool
old_mid_run text zero = false
old_mid_run text (suc i) = old_in_run (get_or text i 0)

unfoldable pub old_had_token : List ℕ → ℕ → Bool
old_had_token text zero = false
old_had_token text (suc i) = mark_by (old_class_of (get_or text i 0)) (old_had_token text i)

-- The places of a text.
unfoldable pub old_place_at : List ℕ → ℕ → List Place
old_place_at text i =
    place_by (old_class_of (get_or text i 0)) (old_had_token text i) (old_mid_run text i) (old_column_at text i) i (old_run_length (drop i text))

unfoldable pub old_places_at : List ℕ → ℕ → ℕ → List Place
old_places_at text i zero = []
old_places_at text i (suc n) = old_place_at text i ++ old_places_at text (suc i) n

unfoldable pub old_places : List ℕ → List Place
old_places text =
    old_places_at text 0 (length text) ++ line_end (old_had_token text (length text)) (old_column_at text (length text)) (length text)

-- The tokens there, 8, and what a scan answers.
unfoldable pub old_tokens : List (List ℕ) → List ℕ → List Token
old_tokens keywords text = map (token_of keywords text) (old_places text)

unfoldable pub old_fails8 : List ℕ → Bool
old_fails8 text = ltb most_bytes (length text) || not (every (length text) (λ i. not (refused_class (old_class_of (get_or text i 0)))))

unfoldable pub old_scan_answer : List ℕ → List ℕ → ℕ → Answer ℕ
old_scan_answer file text lent =
    and_then (file_answer file)
    (refuse_if (old_fails8 text) 8
    (refuse_if (over_column (old_places text)) 9
    (refuse_if (ltb most_tokens (length (old_places text)) || ltb lent (length (old_places text) * 4)) 10
    (given (length (old_places text))))))

-- The next place in the bytes from an offset on, and from a position in a text.
unfoldable pub old_next_place : List ℕ → ℕ → ℕ → Bool → Move
old_next_place [] o c true = move true c o 0 (position o c false)
old_next_place [] o c false = record { found = None; reached = position o c false }
old_next_place (b ∷ bytes) o c m =
    move_by (old_class_of b) m o c (old_column_after b c) (old_run_length (b ∷ bytes))
    (old_column_over (take (old_run_length (b ∷ bytes)) (b ∷ bytes)) c) (old_next_place bytes (o + 1) (old_column_after b c) m)

abbrev pub old_next_in : List ℕ → Position → Move
old_next_in text p = old_next_place (drop p.offset text) p.offset p.column p.mark

-- A text none of whose bytes is over 127.
abbrev pub Ascii : List ℕ → Type 0
Ascii text = (i : ℕ) → i < length text → get_or text i 0 ≤ 127
