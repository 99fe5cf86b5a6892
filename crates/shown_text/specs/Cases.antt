-- Shown texts, and calls that are refused, with the answers that 02, Note 2, gives. A case is a grammar file, a report, the
-- tokens' words and a capture; expected are the answer, by `shown_answer`, and the bytes, by `shown_bytes`. `CasesHold`,
-- in proofs, computes them all.
use Rattle.std.specs.Prelude.{ℕ, List, [], ◌∷◌, ◌++◌, length}
use Rattle.table.specs.Answer.{Answer, given, refused}
use Rattle.columns.specs.declared.Capture.{Capture}
use Rattle.capture_checks.specs.CaptureChecksCases.{token, capture}
use Rattle.shown_text.specs.Shown.{Part, in_report, in_file, shown_answer, shown_bytes}

-- What a call for a shown text answers, and the bytes that it shows.
pub record Told : Type 0 where
  pub answer : Answer Part
  pub bytes : List ℕ

-- A call, and what is expected of it.
pub data ShownCase : Type 0 where
  shows : (file report words : List ℕ) (c : Capture) (answer : Answer Part) (bytes : List ℕ) → ShownCase

abbrev pub expected : ShownCase → Told
expected (shows file report words c answer bytes) = record { answer = answer; bytes = bytes }

unfoldable pub told : ShownCase → Told
told (shows file report words c answer bytes) =
    record { answer = shown_answer file report words c; bytes = shown_bytes file report words c }

-- A field of fewer than 256 bytes.
abbrev pub field : (tag : ℕ) (value : List ℕ) → List ℕ
field tag value = tag ∷ 0 ∷ length value ∷ value

-- The keyword `a`, the rules `Lo`, whose name is at offset 13, and `Beg`, at 20, and one node, which is both: ε.
abbrev pub file : List ℕ
file =
    field 1 (1 ∷ [])
    ++ field 2 (97 ∷ [])
    ++ field 3 (0 ∷ 0 ∷ 76 ∷ 111 ∷ [])
    ++ field 3 (0 ∷ 0 ∷ 66 ∷ 101 ∷ 103 ∷ [])
    ++ field 4 (0 ∷ 0 ∷ 0 ∷ 0 ∷ 0 ∷ 0 ∷ [])
    ++ field 5 (0 ∷ 0 ∷ 0 ∷ [])

-- `ab cd`, and its two tokens.
abbrev pub report : List ℕ
report = 97 ∷ 98 ∷ 32 ∷ 99 ∷ 100 ∷ []

abbrev pub two : List ℕ
two = token 0 2 ++ token 3 2

-- "from its first token's first byte to its last token's end in the report"
unfoldable pub report_cases : List ShownCase
report_cases =
    shows file report two (capture 0 0 2 0) (given (in_report 0 5)) (97 ∷ 98 ∷ 32 ∷ 99 ∷ 100 ∷ [])
    ∷ shows file report two (capture 1 1 2 0) (given (in_report 3 2)) (99 ∷ 100 ∷ [])
    -- To the last token's end, though the first one's is farther.
    ∷ shows file report (token 0 5 ++ token 1 1) (capture 0 0 2 0) (given (in_report 0 2)) (97 ∷ 98 ∷ [])
    -- A token of no bytes: an empty text, and no name.
    ∷ shows file report (token 5 0) (capture 0 0 1 0) (given (in_report 5 0)) []
    ∷ []

-- "or is the rule's name in the grammar file if it read no token"
unfoldable pub name_cases : List ShownCase
name_cases =
    shows file report two (capture 0 2 2 0) (given (in_file 13 2)) (76 ∷ 111 ∷ [])
    ∷ shows file report two (capture 1 1 1 0) (given (in_file 20 3)) (66 ∷ 101 ∷ 103 ∷ [])
    ∷ shows file [] [] (capture 1 0 0 0) (given (in_file 20 3)) (66 ∷ 101 ∷ 103 ∷ [])
    ∷ []

-- "14, for shown text, after 1 to 5 for the file, 8 for the report and 11 for the tokens"; "shows no bytes where that
-- refuses". Each call but the first fails a later check too.
unfoldable pub refused_cases : List ShownCase
refused_cases =
    -- A text that ends one past the report.
    shows file report (token 0 6) (capture 0 0 1 0) (refused 14) []
    -- The rule behind the last, and words that are no whole tokens.
    ∷ shows file report (0 ∷ []) (capture 2 0 0 0) (refused 11) []
    -- Those words, and a refused byte.
    ∷ shows file (1 ∷ []) (0 ∷ []) (capture 0 0 0 0) (refused 8) []
    -- That byte, and an empty file.
    ∷ shows [] (1 ∷ []) [] (capture 0 0 0 0) (refused 1) []
    ∷ []
