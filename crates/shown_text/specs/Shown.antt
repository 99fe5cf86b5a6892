-- The text shown for a capture, and the numbers before it (02, Note 2).
use Rattle.std.specs.Prelude.{ℕ, ◌+◌, ◌-◌, cond, Result, List, [], ◌∷◌, length, get_or, take, drop}
use Rattle.table.specs.Answer.{Answer, given, refused, refused_at, refuse_if, and_then}
use Rattle.table.specs.Refusals.{answer_by}
use Rattle.table.specs.declared.refusals.Refusal.{Refusal}
use Rattle.file_fields.specs.Fields.{Field, tagged}
use Rattle.grammar_file.specs.File.{fields_of, rule_list, rule_names, name_bytes}
use Rattle.report_checks.specs.FirstChecks.{first_answer}
use Rattle.columns.specs.declared.Capture.{Capture}
use Rattle.clauses.specs.Limits.{fails11}
pub use Rattle.capture_checks.specs.Fourteen.{token_offset, token_end, reads_tokens, last_token}
unfoldable pub use Rattle.capture_checks.specs.Fourteen.{offsets_fall, fails14}
use Rattle.shown_text.specs.declared.ShownPart.{ShownPart}
use Rattle.shown_text.specs.declared.ShownPart.TheVariants.{InReport, InFile}

-- Where a shown text lies: so many bytes from an offset on, in the report or in the grammar file.
pub data Part : Type 0 where
  in_report : (offset length : ℕ) → Part
  in_file : (offset length : ℕ) → Part

-- How many bytes fields take in a file: each has a tag, a two-byte length and its value.
unfoldable pub widths : List Field → ℕ
widths [] = 0
widths (f ∷ fs) = 3 + length f.value + widths fs

-- The offset of rule r's name in a file: behind the fields of tags 1 and 2, those of the rules before it, and its own tag,
-- length and node number.
unfoldable pub name_offset : List Field → ℕ → ℕ
name_offset fs r = widths (tagged 1 fs) + widths (tagged 2 fs) + widths (take r (tagged 3 fs)) + 5

-- Where the text lies: "from its first token's first byte to its last token's end in the report, or is the rule's name in
-- the grammar file if it read no token".
unfoldable pub part_shown : List Field → List ℕ → Capture → Part
part_shown fs words c =
    cond (reads_tokens c)
    (in_report (token_offset words c.first) (token_end words (last_token c) - token_offset words c.first))
    (in_file (name_offset fs c.rule) (length (get_or (rule_names fs) c.rule [])))

-- What is answered for a shown text: the first of 1 to 5, 8, 11 and 14 that fails, or where the text lies.
unfoldable pub shown_answer : List ℕ → List ℕ → List ℕ → Capture → Answer Part
shown_answer file report words c =
    and_then (first_answer file report)
    (refuse_if (fails11 words) 11
    (refuse_if (fails14 (length (rule_list (fields_of file))) (length report) words c) 14
    (given (part_shown (fields_of file) words c))))

-- Where a part lies, by the code's cases.
abbrev pub lies_at : ShownPart → Part
lies_at (InReport o n) = in_report o n
lies_at (InFile o n) = in_file o n

-- The answer of a call for a shown text.
abbrev pub numbers : Result ShownPart Refusal → Answer Part
numbers = answer_by lies_at

-- "shows no bytes where that refuses"
abbrev pub unless_refused : Answer Part → List ℕ → List ℕ
unless_refused (given p) bytes = bytes
unless_refused (refused n) bytes = []
unless_refused (refused_at n node) bytes = []

-- The bytes of a shown text.
unfoldable pub shown_bytes : List ℕ → List ℕ → List ℕ → Capture → List ℕ
shown_bytes file report words c =
    unless_refused (shown_answer file report words c)
    (cond (reads_tokens c)
    (take (token_end words (last_token c) - token_offset words c.first) (drop (token_offset words c.first) report))
    (name_bytes file c.rule))
