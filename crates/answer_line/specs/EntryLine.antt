-- The line of an entry, as the program `entries` prints it behind its blanks: `NAME LINE:COLUMN TEXT`, or `NAME -` where the
-- capture read no token. A choice of ours, over what 02 shows for a capture.
use Rattle.std.specs.Prelude.{ℕ, ◌+◌, cond, List, [], ◌∷◌, ◌++◌, take, eqb, count_by}
use Rattle.std.specs.List.{before_first}
use Rattle.columns.specs.declared.Capture.{Capture}
use Rattle.clauses.specs.Limits.{tokens_of}
use Rattle.grammar_file.specs.File.{name_bytes}
use Rattle.shown_text.specs.Shown.{token_offset, reads_tokens, shown_answer, shown_bytes, unless_refused}
use Rattle.answer_line.specs.AnswerLine.{decimal, space, break, count_in, slice_in}

-- How many line breaks there are in some bytes.
abbrev pub breaks : List ℕ → ℕ
breaks bytes = count_by (λ b. eqb b 10) bytes

-- The bytes before the first line break.
abbrev pub first_line : List ℕ → List ℕ
first_line bytes = before_first (λ b. eqb b 10) bytes

-- The line and the column of the token at a place, both from 1: one more than the line breaks before it, and one more than its
-- column.
abbrev pub line_of : List ℕ → List ℕ → ℕ → ℕ
line_of report words w = 1 + breaks (take (token_offset words w) report)

abbrev pub column_of : List ℕ → ℕ → ℕ
column_of words w = (tokens_of words).column w + 1

-- `:`
abbrev pub colon : List ℕ
colon = 58 ∷ []

-- `-`
abbrev pub dash : List ℕ
dash = 45 ∷ []

-- The line of an entry that read tokens: name, line, column, text.
abbrev pub read_bytes : List ℕ → ℕ → ℕ → List ℕ → List ℕ
read_bytes name line column text =
    name ++ space ++ decimal line ++ colon ++ decimal column ++ space ++ text ++ break

-- The line of one that read none.
abbrev pub unread_bytes : List ℕ → List ℕ
unread_bytes name = name ++ space ++ dash ++ break

-- The line of a capture: its rule's name, where its first token stands, and its shown text up to the first line break; none
-- where the shown text is refused.
unfoldable pub entry_bytes : List ℕ → List ℕ → List ℕ → Capture → List ℕ
entry_bytes file report words c =
    unless_refused (shown_answer file report words c)
    (cond (reads_tokens c)
    (read_bytes (name_bytes file c.rule) (line_of report words c.first) (column_of words c.first)
    (first_line (shown_bytes file report words c)))
    (unread_bytes (name_bytes file c.rule)))

-- Room enough for every line, in bytes; a choice of ours.
abbrev pub entry_room : ℕ
entry_room = 65664

-- The line of a capture in a lent slice: how many bytes are written, and the slice afterwards.
unfoldable pub entry_count : List ℕ → List ℕ → List ℕ → Capture → ℕ → ℕ
entry_count file report words c lent = count_in entry_room (entry_bytes file report words c) lent

unfoldable pub entry_after : List ℕ → List ℕ → List ℕ → Capture → List ℕ → List ℕ
entry_after file report words c before = slice_in entry_room (entry_bytes file report words c) before
