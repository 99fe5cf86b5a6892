-- Columns of a report (01, "The scanner"; 02, Note 3). A report is the list of its bytes.
use Rattle.std.specs.Prelude.{ℕ, zero, suc, ◌+◌, ◌*◌, ◌/◌, List, [], ◌∷◌, get_or}
use Rattle.byte_class.specs.Bytes.{class_of}
use Rattle.byte_class.specs.declared.Class.{Class}
use Rattle.byte_class.specs.declared.Class.TheVariants.{Break, Tab, Blank, Single, Digit, Run, Continuation, Refused}

-- The column behind a byte of a class: "Byte 10 ..", 0; "Byte 9 ..", the next higher multiple of 8; "Each byte but 9 and
-- 10", one more; but "a byte from 128 to 191 no longer advances the column", wherever it stands.
abbrev pub column_by : Class → ℕ → ℕ
column_by Break c = 0
column_by Tab c = (c / 8 + 1) * 8
column_by Blank c = c + 1
column_by Single c = c + 1
column_by Digit c = c + 1
column_by Run c = c + 1
column_by Continuation c = c
column_by Refused c = c + 1

-- The column behind a byte.
unfoldable pub column_after : ℕ → ℕ → ℕ
column_after byte c = column_by (class_of byte) c

-- The column at an offset: "Columns and offsets start at 0."
unfoldable pub column_at : List ℕ → ℕ → ℕ
column_at text zero = 0
column_at text (suc i) = column_after (get_or text i 0) (column_at text i)

-- The column behind some bytes, from a column on.
unfoldable pub column_over : List ℕ → ℕ → ℕ
column_over [] c = c
column_over (b ∷ bytes) c = column_over bytes (column_after b c)
