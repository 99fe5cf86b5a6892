-- A token's place in a report, its column, offset and length, and whether it is a line's end; and its runs (01, "The
-- scanner").
use Rattle.std.specs.Prelude.{ℕ, suc, Bool, true, false, cond, List, [], ◌∷◌}
use Rattle.byte_class.specs.Bytes.{class_of}
use Rattle.byte_class.specs.declared.Class.{Class}
use Rattle.byte_class.specs.declared.Class.TheVariants.{Break, Tab, Blank, Single, Digit, Run, Continuation, Refused}

-- "other tokens are longest runs of the remaining bytes": the classes of these bytes.
abbrev pub run_class : Class → Bool
run_class Break = false
run_class Tab = false
run_class Blank = false
run_class Single = false
run_class Digit = true
run_class Run = true
run_class Continuation = true
run_class Refused = false

-- Whether a byte belongs to a run.
unfoldable pub in_run : ℕ → Bool
in_run byte = run_class (class_of byte)

-- How long the longest run at the front is.
unfoldable pub run_length : List ℕ → ℕ
run_length [] = 0
run_length (b ∷ bytes) = cond (in_run b) (suc (run_length bytes)) 0
