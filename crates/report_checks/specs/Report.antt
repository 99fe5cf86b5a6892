-- Number 8 of a report (01, "The scanner" and "Turned-down calls").
use Rattle.std.specs.Prelude.{ℕ, Bool, true, false, not, ◌||◌, List, length, get_or, ltb}
use Rattle.table.specs.Every.{every}
use Rattle.byte_class.specs.Bytes.{class_of}
use Rattle.byte_class.specs.declared.Class.{Class}
use Rattle.byte_class.specs.declared.Class.TheVariants.{Break, Tab, Blank, Single, Digit, Run, Continuation, Refused}

-- "a report of at most 65,535 bytes"
abbrev pub most_bytes : ℕ
most_bytes = 65535

-- "Other bytes below 32 ..": the class of those that are refused.
abbrev pub refused_class : Class → Bool
refused_class Break = false
refused_class Tab = false
refused_class Blank = false
refused_class Single = false
refused_class Digit = false
refused_class Run = false
refused_class Continuation = false
refused_class Refused = true

-- 8: "report over length or refused byte"
unfoldable pub fails8 : List ℕ → Bool
fails8 text = ltb most_bytes (length text) || not (every (length text) (λ i. not (refused_class (class_of (get_or text i 0)))))
