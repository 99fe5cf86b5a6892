-- Spellings of numbers (01, "The scanner").
use Rattle.std.specs.Prelude.{ℕ, Bool, true, false, cond, ◌&&◌, List, [], ◌∷◌, eqb}
use Rattle.byte_class.specs.Bytes.{class_of}
use Rattle.byte_class.specs.declared.Class.{Class}
use Rattle.byte_class.specs.declared.Class.TheVariants.{Break, Tab, Blank, Single, Digit, Run, Continuation, Refused}

-- The class of digits.
abbrev pub digit_class : Class → Bool
digit_class Break = false
digit_class Tab = false
digit_class Blank = false
digit_class Single = false
digit_class Digit = true
digit_class Run = false
digit_class Continuation = false
digit_class Refused = false

-- Whether a byte is a digit.
unfoldable pub is_digit : ℕ → Bool
is_digit byte = digit_class (class_of byte)

-- What is left behind the digits at the front.
unfoldable pub after_digits : List ℕ → List ℕ
after_digits [] = []
after_digits (b ∷ bytes) = cond (is_digit b) (after_digits bytes) (b ∷ bytes)

-- Whether a group of digits at the front is not empty.
unfoldable pub digit_first : List ℕ → Bool
digit_first [] = false
digit_first (b ∷ bytes) = is_digit b

-- Whether no byte is left.
unfoldable pub is_empty : List ℕ → Bool
is_empty [] = true
is_empty (b ∷ bytes) = false

-- "optionally `.` and digits": `.` is 46.
unfoldable pub fraction : List ℕ → Bool
fraction [] = true
fraction (b ∷ bytes) = eqb b 46 && digit_first bytes && is_empty (after_digits bytes)

-- "an optional `-`": 45.
unfoldable pub unsigned : List ℕ → List ℕ
unsigned [] = []
unsigned (b ∷ bytes) = cond (eqb b 45) bytes (b ∷ bytes)

-- "a number (an optional `-`, digits, optionally `.` and digits, each group non-empty)"
unfoldable pub is_number : List ℕ → Bool
is_number s = digit_first (unsigned s) && fraction (after_digits (unsigned s))
