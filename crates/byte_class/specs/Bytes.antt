-- The class of a byte (01, "The scanner"; 02, Note 3).
use Rattle.std.specs.Prelude.{ℕ, Bool, cond, ◌&&◌, ◌||◌, leb, ltb, eqb}
use Rattle.byte_class.specs.declared.Class.{Class}
use Rattle.byte_class.specs.declared.Class.TheVariants.{Break, Tab, Blank, Single, Digit, Run, Continuation, Refused}

-- The nine single bytes: `: , ( ) [ ] = ; %`
unfoldable pub is_single : ℕ → Bool
is_single b = eqb b 58 || eqb b 44 || eqb b 40 || eqb b 41 || eqb b 91 || eqb b 93 || eqb b 61 || eqb b 59 || eqb b 37

-- The continuation bytes: "a byte from 128 to 191" (Note 3).
unfoldable pub is_continuation : ℕ → Bool
is_continuation b = leb 128 b && leb b 191

-- "Byte 10 ends a line", "Byte 9 moves to the next higher multiple of 8", "Bytes 13 and 32 are blanks", "Other bytes
-- below 32, and 127, are refused", the nine bytes "are tokens by themselves", digits are `0` to `9`, and "other tokens
-- are longest runs of the remaining bytes", the continuation bytes with them.
unfoldable pub class_of : ℕ → Class
class_of b =
    cond (eqb b 10) Break
    (cond (eqb b 9) Tab
    (cond (eqb b 13 || eqb b 32) Blank
    (cond (ltb b 32 || eqb b 127) Refused
    (cond (is_single b) Single
    (cond (leb 48 b && leb b 57) Digit
    (cond (is_continuation b) Continuation
    Run))))))
