-- The rules of keywords and rule names (01, "The grammar file").
use Rattle.std.specs.Prelude.{ℕ, Bool, not, ◌&&◌, ◌||◌, List, [], length, get_or, leb, eqb}
use Rattle.table.specs.Every.{every}
use Rattle.byte_class.specs.Bytes.{is_single}

-- The bytes of a spelling: "none of them at or below 32 or equal to 127".
abbrev pub visible : ℕ → Bool
visible b = not (leb b 32 || eqb b 127)

-- "Keywords and names have 1 to 32 bytes", each of them visible.
unfoldable pub spelled : List ℕ → Bool
spelled s = leb 1 (length s) && leb (length s) 32 && every (length s) (λ i. visible (get_or s i 0))

-- "A keyword that holds one of the nine single bytes ..": none is a single byte, or the length is 1.
unfoldable pub single_alone : List ℕ → Bool
single_alone s = every (length s) (λ i. not (is_single (get_or s i 0))) || eqb (length s) 1

-- Whether two spellings are the same, byte for byte.
unfoldable pub same_bytes : List ℕ → List ℕ → Bool
same_bytes s t = eqb (length s) (length t) && every (length s) (λ i. eqb (get_or s i 0) (get_or t i 0))

-- "are distinct within their tag": of any two, one is not the other.
unfoldable pub distinct : List (List ℕ) → Bool
distinct names = every (length names) (λ j. every j (λ i. not (same_bytes (get_or names i []) (get_or names j []))))

-- Every one of a tag's spellings is right, and they are distinct.
unfoldable pub right_spellings : List (List ℕ) → Bool
right_spellings names = every (length names) (λ i. spelled (get_or names i [])) && distinct names
