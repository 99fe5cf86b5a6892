-- Letters in UTF-8: the bytes of a code point, and code points that are no tab and no break. `LetterColumns` has the theorems.
use Prim.Native.Nat.{ℕ, ◌+◌, ◌/◌, ◌%◌, ◌<◌}
use mathlib.Core.Path.{◌≡◌, refl}
use mathlib.Core.Bool.{cond}
use mathlib.Core.List.{List, [], ◌∷◌, ◌++◌}
use lib.Dec.{ltb}

-- The bytes of a code point.
unfoldable pub utf8 : ℕ → List ℕ
utf8 x =
    cond (ltb x 128) (x ∷ [])
    (cond (ltb x 2048) ((192 + x / 64) ∷ (128 + x % 64) ∷ [])
    (cond (ltb x 65536) ((224 + x / 4096) ∷ (128 + x / 64 % 64) ∷ (128 + x % 64) ∷ [])
    ((240 + x / 262144) ∷ (128 + x / 4096 % 64) ∷ (128 + x / 64 % 64) ∷ (128 + x % 64) ∷ [])))

-- Those of `µ`, of a dash and of a sign of four bytes.
pub known_letters :
    (utf8 181 ≡ 194 ∷ 181 ∷ []) × (utf8 8211 ≡ 226 ∷ 128 ∷ 147 ∷ []) × (utf8 128512 ≡ 240 ∷ 159 ∷ 152 ∷ 128 ∷ [])
unfolding utf8
known_letters = (refl, refl, refl)

-- The bytes of some code points.
unfoldable pub bytes_of : List ℕ → List ℕ
bytes_of [] = []
bytes_of (x ∷ xs) = utf8 x ++ bytes_of xs

-- A letter: a code point that is not a tab or a break.
abbrev pub Letter : ℕ → Type 0
Letter x = (x < 1114112) × (x ≡ 9 → ⊥) × (x ≡ 10 → ⊥)

-- Letters, each not a tab or a break.
pub data Letters : List ℕ → Type 0 where
  none : Letters []
  more : {x : ℕ} {xs : List ℕ} → Letter x → Letters xs → Letters (x ∷ xs)
