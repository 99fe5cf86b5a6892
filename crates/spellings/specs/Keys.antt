-- A number that spellings have in common if they are the same: a quick test that two differ. What `spellings::key`
-- promises; no promise of the file reader or the scanner rests on this file.
use Rattle.std.specs.Prelude.{ℕ, zero, suc, ◌+◌, ◌*◌, ◌^◌, ◌%◌, List, get_or}

-- The sum of f over the numbers below n.
unfoldable pub sum : ℕ → (ℕ → ℕ) → ℕ
sum zero f = 0
sum (suc n) f = sum n f + f n

-- What a byte counts, by its index.
unfoldable pub weight : ℕ → ℕ
weight i = 153 ^ i % 256

-- Below 4,096: of the first 32 bytes, all that a keyword or a name has, each by its weight; 0 past the end.
unfoldable pub key_of : List ℕ → ℕ
key_of s = sum 32 (λ i. get_or s i 0 * weight i) % 4096
