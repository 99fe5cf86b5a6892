-- Numbers in bytes, high byte first, at an index. A byte that is not there counts as 0.
use Rattle.std.specs.Prelude.{ℕ, ◌+◌, ◌*◌, ◌/◌, min, List, length, get_or}
use Rattle.table.specs.Words.{tabulate}

-- The number of two bytes.
unfoldable pub pair_at : List ℕ → ℕ → ℕ
pair_at bytes i = get_or bytes i 0 * 256 + get_or bytes (i + 1) 0

-- The number of three bytes.
unfoldable pub triple_at : List ℕ → ℕ → ℕ
triple_at bytes i = get_or bytes i 0 * 65536 + pair_at bytes (i + 1)

-- The number of four bytes.
unfoldable pub quad_at : List ℕ → ℕ → ℕ
quad_at bytes i = get_or bytes i 0 * 16777216 + triple_at bytes (i + 1)

-- The first n words of two bytes, and of four.
abbrev pub first_pairs : ℕ → List ℕ → List ℕ
first_pairs n bytes = tabulate n (λ i. pair_at bytes (i * 2))

abbrev pub first_quads : ℕ → List ℕ → List ℕ
first_quads n bytes = tabulate n (λ i. quad_at bytes (i * 4))

-- The words of two bytes, no more of them than n; and those of four.
abbrev pub pairs : ℕ → List ℕ → List ℕ
pairs n bytes = first_pairs (min (length bytes / 2) n) bytes

abbrev pub quads : ℕ → List ℕ → List ℕ
quads n bytes = first_quads (min (length bytes / 4) n) bytes
