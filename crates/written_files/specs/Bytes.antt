-- Lists of bytes.
use Rattle.std.specs.Prelude.{ℕ, Bool, List, length, get_or, ltb}
use Rattle.table.specs.Every.{every}

-- Each is a byte, below 256.
unfoldable pub are_bytes : List ℕ → Bool
are_bytes file = every (length file) (λ i. ltb (get_or file i 0) 256)
