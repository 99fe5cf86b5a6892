-- Bytes put one by one into a list from an index on.
use Rattle.std.proofs.Common.{ℕ, ◌+◌, ◌<◌, ◌≡◌, List, length, get_or, set, add-one}
use lib.Seq.{paste, paste-suc}

-- One byte more.
pub put_next : (bytes old : List ℕ) (at i : ℕ) {out : List ℕ} → out ≡ paste old at bytes i → i < length bytes → at + i < length old
    → set out (at + i) (get_or bytes i 0) ≡ paste old at bytes (i + 1)
put_next bytes old at i e h g = rw (e, add-one) (paste-suc old at bytes i 0 g h)
