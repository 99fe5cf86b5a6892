-- Bytes put into a slice from a place on. No public promise rests on this file.
use Rattle.std.specs.Prelude.{ℕ, zero, suc, ◌+◌, ◌≡◌, List, [], ◌∷◌, ◌++◌, length, drop}

-- A list whose elements from a place on are replaced by those of another.
unfoldable pub pasted : List ℕ → ℕ → List ℕ → List ℕ
pasted old zero new = new ++ drop (length new) old
pasted [] (suc at) new = []
pasted (x ∷ old) (suc at) new = x ∷ pasted old at new

-- Bytes were put at a place: where the next one goes, and the slice afterwards.
pub record Puts (before : List ℕ) (at : ℕ) (bytes : List ℕ) (next : ℕ) (after : List ℕ) : Type 0 where
  pub place : next ≡ at + length bytes
  pub slice : after ≡ pasted before at bytes
