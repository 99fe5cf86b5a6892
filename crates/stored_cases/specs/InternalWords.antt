-- The law of words in a file of cases: the number at an index is the first of the bytes from there on.
use Rattle.std.proofs.Common.{ℕ, ◌≡◌, List, drop, add-zero, zero-add, add_assoc}
use Rattle.std.proofs.Math.Seq.{get_or-drop}
use Rattle.stored_cases.specs.Numbers.{pair_at, triple_at, quad_at}

pub pair_from_rest : (bytes : List ℕ) (i : ℕ) → pair_at (drop i bytes) 0 ≡ pair_at bytes i
unfolding pair_at
pair_from_rest bytes i = simp (get_or-drop, add-zero)

pub quad_from_rest : (bytes : List ℕ) (i : ℕ) → quad_at (drop i bytes) 0 ≡ quad_at bytes i
unfolding quad_at triple_at pair_at
quad_from_rest bytes i = simp (get_or-drop, add-zero) (simp (zero-add, add_assoc))
