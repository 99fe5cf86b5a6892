-- Words of things in a list: of a table's nodes, of a report's tokens. And lists by number.
use Rattle.std.specs.Prelude.{ℕ, zero, suc, List, [], ◌∷◌, ◌++◌}

-- The words of each thing, one behind the other.
unfoldable pub each_words : {A : Type 0} → (A → List ℕ) → List A → List ℕ
each_words words [] = []
each_words words (x ∷ xs) = words x ++ each_words words xs

-- What a function gives of each number below k, in their order.
unfoldable pub tabulate : {A : Type 0} → ℕ → (ℕ → A) → List A
tabulate zero f = []
tabulate (suc k) f = tabulate k f ++ (f k ∷ [])
