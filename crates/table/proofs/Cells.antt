-- Cells that are set one by one.
use Prim.Native.Nat.{ℕ, zero, suc}
use mathlib.Core.Path.{◌≡◌, refl}
use mathlib.Core.Bool.{Bool, true, false}
use mathlib.Core.List.{List, [], ◌∷◌}
use lib.ListN.{get_or, set}

-- A cell that is set stays set where another is set.
pub set_stays : (cells : List Bool) (n m : ℕ) → get_or cells m false ≡ true → get_or (set cells n true) m false ≡ true
set_stays [] n m e = e
set_stays (x ∷ xs) zero zero e = refl
set_stays (x ∷ xs) zero (suc m) e = e
set_stays (x ∷ xs) (suc n) zero e = e
set_stays (x ∷ xs) (suc n) (suc m) e = set_stays xs n m e
