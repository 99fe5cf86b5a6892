-- What the walk's leaf functions show, over plain values.
use Prim.Native.Nat.{ℕ, ◌+◌, ◌*◌, ◌/◌, ◌%◌, ◌≤◌, ◌<◌, max}
use mathlib.Core.Path.{◌≡◌, refl}
use mathlib.Core.List.{List}
use lib.ListN.{length, get_or}
use native.Mathlib.Omega.{arith}
use borrow.Author.Tests.{le-ltb, lt-ltb, eq-eqb, ne_eqb}
use Rattle.columns.specs.declared.State.{State}
use Rattle.columns.specs.declared.Outcome.TheVariants.{Failure}
use Rattle.walk.specs.InternalWalk.{token_outcome, column_outcome}

-- One token, tried as far as a place: none there, another terminal, that terminal at a column.
module _ (words : List ℕ) (τ a : ℕ) (s : State) (whole : length words % 4 ≡ 0) {m : ℕ} (far : m ≡ max s.farthest s.place) where
  pub token_none : length words ≤ s.place * 4 → Failure m ≡ token_outcome words τ a s
  unfolding token_outcome
  token_none h = rw (far, le-ltb s.place (length words / 4) (omega arith)) refl

  module _ (there : s.place * 4 < length words) where
    pub token_other : (get_or words (s.place * 4) 0 ≡ a → ⊥) → Failure m ≡ token_outcome words τ a s
    unfolding token_outcome
    token_other h = rw (far, lt-ltb s.place (length words / 4) (omega arith), ne_eqb (get_or words (s.place * 4) 0) a h) refl

    pub token_there : get_or words (s.place * 4) 0 ≡ a → column_outcome τ s m (get_or words (s.place * 4 + 1) 0) ≡ token_outcome words τ a s
    unfolding token_outcome
    token_there h = rw (far, lt-ltb s.place (length words / 4) (omega arith), eq-eqb (get_or words (s.place * 4) 0) a h) refl
