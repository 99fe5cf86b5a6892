-- Whether every element of a list is a value.
use Rattle.std.specs.Prelude.{ℕ, Bool, List, eqb}
use Rattle.std.specs.List.{list_all}

-- By a test that two are equal.
abbrev pub filled_by : {A : Type 0} → (A → A → Bool) → A → List A → Bool
filled_by equal value xs = list_all (λ x. equal x value) xs

-- Of numbers.
abbrev pub filled : ℕ → List ℕ → Bool
filled = filled_by eqb
