-- One form alone: its children stand at 0 and at 1.
use Rattle.std.specs.Prelude.{ℕ, zero, suc, Bool}
use Rattle.form_facts.specs.Rules.{Fact, nothing, something, fails}
use Rattle.form_facts.specs.declared.Facts.{Facts}

-- The first of two for 0, the second for any other number.
abbrev pub two : Bool → Bool → ℕ → Bool
two a b zero = a
two a b (suc n) = b

-- Whether a fact is among those of a `Facts`.
abbrev pub fact_of : Facts → Fact → Bool
fact_of f nothing = f.nothing
fact_of f something = f.something
fact_of f fails = f.fails
