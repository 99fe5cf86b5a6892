-- How high the ends of an interval are, and by how much they rise. No public promise rests on this file.
use Rattle.std.specs.Prelude.{ℕ, zero, suc, max}
use Rattle.columns.specs.declared.Upper.{Upper}
use Rattle.columns.specs.declared.Upper.TheVariants.{At, Endless}
use Rattle.columns.specs.declared.Interval.{Interval}

-- A finite upper end; without end counts as 0.
abbrev pub finite : Upper → ℕ
finite (At h) = h
finite Endless = 0

-- The higher of the lower end and a finite upper end.
abbrev pub highest : Interval → ℕ
highest c = max c.lower (finite c.upper)

-- The most that an end rises on the way in.
abbrev pub rise : ℕ → ℕ
rise zero = 0  -- 0 equal
rise (suc zero) = 1  -- 1 greater
rise (suc (suc zero)) = 0  -- 2 at least
rise (suc (suc (suc zero))) = 0  -- 3 any
rise (suc (suc (suc (suc d)))) = suc d  -- 4 to 34
