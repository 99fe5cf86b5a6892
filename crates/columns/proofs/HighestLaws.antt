-- How high the ends of an interval go on the way in, and that the way out takes them back.
use Prim.Native.Nat.{ℕ, zero, suc, ◌+◌, ◌-◌, ◌≤◌, ◌<◌, max}
use mathlib.Core.Path.{◌≡◌, refl}
use mathlib.Core.Bool.{Bool, true, false, cond}
use native.Mathlib.Omega.{arith}
use lib.Dec.{leb}
use Rattle.columns.specs.Relations.{any, amount}
use Rattle.columns.proofs.RelationLaws.{is_step}
use Rattle.columns.specs.Intervals.{less, plus, inner_ends, outer_ends, lower_end, meet_ends}
use Rattle.columns.specs.InternalHighest.{finite, highest, rise}
use Rattle.columns.specs.declared.Upper.{Upper}
use Rattle.columns.specs.declared.Upper.TheVariants.{At, Endless}
use Rattle.columns.specs.declared.Interval.{Interval}

-- No end rises by more than the amount, or 1; by a step it rises by the amount.
pub rise_most : (r : ℕ) → rise r ≤ max 1 (amount r)
rise_most zero = omega arith
rise_most (suc zero) = omega arith
rise_most (suc (suc zero)) = omega arith
rise_most (suc (suc (suc zero))) = omega arith
rise_most (suc (suc (suc (suc d)))) = omega arith

pub rise_step : (r : ℕ) → any < r → rise r ≡ amount r
rise_step r h = let x = is_step r h in by_step x.0 x.1
  where
    by_step : (d : ℕ) → r ≡ suc (suc (suc (suc d))) → rise r ≡ amount r
    by_step d q = let a : amount r ≡ suc d = omega arith in rw (a, q) refl

-- A finite end that is raised, and one that is lowered.
plus_finite : (h : Upper) (d : ℕ) → finite (plus h d) ≤ finite h + d
plus_finite (At x) d = omega arith
plus_finite Endless d = omega arith

less_finite : (h : Upper) (d : ℕ) → finite (less h d) ≤ finite h - d
less_finite (At x) d = omega arith
less_finite Endless d = omega arith

-- The way in.
pub inner_high : (r : ℕ) (c : Interval) → highest (inner_ends r c) ≤ highest c + rise r
inner_high zero c = omega arith
inner_high (suc zero) c = omega arith
inner_high (suc (suc zero)) c = omega arith
inner_high (suc (suc (suc zero))) c = omega arith
inner_high (suc (suc (suc (suc d)))) c = let f = plus_finite c.upper (suc d) in omega arith

-- The way out: ends that pass neither b plus the rise nor m come back.
outer_high : (r b m : ℕ) (d : Interval) → highest d ≤ max (b + rise r) m → highest (outer_ends r d) ≤ max b m
outer_high zero b m d h = omega arith
outer_high (suc zero) b m d h = let f = less_finite d.upper 1 in omega arith
outer_high (suc (suc zero)) b m d h = omega arith
outer_high (suc (suc (suc zero))) b m d h = omega arith
outer_high (suc (suc (suc (suc e)))) b m d h = let f = less_finite d.upper (suc e) in omega arith

-- A finite end of a meeting is one of the two.
met_finite : (b : ℕ) (a h : Upper) → finite a ≤ b → finite h ≤ b → finite (lower_end a h) ≤ b
met_finite b Endless h p q = q
met_finite b (At x) Endless p q = p
met_finite b (At x) (At y) p q = by_test (leb x y) refl
  where
    by_test : (t : Bool) → leb x y ≡ t → finite (cond (leb x y) (At x) (At y)) ≤ b
    by_test true e = rw e p
    by_test false e = rw e q

meet_high : (b : ℕ) (c d : Interval) → highest c ≤ b → highest d ≤ b → highest (meet_ends c d) ≤ b
meet_high b c d p q = let f = met_finite b c.upper d.upper (omega arith) (omega arith) in omega arith

pub leave_high : (r b m : ℕ) (c d : Interval) → highest c ≤ b → highest d ≤ max (b + rise r) m → highest (meet_ends c (outer_ends r d)) ≤ max b m
leave_high r b m c d p h = meet_high (max b m) c (outer_ends r d) (omega arith) (outer_high r b m d h)
