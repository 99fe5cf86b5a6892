-- The reading that a flag names, in the C interface, and the relation that an indent is walked by.
use Rattle.std.specs.Prelude.{ℕ, Bool, true, false, cond}
use Rattle.columns.specs.Relations.{equal}
use Rattle.columns.specs.declared.Reading.{Reading}
use Rattle.columns.specs.declared.Reading.TheVariants.{By2017, By2014}
use Rattle.clauses.specs.Clauses.{counts}

-- Set for 2014, clear for 2017.
abbrev pub reading_of : Bool → Reading
reading_of true = By2014
reading_of false = By2017

-- Relation r where indentation counts under flag b, else equal: by it the columns pass through both ways (`walk`,
-- `WalkLaws.through_read`).
abbrev pub in_force : Reading → Bool → ℕ → ℕ
in_force reading b r = cond (counts reading b) r equal
