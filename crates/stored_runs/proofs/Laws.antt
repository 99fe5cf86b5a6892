-- Numbers that are not 0, and runs of the same words.
use Prim.Native.Nat.{ℕ, zero, suc}
use mathlib.Core.Path.{◌≡◌, refl}
use mathlib.Core.List.{List}
use lib.ListN.{get_or}
use mathlib.Core.Bool.{Bool, true}
use Rattle.columns.specs.declared.Upper.{Upper}
use Rattle.columns.specs.declared.Upper.TheVariants.{At}
use Rattle.columns.specs.declared.Start.{Start}
use Rattle.columns.specs.declared.Reading.{Reading}
use Rattle.std.proofs.Common.{Result}
use Rattle.table.specs.declared.refusals.Refusal.{Refusal}
use Rattle.interpreter.specs.declared.Ran.{Ran}
use Rattle.stored_runs.specs.Runs.{upper_of, flag_of, start_of, Answers}
use Rattle.stored_cases.specs.Numbers.{pair_at, quad_at, first_pairs, first_quads}

pub flag_set : (n : ℕ) → (n ≡ 0 → ⊥) → true ≡ flag_of n
flag_set zero h = absurd (h refl)
flag_set (suc n) h = refl

pub upper_at : (n column : ℕ) → (n ≡ 0 → ⊥) → At column ≡ upper_of n column
upper_at zero column h = absurd (h refl)
upper_at (suc n) column h = refl

-- A start by what its bytes tell.
pub starts : (bytes : List ℕ) {node mode place lower bounded column set : ℕ} {upper : Upper} {flag : Bool}
    → node ≡ pair_at bytes 2 → mode ≡ pair_at bytes 4 → place ≡ quad_at bytes 6 → lower ≡ quad_at bytes 10
    → bounded ≡ get_or bytes 1 0 → column ≡ quad_at bytes 14 → upper ≡ upper_of bounded column
    → set ≡ get_or bytes 0 0 → flag ≡ flag_of set
    → record { node = node; place = place; interval = record { lower = lower; upper = upper }; flag = flag; mode = mode } ≡ start_of bytes
unfolding start_of
starts bytes n m p l b c u s f = cc

-- A run of the same words.
pub carried : {reading : Reading} {nodes nodes' rules rules' tokens tokens' : List ℕ} (start : Start) (ran : Result Ran Refusal)
    → nodes ≡ nodes' → rules ≡ rules' → tokens ≡ tokens'
    → Answers reading nodes rules tokens start ran → Answers reading nodes' rules' tokens' start ran
carried start ran e f g a = rw (← e, ← f, ← g) a

-- A run of as many words.
pub as_many_pairs : {reading : Reading} (nodes rules : List ℕ) {tokens : List ℕ} {start : Start} {ran : Result Ran Refusal} {x x' y y' : ℕ}
    → Answers reading (first_pairs x nodes) (first_pairs y rules) tokens start ran → x ≡ x' → y ≡ y'
    → Answers reading (first_pairs x' nodes) (first_pairs y' rules) tokens start ran
as_many_pairs nodes rules a e f = rw (← e, ← f) a

pub as_many_quads : {reading : Reading} {nodes rules : List ℕ} (tokens : List ℕ) {start : Start} {ran : Result Ran Refusal} {x x' : ℕ}
    → Answers reading nodes rules (first_quads x tokens) start ran → x ≡ x' → Answers reading nodes rules (first_quads x' tokens) start ran
as_many_quads tokens a e = rw (← e) a
