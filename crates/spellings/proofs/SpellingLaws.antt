-- Spellings one by one, and what it means that two are the same.
use Rattle.std.specs.Prelude.{Option, None, Some, slice_get}
use Rattle.std.specs.Option.{option_copied, option_eq}
use denote.Ref.{Bor}
use Prim.Native.Nat.{◌-◌, ℕ, zero, suc, ◌<◌}
use mathlib.Core.Path.{◌≡◌, refl, sym, ap, ap₂, ◌∙◌}
use mathlib.Core.Bool.{Bool, true, false, ◌&&◌, false≢true}
use mathlib.Core.List.{List, []}
use mathlib.Core.Logic.{◌↔◌}
use native.Mathlib.Omega.{arith}
use borrow.Author.Tests.{eqb-true, eq-eqb}
use lib.ListN.{length, get_or, drop}
use lib.Dec.{eqb}
use lib.Seq.{ext_get_or}
use Rattle.table.specs.Every.{every}
use Rattle.table.proofs.Every.{every_fails, every_at, and_left, and_right}
use Rattle.file_fields.specs.Offsets.{value_at, offset_of, spellings_from}
use Rattle.spellings.specs.Spellings.{same_bytes}
use Rattle.file_fields.proofs.Offsets.{spelling_from}

-- What holds of each number below n holds of every one.
pub every_each : (n : ℕ) (test : ℕ → Bool) → ((i : ℕ) → i < n → test i ≡ true) → every n test ≡ true
unfolding every
every_each zero test h = refl
every_each (suc n) test h = ap₂ ◌&&◌ (every_each n test (λ i a. h i (omega arith))) (h n (omega arith))

-- Whether two spellings have the same byte at an index.
abbrev pub agree : List ℕ → List ℕ → ℕ → Bool
agree s t i = eqb (get_or s i 0) (get_or t i 0)

same_equal : (s t : List ℕ) → same_bytes s t ≡ true → s ≡ t
unfolding same_bytes
same_equal s t e =
    let lengths = eqb (length s) (length t) in
    let bytes = every (length s) (agree s t) in
    ext_get_or 0 s t (eqb-true _ _ (and_left lengths bytes e))
    (λ i a. eqb-true _ _ (every_at (length s) (agree s t) (and_right lengths bytes e) i a))

same_self : (s : List ℕ) → same_bytes s s ≡ true
unfolding same_bytes
same_self s =
    ap₂ ◌&&◌ (eq-eqb (length s) _ refl) (every_each (length s) (agree s s) (λ i a. eq-eqb (get_or s i 0) _ refl))

-- Two spellings that are the same byte for byte are equal, and equal ones are the same.
pub same_exactly : (s t : List ℕ) → (same_bytes s t ≡ true) ↔ (s ≡ t)
same_exactly s t = (same_equal s t, λ e. rw e (same_self t))

-- Values that are there alike are the same.
copied_same : (x y : Option (Bor ℕ)) → option_copied x ≡ option_copied y → option_eq (λ a b. eqb a.now b.now) x y ≡ true
copied_same None None e = refl
copied_same None (Some b) e = absurd (let z : ◌≡◌ {A = ℕ} 0 1 = cc in omega arith)
copied_same (Some a) None e = absurd (let z : ◌≡◌ {A = ℕ} 0 1 = cc in omega arith)
copied_same (Some a) (Some b) e = eq-eqb _ _ cc

-- Two spellings with different last bytes are not the same.
pub last_apart : (s t : List ℕ) (x y : Option (Bor ℕ)) → option_copied x ≡ slice_get s (length s - 1) → option_copied y ≡ slice_get t (length t - 1)
    → option_eq (λ a b. eqb a.now b.now) x y ≡ false → false ≡ same_bytes s t
last_apart s t x y p q n = by_test (same_bytes s t) refl
  where
    by_test : (b : Bool) → same_bytes s t ≡ b → false ≡ b
    by_test false e = refl
    by_test true e =
        absurd (false≢true (sym n ∙ copied_same x y (p ∙ ap (λ (l : List ℕ). slice_get l (length l - 1)) (same_equal s t e) ∙ sym q)))

module _ (file : List ℕ) (first count skip : ℕ) where
  -- The spelling of a field, by its offset.
  pub here : {i at : ℕ} {s : List ℕ} → at ≡ offset_of file first i → i < count → s ≡ drop skip (value_at file at)
      → get_or (spellings_from file first count skip) i [] ≡ s
  here p h e = rw (spelling_from file first count skip _ h, ← p, ← e) refl

  -- One spelling that fails a test is enough.
  pub one_fails : {i at : ℕ} {s : List ℕ} (test : List ℕ → Bool) → at ≡ offset_of file first i → i < count → s ≡ drop skip (value_at file at)
      → test s ≡ false → false ≡ every count (λ k. test (get_or (spellings_from file first count skip) k []))
  one_fails {i} test p h e f = sym (every_fails count _ i h (ap test (here p h e) ∙ f))
