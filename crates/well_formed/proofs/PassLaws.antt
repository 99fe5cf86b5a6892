-- Passes over cells: a pass starts, looks at one cell more, and ends; one that found a cell leaves fewer missing.
use Prim.Native.Nat.{◌<◌, ◌≤◌}
use mathlib.Core.Path.{◌≡◌, refl, sym, fun_ext, ◌∙◌}
use mathlib.Core.Bool.{Bool, true, false, ◌||◌, true≢false, false≢true}
use mathlib.Core.List.{List}
use mathlib.Core.Logic.{◌⊎◌, inl, inr, ⊎_elim}
use Rattle.table.proofs.Every.{both_false}
use Rattle.table.proofs.Orders.{le_or_lt}
use Rattle.well_formed.specs.InternalPasses.{Pass, Finished}
use Rattle.well_formed.proofs.RoundLaws.{one_of}
use Rattle.well_formed.proofs.FixpointLaws.{Each, missing, same_found}

-- Truth values that follow from each other are equal.
pub same_truth : (a b : Bool) → (a ≡ true → b ≡ true) → (b ≡ true → a ≡ true) → a ≡ b
same_truth true b f g = sym (f refl)
same_truth false true f g = g refl
same_truth false false f g = refl

-- A truth value that is not true.
pub not_so : (a : Bool) → (a ≡ true → ⊥) → a ≡ false
not_so true f = absurd (f refl)
not_so false f = refl

-- Cells p' are p with those cells of At set that b names; whether one of them was not set.
pub record Change {C : Type 0} (p p' : C → Bool) (At : C → Type 0) (b : C → Bool) (fresh : Bool) : Type 0 where
  pub stays : (d : C) → p d ≡ true → p' d ≡ true
  pub only : (d : C) → p' d ≡ true → (p d ≡ true) ⊎ (At d × (b d ≡ true))
  pub set_now : (d : C) → At d → b d ≡ true → p' d ≡ true
  pub none : fresh ≡ false → (d : C) → At d → b d ≡ true → p d ≡ true
  pub one : fresh ≡ true → (d : C) × At d × (b d ≡ true) × (p d ≡ false)

-- All of them were set before.
pub unchanged : {C : Type 0} (p : C → Bool) (At : C → Type 0) (b : C → Bool) → ((d : C) → At d → b d ≡ true → p d ≡ true) → Change p p At b false
unchanged p At b k = record { stays = λ d e. e; only = λ d e. inl e; set_now = k; none = λ f. k; one = λ e. absurd (false≢true e) }

module _ {C : Type 0} (True Below : C → Type 0) (step : (C → Bool) → C → Bool) where
  -- A pass that has looked at nothing.
  pub started : (p : C → Bool) → ((c : C) → p c ≡ true → True c) → (Looked : C → Type 0) → ((c : C) → Looked c → ⊥) → Pass True Below step Looked p p false
  started p t Looked none =
      record { true_ones = t; kept = λ c e. e; same = λ f c. refl; closed = λ f c l. absurd (none c l); new = λ e. absurd (false≢true e) }

  -- What a pass has looked at may be said in other words.
  pub looked_also :
      {Looked Other : C → Type 0} {p₀ p : C → Bool} {found : Bool}
      → ((c : C) → Other c → Looked c)
      → Pass True Below step Looked p₀ p found
      → Pass True Below step Other p₀ p found
  looked_also f h = record { true_ones = h.true_ones; kept = h.kept; same = h.same; closed = λ e c l. h.closed e c (f c l); new = h.new }

  module _ {Looked : C → Type 0} {p₀ p : C → Bool} {found : Bool} (h : Pass True Below step Looked p₀ p found)
      (At : C → Type 0) (b : C → Bool) (below : (d : C) → At d → Below d) (t : (d : C) → At d → b d ≡ true → True d)
      (now : found ≡ false → (d : C) → At d → step p₀ d ≡ true → b d ≡ true)
      {p' : C → Bool} {fresh : Bool} (x : Change p p' At b fresh) where
    true_then : (d : C) → (p d ≡ true) ⊎ (At d × (b d ≡ true)) → True d
    true_then d (inl e) = h.true_ones d e
    true_then d (inr e) = t d e.0 e.1

    known_then : fresh ≡ false → (d : C) → (p d ≡ true) ⊎ (At d × (b d ≡ true)) → p d ≡ true
    known_then f d (inl e) = e
    known_then f d (inr e) = x.none f d e.0 e.1

    same_then : (found || fresh) ≡ false → (d : C) → p' d ≡ p₀ d
    same_then f d =
        let g = both_false found fresh f in
        same_truth (p' d) (p d) (λ e. known_then g.1 d (x.only d e)) (x.stays d) ∙ h.same g.0 d

    closed_then : (found || fresh) ≡ false → (d : C) → Looked d ⊎ At d → step p₀ d ≡ true → p₀ d ≡ true
    closed_then f d (inl l) e = h.closed (both_false found fresh f).0 d l e
    closed_then f d (inr a) e =
        let g = both_false found fresh f in
        sym (h.same g.0 d) ∙ x.none g.1 d a (now g.0 d a e)

    new_then : (found ≡ true) ⊎ (fresh ≡ true) → (d : C) × Below d × (p₀ d ≡ false) × (p' d ≡ true)
    new_then (inl e) = let w = h.new e in (w.0, w.1, w.2, x.stays w.0 w.3)
    new_then (inr e) =
        let w = x.one e in
        (w.0, below w.0 w.1, not_so (p₀ w.0) (λ k. true≢false (sym (h.kept w.0 k) ∙ w.3)), x.set_now w.0 w.1 w.2)

    -- The pass looks at the cells of At.
    pub looked : {found' : Bool} → found' ≡ (found || fresh) → Pass True Below step (λ d. Looked d ⊎ At d) p₀ p' found'
    looked q =
        rw q (record {
          true_ones = λ d e. true_then d (x.only d e);
          kept = λ d e. x.stays d (h.kept d e);
          same = same_then;
          closed = closed_then;
          new = λ e. new_then (one_of found fresh e);
        })

  -- A pass over every cell that found none is the last.
  pub last_pass :
      {p₀ p : C → Bool} {Looked : C → Type 0} {found : Bool}
      → ((c : C) → Below c → Looked c)
      → found ≡ false
      → Pass True Below step Looked p₀ p found
      → Finished True Below step p
  last_pass {p₀ = p₀} {p = p} all f h = rw (fun_ext (h.same f)) (record { true_ones = λ c e. h.true_ones c (h.kept c e); closed = λ c l. h.closed f c (all c l) })

  -- One that found a cell leaves fewer missing.
  pub fewer :
      {p₀ p : C → Bool} {Looked : C → Type 0} {found : Bool} (cells : List C)
      → ((c : C) → Below c → (P : C → Type 0) → Each P cells → P c)
      → found ≡ true
      → Pass True Below step Looked p₀ p found
      → missing p cells < missing p₀ cells
  fewer {p₀ = p₀} {p = p} cells at f h = ⊎_elim more (λ l. l) (le_or_lt (missing p₀ cells) (missing p cells))
    where
      more : missing p₀ cells ≤ missing p cells → missing p cells < missing p₀ cells
      more l = let w = h.new f in absurd (false≢true (sym w.2 ∙ sym (at w.0 w.1 (λ c. p c ≡ p₀ c) (same_found p₀ p h.kept cells l)) ∙ w.3))
