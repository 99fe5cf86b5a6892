-- A run only narrows (001, theorem 2.1), in any lawful column domain and for I ≠ ∅:
--   e, τ ⊢ (w, I, b) → ⊤(w', I', b') ⟹ w ≥ w', I ⊇ I', b ⊇ b', I' ≠ ∅, and w = w' ∧ I = I' ∧ b = b' or w > w' ∧ b' = ff.
-- Two sets are the same here if they have the same members. By 001's reading all of it holds; by 000's all but what it says of
-- the flag, of which one part is left: w = w' ∧ b = tt ⟹ b' = tt.
use Prim.Native.Nat.{ℕ, ◌+◌, ◌≤◌, ◌<◌}
use mathlib.Core.Path.{◌≡◌, refl, sym, ap, ◌∙◌}
use mathlib.Core.Bool.{Bool, true, false, ◌&&◌, true≢false, and-true, and-false}
use mathlib.Core.List.{List}
use mathlib.Core.Logic.{⊎_elim}
use native.Mathlib.Nat.{eq-or-lt_of_le}
use native.Mathlib.Omega.{arith}
use Rattle.table.specs.Form.{Form}
use Rattle.table.proofs.Every.{and_left}
use Rattle.columns.specs.Domain.{Domain}
use Rattle.columns.specs.Lawful.{Lawful, Some, Sub}
use Rattle.columns.specs.Intervals.{ends}
use Rattle.columns.proofs.EndLaws.{ends_lawful, same_ends}
use Rattle.columns.specs.declared.Interval.{Interval}
use Rattle.columns.specs.declared.Reading.{Reading}
use Rattle.columns.specs.declared.Reading.TheVariants.{By2017, By2014}
use Rattle.columns.proofs.LawfulLaws.{one_inside, one_some, inner_some, leave_some, leave_all}
use Rattle.clauses.specs.Clauses.{Tokens, State, success, handed_on, Run, empty, terminal_clear, terminal_aligned, rule}
use Rattle.clauses.specs.Clauses.{sequence, choice_first, choice_second, not, repeat_ends, repeat_again, indent}
use Rattle.clauses.specs.Clauses.{indent_through, position, align}

module _ {ℓ κ} (D : Domain {ℓ, κ}) (reading : Reading) (nodes rules : List ℕ) (tokens : Tokens) where
  -- A run never goes back: w' is a suffix of w.
  pub onward : {τ : ℕ} {f : Form} {s s' : State D.Columns} → Run D reading nodes rules tokens τ f s (success s') → s.0 ≤ s'.0
  onward empty = omega arith
  onward (terminal_clear n m) = omega arith
  onward (terminal_aligned n m) = omega arith
  onward (rule d) = onward d
  onward (sequence d e) = let h = onward d in let k = onward e in omega arith
  onward (choice_first d) = onward d
  onward (choice_second d e) = onward e
  onward (not d) = omega arith
  onward (repeat_ends d) = omega arith
  onward (repeat_again d e) = let h = onward d in let k = onward e in omega arith
  onward (indent c d) = onward d
  onward (indent_through c d) = onward d
  onward (position d) = onward d
  onward (align d) = onward d

  -- A run stays within the tokens.
  pub within : {τ : ℕ} {f : Form} {s s' : State D.Columns} → s.0 ≤ tokens.count → Run D reading nodes rules tokens τ f s (success s') → s'.0 ≤ tokens.count
  within h empty = h
  within h (terminal_clear n m) = let h' = n.there in omega arith
  within h (terminal_aligned n m) = let h' = n.there in omega arith
  within h (rule d) = within h d
  within h (sequence d e) = within (within h d) e
  within h (choice_first d) = within h d
  within h (choice_second d e) = within h e
  within h (not d) = h
  within h (repeat_ends d) = h
  within h (repeat_again d e) = within (within h d) e
  within h (indent c d) = within h d
  within h (indent_through c d) = within h d
  within h (position d) = within h d
  within h (align d) = within h d

  -- s ≥ s' but for the flag, and the rest of the theorem.
  pub record Decreases (s s' : State D.Columns) : Type κ where
    -- w ≥ w' and I ⊇ I'
    pub place : s.0 ≤ s'.0
    pub columns : Sub D s'.1 s.1
    -- reading nothing leaves the columns unchanged, and a set flag set
    pub unread : s'.0 ≡ s.0 → Sub D s.1 s'.1 × (s.2 ≡ true → s'.2 ≡ true)
    -- I' ≠ ∅
    pub some : Some D s'.1

  unchanged : (s : State D.Columns) → Some D s.1 → Decreases s s
  unchanged s n = record { place = omega arith; columns = λ k m. m; unread = λ e. (λ k m. m, λ b. b); some = n }

  then : {s t u : State D.Columns} → Decreases s t → Decreases t u → Decreases s u
  then {s} {t} {u} d e =
      let p = d.place in
      let q = e.place in
      record {
        place = omega arith;
        columns = λ k m. d.columns k (e.columns k m);
        unread = λ h. let a = d.unread (omega arith) in let b = e.unread (omega arith) in (λ k m. b.0 k (a.0 k m), λ f. b.1 (a.1 f));
        some = e.some;
      }

  -- What an align hands on is set where it and what its child left are.
  handed_set : (r : Reading) (b b' : Bool) → b' ≡ true → b ≡ true → handed_on r b b' ≡ true
  handed_set By2017 b b' e f = rw (f, e) refl
  handed_set By2014 b b' e f = e

  module _ (L : Lawful D) where
    -- What of the theorem holds by either reading.
    pub narrows : {τ : ℕ} {f : Form} {s s' : State D.Columns} → Some D s.1 → Run D reading nodes rules tokens τ f s (success s') → Decreases s s'
    narrows {s = s} n empty = unchanged s n
    narrows n (terminal_clear {τ = τ} {i = i} {I = I} x m) =
        record {
          place = omega arith;
          columns = λ k h. ((L.met I (D.outer τ (D.one i)) k).0 h).0;
          unread = λ e. absurd (omega arith);
          some = leave_some D L τ I (D.one i) n (one_some D L i) (one_inside D L i (D.inner τ I) m);
        }
    narrows n (terminal_aligned {i = i} {I = I} x m) =
        record { place = omega arith; columns = one_inside D L i I m; unread = λ e. absurd (omega arith); some = one_some D L i }
    narrows n (rule d) = narrows n d
    narrows n (sequence d e) = let h = narrows n d in then h (narrows h.some e)
    narrows n (choice_first d) = narrows n d
    narrows n (choice_second d e) = narrows n e
    narrows {s = s} n (not d) = unchanged s n
    narrows {s = s} n (repeat_ends d) = unchanged s n
    narrows n (repeat_again d e) = let h = narrows n d in then h (narrows h.some e)
    narrows n (indent {ρ = ρ} {I = I} {I' = I'} c d) =
        let h = narrows (inner_some D L ρ I n) d in
        record {
          place = h.place;
          columns = λ k m. ((L.met I (D.outer ρ I') k).0 m).0;
          unread = λ e. let u = h.unread e in (leave_all D L ρ I I' n h.some h.columns u.0, u.1);
          some = leave_some D L ρ I I' n h.some h.columns;
        }
    narrows n (indent_through c d) = narrows n d
    narrows n (position d) = narrows n d
    narrows n (align {b = b} {b' = b'} d) =
        let h = narrows n d in
        record {
          place = h.place;
          columns = h.columns;
          unread = λ e. let u = h.unread e in (u.0, λ f. handed_set reading b b' (u.1 refl) f);
          some = h.some;
        }

-- What the theorem says of the flag, by 001. By 000 it fails: an align over empty sets the flag, where nothing was read and
-- behind a token (`clauses: ReadingCases`).
pub record Settles (w w' : ℕ) (b b' : Bool) : Type 0 where
  -- b ⊇ b'
  pub flag : b' ≡ true → b ≡ true
  -- reading nothing leaves it unchanged
  pub unread : w' ≡ w → b' ≡ b
  -- reading something clears it
  pub read : w < w' → b' ≡ false

kept : (w : ℕ) (b : Bool) → Settles w w b b
kept w b = record { flag = λ e. e; unread = λ e. refl; read = λ l. absurd (omega arith) }

token : (w : ℕ) (b : Bool) → Settles w (w + 1) b false
token w b = record { flag = λ e. absurd (true≢false (sym e)); unread = λ e. absurd (omega arith); read = λ l. refl }

cleared : (b c : Bool) → (c ≡ true → b ≡ true) → b ≡ false → c ≡ false
cleared b true f e = absurd (true≢false (sym (f refl) ∙ e))
cleared b false f e = refl

onto : {w v u : ℕ} {a b c : Bool} → w ≤ v → v ≤ u → Settles w v a b → Settles v u b c → Settles w u a c
onto {b = b} {c = c} p q d e =
    record {
      flag = λ f. d.flag (e.flag f);
      unread = λ h. e.unread (omega arith) ∙ d.unread (omega arith);
      read = λ l. ⊎_elim (λ h. e.read (omega arith)) (λ h. cleared b c e.flag (d.read h)) (eq-or-lt_of_le p);
    }

module _ {ℓ κ} (D : Domain {ℓ, κ}) (nodes rules : List ℕ) (tokens : Tokens) where
  -- The rest of the theorem.
  pub settles : {τ : ℕ} {f : Form} {s s' : State D.Columns} → Run D By2017 nodes rules tokens τ f s (success s') → Settles s.0 s'.0 s.2 s'.2
  settles {s = s} empty = kept s.0 s.2
  settles (terminal_clear {w = w} x m) = token w false
  settles (terminal_aligned {w = w} x m) = token w true
  settles (rule d) = settles d
  settles (sequence d e) = onto (onward D By2017 nodes rules tokens d) (onward D By2017 nodes rules tokens e) (settles d) (settles e)
  settles (choice_first d) = settles d
  settles (choice_second d e) = settles e
  settles {s = s} (not d) = kept s.0 s.2
  settles {s = s} (repeat_ends d) = kept s.0 s.2
  settles (repeat_again d e) = onto (onward D By2017 nodes rules tokens d) (onward D By2017 nodes rules tokens e) (settles d) (settles e)
  settles (indent c d) = settles d
  settles (indent_through c d) = absurd (true≢false c)
  settles (position d) = settles d
  settles (align {b = b} {b' = b'} d) =
      let h = settles d in
      record { flag = λ e. and_left b b' e; unread = λ e. ap (λ (c : Bool). b && c) (h.unread e) ∙ and-true b; read = λ l. ap (λ (c : Bool). b && c) (h.read l) ∙ and-false b }

-- Over two ends, by 001, reading nothing leaves the very same state.
pub unread_ends :
    (nodes rules : List ℕ) (tokens : Tokens) {τ : ℕ} {f : Form} (s s' : State Interval)
    → Some ends s.1
    → Run ends By2017 nodes rules tokens τ f s (success s')
    → s'.0 ≡ s.0
    → s' ≡ s
unread_ends nodes rules tokens (w, I, b) (w', I', b') n d e =
    let h = narrows ends By2017 nodes rules tokens ends_lawful n d in
    let q : I' ≡ I = sym (same_ends I I' n (h.unread e).0 h.columns) in
    let r : b' ≡ b = (settles ends nodes rules tokens d).unread e in
    rw (e, q, r) refl
