-- A node in a pass: its facts, or its own cell.
use Rattle.std.proofs.Common.{◌≡◌, ℕ, ◌+◌, ◌<◌, Bool, true, false, ◌||◌, List, length, get_or, sym, ap, arith, ◌∙◌, ◌⊎◌, inl, inr}
use mathlib.Core.Path.{fun_ext}
use mathlib.Core.Bool.{or-true, or-false}
use mathlib.Core.Logic.{⊎_elim}
use lib.ListN.{set}
use native.Mathlib.Nat.{eq-or-lt_of_le}
use Rattle.table.specs.Answer.{given}
use Rattle.table.specs.Checks.{table_answer}
use Rattle.table.specs.Form.{form, node_count}
use Rattle.table.proofs.Inside.{inside_table}
use Rattle.form_facts.specs.OneForm.{fact_of}
use Rattle.form_facts.specs.declared.Facts.{Facts}
use Rattle.well_formed.specs.Facts.{Fact, nothing, May}
use Rattle.well_formed.specs.Rounds.{gives, passes}
use Rattle.well_formed.specs.InternalPasses.{known, no_facts, Cell, cell, TrueFact, fact_step, known_cells, FactsPass, TrueWell, WellPass}
use Rattle.well_formed.proofs.RoundLaws.{gives_true, passes_true}
use Rattle.well_formed.proofs.PassLaws.{unchanged, looked, looked_also}
use Rattle.well_formed.proofs.CellLaws.{node_change, facts_change, facts_known}

-- A number below n + 1 is below n, or n.
below_or_here : (m n : ℕ) → m < n + 1 → (m < n) ⊎ (m ≡ n)
below_or_here m n l = ⊎_elim (λ e. inr e) (λ k. inl k) (eq-or-lt_of_le (omega arith))

module _ (nodes rules : List ℕ) where
  -- The facts of node n, joined by what it gives.
  module _ (before cells : List Facts) (n : ℕ) (found : Bool) (h : FactsPass nodes rules n before cells found) (new now : Facts)
      (g : (x : Fact) → fact_of new x ≡ gives rules (known cells) (form nodes n) x)
      (j : (x : Fact) → fact_of now x ≡ (fact_of (get_or cells n no_facts) x || fact_of new x)) (b : n < node_count nodes) where
    true_new : (c : Cell) → c.node ≡ n → fact_of new c.fact ≡ true → TrueFact nodes rules c
    true_new c a e = rw a (gives_true nodes rules (known cells) (λ y m k. h.true_ones (cell y m) k) (form nodes n) c.fact (sym (g c.fact) ∙ e))

    now_new : found ≡ false → (c : Cell) → c.node ≡ n → fact_step nodes rules (known_cells nodes rules before) c ≡ true → fact_of new c.fact ≡ true
    now_new f c a e =
        let k : fact_step nodes rules (known_cells nodes rules before) (cell c.fact n) ≡ true = rw a at e in
        g c.fact
        ∙ ap (λ (k : Fact → ℕ → Bool). gives rules k (form nodes n) c.fact) (fun_ext (λ y. fun_ext (λ m. h.same f (cell y m))))
        ∙ k

    there : (c : Cell) → c.node ≡ n → c.node < node_count nodes
    there c a = rw a b

    pub facts_kept : now ≡ get_or cells n no_facts → n < length cells → FactsPass nodes rules (n + 1) before cells found
    facts_kept q l =
        looked_also _ _ _ (λ c k. below_or_here c.node n k)
        (looked _ _ _ h (λ c. c.node ≡ n) (λ c. fact_of new c.fact) there true_new now_new
        (unchanged _ _ _ (facts_known cells n new now l j q)) (sym (or-false found)))

    pub facts_added : (now ≡ get_or cells n no_facts → ⊥) → n < length cells → FactsPass nodes rules (n + 1) before (set cells n now) true
    facts_added q l =
        looked_also _ _ _ (λ c k. below_or_here c.node n k)
        (looked _ _ _ h (λ c. c.node ≡ n) (λ c. fact_of new c.fact) there true_new now_new
        (facts_change cells n new now l j q) (sym (or-true found)))

  -- Whether node n is well formed.
  module _ (passing : table_answer nodes rules ≡ given tt) (cells : List Facts) (before well : List Bool)
      (all : (m : ℕ) → m < node_count nodes → May nodes rules (form nodes m) nothing → known cells nothing m ≡ true)
      (n : ℕ) (found : Bool) (h : WellPass nodes rules cells n before well found) (b : n < node_count nodes) where
    abbrev new : Bool
    new = passes rules (known cells nothing) (λ m. get_or well m false) (form nodes n)

    true_well : (m : ℕ) → m ≡ n → new ≡ true → TrueWell nodes rules m
    true_well m a e =
        rw a
        (passes_true nodes rules (node_count nodes) (inside_table nodes rules passing) (known cells nothing) all
        (λ m. get_or well m false) (λ m l k. h.true_ones m k) (form nodes n) (inside_table nodes rules passing n b) e)

    now_well : found ≡ false → (m : ℕ) → m ≡ n → passes rules (known cells nothing) (λ k. get_or before k false) (form nodes m) ≡ true → new ≡ true
    now_well f m a e =
        let k : passes rules (known cells nothing) (λ k. get_or before k false) (form nodes n) ≡ true = rw a at e in
        ap (λ (w : ℕ → Bool). passes rules (known cells nothing) w (form nodes n)) (fun_ext (λ m. h.same f m)) ∙ k

    place : (m : ℕ) → m ≡ n → m < node_count nodes
    place m a = rw a b

    pub well_kept : (new ≡ true → get_or well n false ≡ true) → WellPass nodes rules cells (n + 1) before well found
    well_kept q =
        looked_also _ _ _ (λ m k. below_or_here m n k)
        (looked _ _ _ h (λ m. m ≡ n) (λ m. new) place true_well now_well
        (unchanged _ _ _ (λ m a e. ap (λ (k : ℕ). get_or well k false) a ∙ q e)) (sym (or-false found)))

    pub well_added : new ≡ true → get_or well n false ≡ false → n < length well → WellPass nodes rules cells (n + 1) before (set well n true) true
    well_added e f l =
        looked_also _ _ _ (λ m k. below_or_here m n k)
        (looked _ _ _ h (λ m. m ≡ n) (λ m. new) place true_well now_well (node_change well n new l e f) (sym (or-true found)))
