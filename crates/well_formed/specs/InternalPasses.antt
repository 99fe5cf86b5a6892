-- What the check's own functions tell one another: passes over the table that set cells. No public promise rests on this file.
use Rattle.std.specs.Prelude.{ℕ, ◌<◌, ◌≤◌, ◌≡◌, Bool, true, false, cond, List, length, get_or, eqb}
use Rattle.table.specs.Answer.{given}
use Rattle.table.specs.Checks.{table_answer}
use Rattle.table.specs.Form.{form, node_count, stands_for}
use Rattle.form_facts.specs.OneForm.{fact_of}
use Rattle.form_facts.specs.declared.Facts.{Facts}
use Rattle.well_formed.specs.Facts.{Fact, nothing, May}
use Rattle.well_formed.specs.WellFormed.{WellFormed}
use Rattle.well_formed.specs.Rounds.{gives, passes}

-- The node that a form asks first: its rule's node, or a.
abbrev pub first_child : List ℕ → ℕ → ℕ → ℕ
first_child rules kind a = cond (eqb kind 2) (stands_for rules a) a  -- 2 is a rule

-- No fact.
abbrev pub no_facts : Facts
no_facts = record { nothing = false; something = false; fails = false }

-- What the cells say of a node; past them nothing is known.
abbrev pub known : List Facts → Fact → ℕ → Bool
known cells x n = fact_of (get_or cells n no_facts) x

module _ {C : Type 0} (True Below : C → Type 0) (step : (C → Bool) → C → Bool) where
  -- A pass that began with p₀ and has come to p: some cells have been looked at, and a cell may have been found.
  pub record Pass (Looked : C → Type 0) (p₀ p : C → Bool) (found : Bool) : Type 0 where
    pub true_ones : (c : C) → p c ≡ true → True c
    pub kept : (c : C) → p₀ c ≡ true → p c ≡ true
    pub same : found ≡ false → (c : C) → p c ≡ p₀ c
    pub closed : found ≡ false → (c : C) → Looked c → step p₀ c ≡ true → p₀ c ≡ true
    pub new : found ≡ true → (c : C) × Below c × (p₀ c ≡ false) × (p c ≡ true)

  -- Cells that are true and to which a further pass adds nothing.
  pub record Finished (p : C → Bool) : Type 0 where
    pub true_ones : (c : C) → p c ≡ true → True c
    pub closed : (c : C) → Below c → step p c ≡ true → p c ≡ true

-- A fact of a node.
pub record Cell : Type 0 where
  pub fact : Fact
  pub node : ℕ

abbrev pub cell : Fact → ℕ → Cell
cell x n = record { fact = x; node = n }

module _ (nodes rules : List ℕ) where
  -- Passes over the facts of the nodes.
  abbrev pub TrueFact : Cell → Type 0
  TrueFact c = May nodes rules (form nodes c.node) c.fact

  abbrev pub FactBelow : ℕ → Cell → Type 0
  FactBelow count c = c.node < count

  abbrev pub fact_step : (Cell → Bool) → Cell → Bool
  fact_step p c = gives rules (λ x n. p (cell x n)) (form nodes c.node) c.fact

  abbrev pub known_cells : List Facts → Cell → Bool
  known_cells cells c = known cells c.fact c.node

  abbrev pub FactsPass : ℕ → List Facts → List Facts → Bool → Type 0
  FactsPass n before after found =
      Pass TrueFact (FactBelow (node_count nodes)) fact_step (FactBelow n) (known_cells before) (known_cells after)
      found

  abbrev pub FactsFinished : List Facts → Type 0
  FactsFinished cells = Finished TrueFact (FactBelow (node_count nodes)) fact_step (known_cells cells)

  -- Passes over the nodes that are found well formed, where the facts of each node are known.
  abbrev pub TrueWell : ℕ → Type 0
  TrueWell n = WellFormed nodes rules (form nodes n)

  abbrev pub well_step : (ℕ → Bool) → (ℕ → Bool) → ℕ → Bool
  well_step may p n = passes rules may p (form nodes n)

  abbrev pub well_cells : List Bool → ℕ → Bool
  well_cells well n = get_or well n false

  abbrev pub WellPass : List Facts → ℕ → List Bool → List Bool → Bool → Type 0
  WellPass cells n before after found =
      Pass TrueWell (λ m. m < node_count nodes) (well_step (known cells nothing)) (λ m. m < n)
      (well_cells before) (well_cells after) found

  abbrev pub WellFinished : List Facts → List Bool → Type 0
  WellFinished cells well =
      Finished TrueWell (λ m. m < node_count nodes) (well_step (known cells nothing)) (well_cells well)

  -- What a pass over the facts asks: room for every node, and no fact known that is not true.
  pub record FactsReady (cells : List Facts) : Type 0 where
    pub room : node_count nodes ≤ length cells
    pub true_ones : (c : Cell) → known_cells cells c ≡ true → TrueFact c

  -- What a pass over the nodes asks: a table that passes 3, 4 and 5, all nodes known that may succeed reading nothing,
  -- room for every node, and no cell set that is not true.
  pub record WellReady (cells : List Facts) (well : List Bool) : Type 0 where
    pub passing : table_answer nodes rules ≡ given tt
    pub all_nothing :
        (n : ℕ) → n < node_count nodes → May nodes rules (form nodes n) nothing → known cells nothing n ≡ true
    pub room : node_count nodes ≤ length well
    pub true_ones : (n : ℕ) → well_cells well n ≡ true → TrueWell n
