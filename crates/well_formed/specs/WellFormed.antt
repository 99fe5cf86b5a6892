-- Well formed, as the least relation that the rules give (01, "Well formed"). The facts are finished: `May` is the least
-- relation of its own rules.
use Rattle.std.specs.Prelude.{ℕ, ◌<◌, List}
use Rattle.table.specs.Form.{Form, empty, terminal, rule, sequence, choice, not, repeat, indent, position}
use Rattle.table.specs.Form.{align, form, stands_for, node_count}
use Rattle.well_formed.specs.Facts.{nothing, May}

module _ (nodes rules : List ℕ) where
  -- WellFormed f: a form f is well formed. A constructor for each rule.
  pub data WellFormed : Form → Type 0 where
    -- "empty and terminal;"
    empty_well : WellFormed empty
    terminal_well : {t : ℕ} → WellFormed (terminal t)
    -- "a sequence whose a is, and b too if a may read nothing;"
    sequence_well :
        {a b : ℕ}
        → WellFormed (form nodes a)
        → (May nodes rules (form nodes a) nothing → WellFormed (form nodes b))
        → WellFormed (sequence a b)
    -- "a choice of two;"
    choice_well : {a b : ℕ} → WellFormed (form nodes a) → WellFormed (form nodes b) → WellFormed (choice a b)
    -- "a repeat whose child is and may not succeed reading nothing;"
    repeat_well :
        {a : ℕ}
        → WellFormed (form nodes a)
        → (May nodes rules (form nodes a) nothing → ⊥)
        → WellFormed (repeat a)
    -- "else the child."
    rule_well : {r : ℕ} → WellFormed (form nodes (stands_for rules r)) → WellFormed (rule r)
    not_well : {a : ℕ} → WellFormed (form nodes a) → WellFormed (not a)
    indent_well : {a r : ℕ} → WellFormed (form nodes a) → WellFormed (indent a r)
    position_well : {a r : ℕ} → WellFormed (form nodes a) → WellFormed (position a r)
    align_well : {a : ℕ} → WellFormed (form nodes a) → WellFormed (align a)

  -- "The grammar passes if every node does, reachable or not;"
  pub record Passes : Type 0 where
    pub every : (n : ℕ) → n < node_count nodes → WellFormed (form nodes n)

  -- "otherwise the lowest that doesn't is named."
  pub record LowestBad (n : ℕ) : Type 0 where
    pub there : n < node_count nodes
    pub bad : WellFormed (form nodes n) → ⊥
    pub lower : (k : ℕ) → k < n → WellFormed (form nodes k)
