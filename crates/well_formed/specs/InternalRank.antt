-- The measure of a run: a number for each node that falls from a form to each child that it may enter before it reads a
-- token. No public promise rests on this file.
use Rattle.std.specs.Prelude.{ℕ, zero, suc, ◌+◌, Bool, cond, List}
use Rattle.table.specs.Form.{Form, rule, sequence, choice, not, repeat, indent, position, align, form, node_count, stands_for}
use Rattle.well_formed.specs.Facts.{nothing, May}
use Rattle.well_formed.specs.Rounds.{well_after}
use Rattle.well_formed.specs.Check.{may_nothing}

-- The nodes that a form may enter before it reads a token: every child, but b of a sequence only if a may read nothing.
pub data Enters (nodes rules : List ℕ) : Form → ℕ → Type 0 where
  enters_rule : {r : ℕ} → Enters nodes rules (rule r) (stands_for rules r)
  enters_first : {a b : ℕ} → Enters nodes rules (sequence a b) a
  enters_second : {a b : ℕ} → May nodes rules (form nodes a) nothing → Enters nodes rules (sequence a b) b
  enters_choice : {a b : ℕ} → Enters nodes rules (choice a b) a
  enters_other : {a b : ℕ} → Enters nodes rules (choice a b) b
  enters_not : {a : ℕ} → Enters nodes rules (not a) a
  enters_repeat : {a : ℕ} → Enters nodes rules (repeat a) a
  enters_indent : {a r : ℕ} → Enters nodes rules (indent a r) a
  enters_position : {a r : ℕ} → Enters nodes rules (position a r) a
  enters_align : {a : ℕ} → Enters nodes rules (align a) a

-- In how many of the first k rounds a node is not found.
unfoldable pub misses : (ℕ → ℕ → Bool) → ℕ → ℕ → ℕ
misses found zero n = 0
misses found (suc k) n = misses found k n + cond (found k n) 0 1

-- The rank of a node: the number of rounds in which it is not found well formed.
unfoldable pub rank : List ℕ → List ℕ → ℕ → ℕ
rank nodes rules n = misses (well_after nodes rules (may_nothing nodes rules)) (suc (node_count nodes)) n
