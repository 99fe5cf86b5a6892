-- What a table that passes 3, 4 and 5 has: children and rules that are there. No public promise rests on this file.
use Rattle.std.specs.Prelude.{ℕ, ◌<◌, List}
use Rattle.table.specs.Form.{Form, empty, terminal, rule, sequence, choice, not, repeat, indent}
use Rattle.table.specs.Form.{position, align, other, stands_for}

-- The children of a form, or the node of its rule, are among so many nodes.
abbrev pub Inside : List ℕ → ℕ → Form → Type 0
Inside rules count empty = Unit
Inside rules count (terminal t) = Unit
Inside rules count (rule r) = stands_for rules r < count
Inside rules count (sequence a b) = (a < count) × (b < count)
Inside rules count (choice a b) = (a < count) × (b < count)
Inside rules count (not a) = a < count
Inside rules count (repeat a) = a < count
Inside rules count (indent a r) = a < count
Inside rules count (position a r) = a < count
Inside rules count (align a) = a < count
Inside rules count other = ⊥
