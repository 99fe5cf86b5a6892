-- What one use of Ford's rules gives (01, "Well formed"; Ford 2004, carried over to the three layout forms): a form's facts and
-- its well-formedness, from what is known of each node.
use Rattle.std.specs.Prelude.{ℕ, Bool, true, false, ◌&&◌, ◌||◌, not as is_false, List}
use Rattle.table.specs.Form.{Form, empty, terminal, rule, sequence, choice, not, repeat, indent, position}
use Rattle.table.specs.Form.{align, other, stands_for}

-- "may succeed reading nothing, may succeed reading something, may fail"
pub data Fact : Type 0 where
  nothing something fails : Fact

-- Whether a node is known to succeed.
abbrev pub succeeds : (Fact → ℕ → Bool) → ℕ → Bool
succeeds known n = known nothing n || known something n

-- What a form gives by its rules, from what is known of its children.
unfoldable pub gives : List ℕ → (Fact → ℕ → Bool) → Form → Fact → Bool
gives rules known empty nothing = true
gives rules known empty something = false
gives rules known empty fails = false
gives rules known (terminal t) nothing = false
gives rules known (terminal t) something = true
gives rules known (terminal t) fails = true
gives rules known (rule r) x = known x (stands_for rules r)
gives rules known (sequence a b) nothing = known nothing a && known nothing b
gives rules known (sequence a b) something = known something a && succeeds known b || succeeds known a && known something b
gives rules known (sequence a b) fails = known fails a || succeeds known a && known fails b
gives rules known (choice a b) nothing = known nothing a || known fails a && known nothing b
gives rules known (choice a b) something = known something a || known fails a && known something b
gives rules known (choice a b) fails = known fails a && known fails b
gives rules known (not a) nothing = known fails a
gives rules known (not a) something = false
gives rules known (not a) fails = succeeds known a
gives rules known (repeat a) nothing = known fails a
gives rules known (repeat a) something = known something a
gives rules known (repeat a) fails = false
gives rules known (indent a r) x = known x a
gives rules known (position a r) x = known x a
gives rules known (align a) x = known x a
gives rules known other x = false

-- Whether a form is well formed, from which nodes are known to be and which may succeed reading nothing.
unfoldable pub passes : List ℕ → (ℕ → Bool) → (ℕ → Bool) → Form → Bool
passes rules may well empty = true
passes rules may well (terminal t) = true
passes rules may well (rule r) = well (stands_for rules r)
passes rules may well (sequence a b) = well a && (is_false (may a) || well b)
passes rules may well (choice a b) = well a && well b
passes rules may well (not a) = well a
passes rules may well (repeat a) = well a && is_false (may a)
passes rules may well (indent a r) = well a
passes rules may well (position a r) = well a
passes rules may well (align a) = well a
passes rules may well other = false
