-- What an expression may do, by Ford's rules (01, "Well formed"; Ford 2004, carried over to the three layout forms): the
-- three facts as the least relation that the rules give. A table and its rules are lists of words.
use Rattle.std.specs.Prelude.{ℕ, List}
use Rattle.table.specs.Form.{Form, empty, terminal, rule, sequence, choice, not, repeat, indent, position}
use Rattle.table.specs.Form.{align, form, stands_for}
pub use Rattle.form_facts.specs.Rules.{Fact, nothing, something, fails}

-- The facts that are a success.
pub data Success : Fact → Type 0 where
  by_nothing : Success nothing
  by_something : Success something

module _ (nodes rules : List ℕ) where
  -- May f x: an expression of form f may do x. A constructor for each rule.
  pub data May : Form → Fact → Type 0 where
    -- "Empty: the first."
    empty_nothing : May empty nothing
    -- "Terminal: second and third."
    terminal_something : {t : ℕ} → May (terminal t) something
    terminal_fails : {t : ℕ} → May (terminal t) fails
    -- "Rule, indent, position, align: those of their child."
    rule_child : {r : ℕ} {x : Fact} → May (form nodes (stands_for rules r)) x → May (rule r) x
    indent_child : {a r : ℕ} {x : Fact} → May (form nodes a) x → May (indent a r) x
    position_child : {a r : ℕ} {x : Fact} → May (form nodes a) x → May (position a r) x
    align_child : {a : ℕ} {x : Fact} → May (form nodes a) x → May (align a) x
    -- "Sequence: nothing if both;"
    sequence_nothing : {a b : ℕ} → May (form nodes a) nothing → May (form nodes b) nothing → May (sequence a b) nothing
    -- "something if both may succeed and one reads something;"
    sequence_first :
        {a b : ℕ} {x : Fact}
        → May (form nodes a) something
        → Success x
        → May (form nodes b) x
        → May (sequence a b) something
    sequence_second :
        {a b : ℕ} {x : Fact}
        → Success x
        → May (form nodes a) x
        → May (form nodes b) something
        → May (sequence a b) something
    -- "fails if a may fail, or a may succeed and b fail."
    sequence_fails : {a b : ℕ} → May (form nodes a) fails → May (sequence a b) fails
    sequence_then_fails :
        {a b : ℕ} {x : Fact}
        → Success x
        → May (form nodes a) x
        → May (form nodes b) fails
        → May (sequence a b) fails
    -- "Choice: a's successes, and if a may fail all of b's facts."
    choice_first : {a b : ℕ} {x : Fact} → Success x → May (form nodes a) x → May (choice a b) x
    choice_second : {a b : ℕ} {x : Fact} → May (form nodes a) fails → May (form nodes b) x → May (choice a b) x
    -- "Repeat: something if the child reads something; nothing if it may fail."
    repeat_something : {a : ℕ} → May (form nodes a) something → May (repeat a) something
    repeat_nothing : {a : ℕ} → May (form nodes a) fails → May (repeat a) nothing
    -- "Not: nothing if the child may fail; fails if it may succeed."
    not_nothing : {a : ℕ} → May (form nodes a) fails → May (not a) nothing
    not_fails : {a : ℕ} {x : Fact} → Success x → May (form nodes a) x → May (not a) fails
