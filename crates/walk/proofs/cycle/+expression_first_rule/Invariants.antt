-- The measures of `walk::cycle::expression`, `walk::cycle::first` and `walk::cycle::rule`, which call each other, and the
-- invariant of the expression walk's loop.
use Prim.Native.Nat.{◌*◌, ◌+◌}
use mathlib.Core.Bool.{cond}
use lib.Dec.{eqb}
use Rattle.table.specs.Form.{stands_for}
use Rattle.table.specs.Kinds.{word_of}
use Rattle.walk.specs.InternalWalk.{child_state, weight}
use Rattle.walk.proofs.WalkLaws.{Kept, Walk}
use Rattle.walk.proofs.cycle.+expression_first_rule.Given as goal

abbrev pub decreases-expression : goal.decreases-expression
decreases-expression l = 2 * weight l.input.now.nodes.now l.input.now.rules.now l.input.now.tokens.now l.node l.s + 1

-- A terminal is walked at its own node, which weighs no less, but no call follows.
abbrev pub decreases-first : goal.decreases-first
decreases-first l =
    cond (eqb (word_of l.kind) 1) 0
    (2 * weight l.input.now.nodes.now l.input.now.rules.now l.input.now.tokens.now l.node (child_state l.input.now.reading l.kind l.r l.s) + 2)

abbrev pub decreases-rule : goal.decreases-rule
decreases-rule l = 2 * weight l.input.now.nodes.now l.input.now.rules.now l.input.now.tokens.now (stands_for l.input.now.rules.now l.x) l.s + 2

abbrev pub invariant-expression-loop-kind : goal.invariant-expression-loop-kind
invariant-expression-loop-kind l =
    Walk l.input.reading l.input.nodes.now l.input.rules.now l.input.tokens.now l.initial.mode l.initial.node l.initial.s l.initial.counts l.initial.list
    l.mode l.node l.s l.counts l.list
    × Kept l.input.reading l.input.nodes.now l.input.rules.now l.input.tokens.now l.initial.memory l.memory

abbrev pub decreases-expression-loop-kind : goal.decreases-expression-loop-kind
decreases-expression-loop-kind l = weight l.input.nodes.now l.input.rules.now l.input.tokens.now l.node l.s
