-- `walk::cycle::expression`, `walk::cycle::first` and `walk::cycle::rule`, which call each other, meet their contracts.
use Rattle.std.proofs.Common.{sym, subst}
use Rattle.walk.specs.InternalRemembering.{Remembering}
use Rattle.walk.proofs.WalkLaws.{kept_on, out_recalled, remembers_walked}
use Rattle.walk.proofs.WalkLaws.{out_empty, rule_less, rule_ready, rule_room, out_rule, kind_in, first_kind, is_token, no_token}
use Rattle.walk.proofs.WalkLaws.{position_less, position_again, call_less, call_ready, call_room}
use Rattle.walk.proofs.WalkLaws.{choice_less, choice_again, out_not, out_repeat, out_failed, out_terminal}
use Rattle.walk.proofs.WalkLaws.{sequence_less, sequence_again, out_choice, out_not_fails, repeat_less}
use Rattle.walk.proofs.WalkLaws.{repeat_again, out_indent, out_align, first_token, first_less}
use Rattle.walk.proofs.WalkLaws.{first_ready, first_room, out_token, out_back, out_on, rule_failed}
use Rattle.walk.proofs.WalkLaws.{rule_read, tag_is}
use mathlib.Core.Logic.{⊎_elim}
use Rattle.walk.proofs.cycle.+expression_first_rule.Goals as goal
use Rattle.walk.proofs.cycle.+expression_first_rule.Goals.{first-then-remembers-2, first-else-remembers-2}

pub expression-unreachable-requires : goal.expression-unreachable-requires
expression-unreachable-requires t c = kind_in c.loop-kind.invariant.0 c.in_default.ensures

pub expression-returns-in-Empty-clause-walked : goal.expression-returns-in-Empty-clause-walked
expression-returns-in-Empty-clause-walked t c = out_empty c.loop-kind.invariant.0 c.in-Ok.ensures c.in-Empty.is

pub expression-rule-requires : goal.expression-rule-requires
expression-rule-requires t c = (rule_less c.loop-kind.invariant.0 c.in-Ok.ensures c.in-Rule.is c.anew-again.ensures c.decreases, (rule_ready c.loop-kind.invariant.0 c.in-Ok.ensures c.in-Rule.is c.anew-again.ensures, (rule_room c.loop-kind.invariant.0 c.in-Ok.ensures c.in-Rule.is c.anew-again.ensures, c.loop-kind.invariant.1.remembers)))

pub expression-returns-in-Rule-clause-walked : goal.expression-returns-in-Rule-clause-walked
expression-returns-in-Rule-clause-walked t c = out_rule c.loop-kind.invariant.0 c.in-Ok.ensures c.in-Rule.is c.anew-again.ensures _ c.rule.ensures.walked

pub expression-loop-kind-smaller-in-Position : goal.expression-loop-kind-smaller-in-Position
expression-loop-kind-smaller-in-Position t c = position_less c.loop-kind.invariant.0 c.in-Ok.ensures c.in-Position.is

pub expression-loop-kind-preserved-in-Position : goal.expression-loop-kind-preserved-in-Position
expression-loop-kind-preserved-in-Position t c = (position_again c.loop-kind.invariant.0 c.in-Ok.ensures c.in-Position.is, c.loop-kind.invariant.1)

pub expression-first-x-requires : goal.expression-first-x-requires
expression-first-x-requires t c = (call_less c.loop-kind.invariant.0 c.in-Ok.ensures c.in_default-kind.not-Empty c.in_default-kind.not-Rule c.in_default-kind.not-Position c.first_node-c.ensures c.decreases, (call_ready c.loop-kind.invariant.0 c.in-Ok.ensures c.in_default-kind.not-Empty c.in_default-kind.not-Rule c.in_default-kind.not-Position c.first_node-c.ensures, (call_room c.loop-kind.invariant.0 c.in-Ok.ensures c.in_default-kind.not-Empty c.in_default-kind.not-Rule c.in_default-kind.not-Position c.first_node-c.ensures, c.loop-kind.invariant.1.remembers)))

pub expression-loop-kind-smaller-in-Choice : goal.expression-loop-kind-smaller-in-Choice
expression-loop-kind-smaller-in-Choice t c = choice_less c.loop-kind.invariant.0 c.in-Ok.ensures c.first_node-c.ensures c.first-x.ensures.walked_first c.in-Failure.farthest c.in-Failure.is c.failed-back.ensures c.in-Choice.is

pub expression-loop-kind-preserved-in-Choice : goal.expression-loop-kind-preserved-in-Choice
expression-loop-kind-preserved-in-Choice t c = (choice_again c.loop-kind.invariant.0 c.in-Ok.ensures c.first_node-c.ensures c.first-x.ensures.walked_first c.in-Failure.farthest c.in-Failure.is c.failed-back.ensures c.in-Choice.is, kept_on c.first-x.ensures.remembering_2 c.first-x.auto.memory c.loop-kind.invariant.1)

pub expression-returns-in-Not : goal.expression-returns-in-Not
expression-returns-in-Not t c = record { walked = ⊎_elim (λ p. out_not c.loop-kind.invariant.0 c.in-Ok.ensures c.first_node-c.ensures c.first-x.ensures.walked_first c.in-Failure.farthest c.in-Failure.is c.failed-back.ensures p) (λ p. out_repeat c.loop-kind.invariant.0 c.in-Ok.ensures c.first_node-c.ensures c.first-x.ensures.walked_first c.in-Failure.farthest c.in-Failure.is c.failed-back.ensures p) c.in-Not.is; remembering_2 = c.first-x.ensures.remembering_2 }

pub expression-returns-in_default-kind-2 : goal.expression-returns-in_default-kind-2
expression-returns-in_default-kind-2 t c = record { walked = out_failed c.loop-kind.invariant.0 c.in-Ok.ensures c.first_node-c.ensures c.first-x.ensures.walked_first c.in-Failure.farthest c.in-Failure.is c.in_default-kind.not-Empty c.in_default-kind.not-Rule c.in_default-kind.not-Position c.in_default-kind-2.not-Choice c.in_default-kind-2.not-Not c.in_default-kind-2.not-Repeat; remembering_2 = c.first-x.ensures.remembering_2 }

pub expression-returns-in-Terminal : goal.expression-returns-in-Terminal
expression-returns-in-Terminal t c = record { walked = out_terminal c.loop-kind.invariant.0 c.in-Ok.ensures c.first_node-c.ensures c.first-x.ensures.walked_first c.in-Success.u c.in-Success.is c.in-Terminal.is; remembering_2 = c.first-x.ensures.remembering_2 }

pub expression-loop-kind-smaller-in-Sequence : goal.expression-loop-kind-smaller-in-Sequence
expression-loop-kind-smaller-in-Sequence t c = sequence_less c.loop-kind.invariant.0 c.in-Ok.ensures c.first_node-c.ensures c.first-x.ensures.walked_first c.in-Success.u c.in-Success.is c.in-Sequence.is

pub expression-loop-kind-preserved-in-Sequence : goal.expression-loop-kind-preserved-in-Sequence
expression-loop-kind-preserved-in-Sequence t c = (sequence_again c.loop-kind.invariant.0 c.in-Ok.ensures c.first_node-c.ensures c.first-x.ensures.walked_first c.in-Success.u c.in-Success.is c.in-Sequence.is, kept_on c.first-x.ensures.remembering_2 c.first-x.auto.memory c.loop-kind.invariant.1)

pub expression-returns-in-Choice-kind : goal.expression-returns-in-Choice-kind
expression-returns-in-Choice-kind t c = record { walked = out_choice c.loop-kind.invariant.0 c.in-Ok.ensures c.first_node-c.ensures c.first-x.ensures.walked_first c.in-Success.u c.in-Success.is c.in-Choice-kind.is; remembering_2 = c.first-x.ensures.remembering_2 }

pub expression-returns-in-Not-kind : goal.expression-returns-in-Not-kind
expression-returns-in-Not-kind t c = record { walked = out_not_fails c.loop-kind.invariant.0 c.in-Ok.ensures c.first_node-c.ensures c.first-x.ensures.walked_first c.in-Success.u c.in-Success.is c.in-Not-kind.is; remembering_2 = c.first-x.ensures.remembering_2 }

pub expression-loop-kind-smaller : goal.expression-loop-kind-smaller
expression-loop-kind-smaller t c = repeat_less c.loop-kind.invariant.0 c.in-Ok.ensures c.first_node-c.ensures c.first-x.ensures.walked_first c.in-Success.u c.in-Success.is c.in-Repeat.is

pub expression-loop-kind-preserved : goal.expression-loop-kind-preserved
expression-loop-kind-preserved t c = (repeat_again c.loop-kind.invariant.0 c.in-Ok.ensures c.first_node-c.ensures c.first-x.ensures.walked_first c.in-Success.u c.in-Success.is c.in-Repeat.is, kept_on c.first-x.ensures.remembering_2 c.first-x.auto.memory c.loop-kind.invariant.1)

pub expression-returns-in-Indent : goal.expression-returns-in-Indent
expression-returns-in-Indent t c = record { walked = out_indent c.loop-kind.invariant.0 c.in-Ok.ensures c.first_node-c.ensures c.first-x.ensures.walked_first c.in-Success.u c.in-Success.is c.in-Indent.is c.in_force-q.ensures c.left-v.ensures; remembering_2 = c.first-x.ensures.remembering_2 }

pub expression-returns-in_default-kind-3 : goal.expression-returns-in_default-kind-3
expression-returns-in_default-kind-3 t c = record { walked = out_align c.loop-kind.invariant.0 c.in-Ok.ensures c.first_node-c.ensures c.first-x.ensures.walked_first c.in-Success.u c.in-Success.is c.in_default-kind.not-Empty c.in_default-kind.not-Rule c.in_default-kind.not-Position c.in_default-kind-3.not-Terminal c.in_default-kind-3.not-Sequence c.in_default-kind-3.not-Choice c.in_default-kind-3.not-Not c.in_default-kind-3.not-Repeat c.in_default-kind-3.not-Indent c.aligned-v.ensures; remembering_2 = c.first-x.ensures.remembering_2 }

pub first-unreachable-requires : goal.first-unreachable-requires
first-unreachable-requires t c = first_kind c.requires.ready_first c.in_default.ensures

pub first-token-requires : goal.first-token-requires
first-token-requires t c = first_token c.requires.ready_first

pub first-returns-in-Terminal-clause-walked_first : goal.first-returns-in-Terminal-clause-walked_first
first-returns-in-Terminal-clause-walked_first t c = out_token c.requires.ready_first c.entered-here.ensures c.requires.room (is_token c.requires.ready_first c.in-Ok.ensures c.in-Terminal.is) _ c.token.ensures

pub first-returns : goal.first-returns
first-returns t c = record { walked_first = out_recalled c.requires.ready_first c.entered-here.ensures c.untried-inside.ensures c.joined.ensures c.requires.room c.requires.remembering c.in-Some.ensures; remembering_2 = c.requires.remembering }

pub first-expression-y-requires : goal.first-expression-y-requires
first-expression-y-requires t c = (first_less c.requires.ready_first c.entered-here.ensures c.untried-inside.ensures (no_token c.requires.ready_first c.in-Ok.ensures c.in_default-own_kind.not-Terminal) c.decreases, (first_ready c.requires.ready_first c.entered-here.ensures c.untried-inside.ensures, (first_room c.requires.ready_first c.entered-here.ensures c.untried-inside.ensures (tag_is c.args.kind) c.hush.ensures c.requires.room, c.requires.remembering)))

pub first-returns-then-puts_back : goal.first-returns-then-puts_back
first-returns-then-puts_back t c =
    record {
      walked_first = out_back c.requires.ready_first c.entered-here.ensures c.untried-inside.ensures c.joined-x.ensures c.requires.room
          (tag_is c.args.kind) c.hush.ensures c.expression-y.ensures.walked c.puts_back.ensures c.if-puts_back.true;
      remembering_2 = elim c.if-remembers-2.branch [
        | first-then-remembers-2 w ↦
            subst (Remembering _ _ _ _) (sym w.memory-is)
            (remembers_walked c.requires.ready_first c.entered-here.ensures c.untried-inside.ensures c.expression-y.ensures.remembering_2
            c.expression-y.ensures.walked w.entered-there.ensures w.remember.ensures)
        | first-else-remembers-2 w ↦ subst (Remembering _ _ _ _) (sym w.memory-is) c.expression-y.ensures.remembering_2
      ];
    }

pub first-returns-else-puts_back : goal.first-returns-else-puts_back
first-returns-else-puts_back t c =
    record {
      walked_first = out_on c.requires.ready_first c.entered-here.ensures c.untried-inside.ensures c.joined-x.ensures c.requires.room
          (tag_is c.args.kind) c.hush.ensures c.expression-y.ensures.walked c.puts_back.ensures c.if-puts_back.false;
      remembering_2 = elim c.if-remembers-2.branch [
        | first-then-remembers-2 w ↦
            subst (Remembering _ _ _ _) (sym w.memory-is)
            (remembers_walked c.requires.ready_first c.entered-here.ensures c.untried-inside.ensures c.expression-y.ensures.remembering_2
            c.expression-y.ensures.walked w.entered-there.ensures w.remember.ensures)
        | first-else-remembers-2 w ↦ subst (Remembering _ _ _ _) (sym w.memory-is) c.expression-y.ensures.remembering_2
      ];
    }

pub rule-returns-in-Failure-clause-walked : goal.rule-returns-in-Failure-clause-walked
rule-returns-in-Failure-clause-walked t c = rule_failed _ c.requires.room c.more.ensures c.expression-o.ensures.walked c.in-Failure.farthest c.in-Failure.is

pub rule-returns-in-Success-clause-walked : goal.rule-returns-in-Success-clause-walked
rule-returns-in-Success-clause-walked t c = rule_read _ c.requires.room c.more.ensures c.expression-o.ensures.walked c.in-Success.u c.in-Success.is c.put.ensures
