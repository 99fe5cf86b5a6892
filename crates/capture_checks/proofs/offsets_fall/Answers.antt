-- `capture_checks::offsets_fall` meets its contract.
use Rattle.std.proofs.Common.{◌-◌, ◌<◌, sym, ap, ap₂, not, ◌∙◌, arith, leb}
use Rattle.std.proofs.lemmas.Bool.{lt-leb}
use Rattle.table.proofs.Every.{every_fails}
use Rattle.capture_checks.specs.Fourteen.{offsets_fall}
use Rattle.capture_checks.proofs.CaptureLaws.{not_below}
use Rattle.capture_checks.proofs.offsets_fall.Goals as goal

pub returns-then-token_offset : goal.returns-then-token_offset
unfolding offsets_fall
returns-then-token_offset c =
    let h : c.loop-i.i < c.args.after - c.args.first - 1 = omega arith in
    sym
    (ap not
    (every_fails _ (not_below c.args.tokens.now c.args.first) c.loop-i.i h
    (ap₂ leb (sym c.token_offset.ensures) (sym c.token_offset-in-loop-i.ensures) ∙ lt-leb _ _ c.if-token_offset.true)))
