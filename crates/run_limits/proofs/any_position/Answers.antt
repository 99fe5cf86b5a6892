-- `run_limits::any_position` meets its contract.
use Rattle.std.proofs.Common.{◌≡◌, sym, ap, not, ◌/◌, length, eq-eqb, arith}
use Rattle.table.specs.Form.{kind_of}
use Rattle.table.proofs.Every.{every_fails}
use Rattle.run_limits.proofs.any_position.Invariants.{no_position}
use Rattle.run_limits.proofs.any_position.Goals as goal

pub returns-then-eq : goal.returns-then-eq
returns-then-eq c =
    let k : kind_of c.args.nodes.now c.loop-n.n ≡ 8 = grind arith in
    sym (ap not (every_fails (length c.args.nodes.now / 4) (no_position c.args.nodes.now) c.loop-n.n (omega arith) (ap not (eq-eqb _ _ k))))
