-- `run_limits::tokens_wrong` meets its contract.
use Rattle.std.proofs.Common.{sym, ap, not, ◌∙◌, ◌/◌, ◌%◌, length, eq-eqb, le-ltb}
use Rattle.table.proofs.Every.{every_fails}
use Rattle.clauses.specs.Limits.{fails11}
use Rattle.run_limits.proofs.tokens_wrong.Invariants.{token_right}
use Rattle.run_limits.proofs.tokens_wrong.Goals as goal

pub returns-then-not-token_right : goal.returns-then-not-token_right
unfolding fails11
returns-then-not-token_right c =
    rw (
      eq-eqb (length c.args.tokens.now % 4) 0 c.if-tokens-ne0.false,
      le-ltb 4096 (length c.args.tokens.now / 4) c.if-count-gt-TOKENS.false,
    )
    (sym
    (ap not
    (every_fails (length c.args.tokens.now / 4) (token_right c.args.tokens.now) c.loop-w.w c.loop-w-test.true
    (sym c.token_right.ensures ∙ c.if-not-token_right.true))))
