-- `run_limits::tokens_wrong` meets its contract.
use Rattle.std.proofs.Common.{◌≡◌, ℕ, Bool, true, ◌&&◌, List, leb}
use Rattle.table.specs.Every.{every}
use Rattle.clauses.specs.Limits.{tokens_of}
use Rattle.run_limits.proofs.tokens_wrong.Given as goal

-- Whether the token at place w is within the limits.
abbrev pub token_right : List ℕ → ℕ → Bool
token_right words w = leb ((tokens_of words).terminal w) 255 && leb ((tokens_of words).column w) 65535

abbrev pub invariant-loop-w : goal.invariant-loop-w
invariant-loop-w l = every l.w (token_right l.tokens) ≡ true
