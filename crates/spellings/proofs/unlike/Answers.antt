-- `spellings::unlike` meets its contract.
use Rattle.std.proofs.Common.{rules, not}
use Rattle.spellings.specs.Spellings.{same_bytes}
use Rattle.spellings.proofs.unlike.Goals as goal

pub returns : goal.returns
returns c = c.each_spelling.ensures (λ t. not (same_bytes t c.args.s.now)) (λ t b k. search rules)
