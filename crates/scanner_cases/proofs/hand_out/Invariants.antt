-- `scanner_cases::hand_out` meets its contract: so many tokens were handed out.
use Rattle.scanner_cases.specs.Handing.{Walked}
use Rattle.scanner_cases.proofs.hand_out.Given as goal

abbrev pub invariant-loop-count : goal.invariant-loop-count
invariant-loop-count l = Walked l.file l.report l.words l.count l.same l.last
