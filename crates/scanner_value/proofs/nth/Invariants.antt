-- What is asked of step n is what is asked of the value as it stands, with so many steps left.
use Rattle.std.proofs.Common.{◌≡◌, ◌-◌, false}
use Rattle.scanner.specs.Steps.{position}
use Rattle.scanner_value.specs.Nth.{nth_answer}
use Rattle.scanner_value.proofs.nth.Given as goal

abbrev pub invariant-loop : goal.invariant-loop
invariant-loop l =
    (l.scanner.report.now ≡ l.report)
    × (nth_answer l.file l.report (l.n - l.counter) l.scanner.position ≡ nth_answer l.file l.report l.n (position 0 0 false))
