-- `report_checks::refused` meets its contract: whether none of the bytes so far is refused.
use Rattle.std.proofs.Common.{◌≡◌, not, get_or}
use Rattle.table.specs.Every.{every}
use Rattle.byte_class.specs.Bytes.{class_of}
use Rattle.report_checks.specs.Report.{refused_class}
use Rattle.report_checks.proofs.refused.Given as goal

abbrev pub invariant-loop-b : goal.invariant-loop-b
invariant-loop-b l = l.clean ≡ every l.b-index (λ k. not (refused_class (class_of (get_or l.report k 0))))
