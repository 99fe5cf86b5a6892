-- What the first checks come to.
use Rattle.std.proofs.Common.{◌≡◌, ℕ, ◌≤◌, false, List, length, ltb, sym}
use borrow.Author.Tests.{ltb-false}
use Rattle.table.proofs.Every.{both_false}
use Rattle.report_checks.specs.Report.{most_bytes, fails8}

-- A report that number 8 passes is not over length.
pub short_report : (text : List ℕ) → false ≡ fails8 text → length text ≤ most_bytes
unfolding fails8
short_report text e = ltb-false most_bytes (length text) (both_false (ltb most_bytes (length text)) _ (sym e)).0
