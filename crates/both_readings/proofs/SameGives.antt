-- Where a grammar reads alike from a start, the clauses give the same by both readings, in any column domain.
use Prim.Native.Nat.{ℕ}
use mathlib.Core.List.{List}
use mathlib.Core.Logic.{◌↔◌}
use Rattle.table.specs.Form.{form}
use Rattle.columns.specs.Domain.{Domain}
use Rattle.columns.specs.declared.Start.{Start}
use Rattle.columns.specs.declared.Reading.TheVariants.{By2017, By2014}
use Rattle.clauses.specs.Clauses.{Outcome}
use Rattle.clauses.specs.Limits.{tokens_of}
use Rattle.clauses.specs.Trace.{Trace, Gives}
use Rattle.both_readings.specs.BothReadings.{begins, ReadAlike}
use Rattle.both_readings.proofs.SameRuns.{same_run}

module _ (nodes rules words : List ℕ) (start : Start) (alike : ReadAlike nodes rules (form nodes start.node) start.flag) where
  -- In any column domain the clauses give the same by both readings, outcome and trace:
  pub same_gives {ℓ κ} :
      (D : Domain {ℓ, κ}) (I : D.Columns) (o : Outcome D.Columns) (t : Trace)
      → Gives D By2014 nodes rules (tokens_of words) start.mode (form nodes start.node) (start.place, I, start.flag) o t
      ↔ Gives D By2017 nodes rules (tokens_of words) start.mode (form nodes start.node) (start.place, I, start.flag) o t
  same_gives D I o t =
      same_run D nodes rules (tokens_of words) (form nodes start.node) start.flag alike start.mode (form nodes start.node) (start.place, I, start.flag) o t begins
