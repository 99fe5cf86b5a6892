-- `file_tables::write_rules` meets its contract.
use Rattle.std.proofs.Common.{ℕ, List, get_or, ap, ◌∙◌, arith}
use Rattle.file_fields.specs.Fields.{two_bytes}
use Rattle.file_fields.specs.Offsets.{value_at}
use Rattle.file_tables.proofs.TableLaws.{rule_next, offset_stepped}
use Rattle.file_tables.proofs.write_rules.Goals as goal

pub loop-i-preserved : goal.loop-i-preserved
loop-i-preserved c = record {
  offset = offset_stepped _ _ _ c.next_at-at.ensures c.loop-i.invariant.offset;
  written = rule_next c.args.file.now c.args.rules.at c.loop-i.i c.args.out.now c.loop-i.out _ c.loop-i.invariant.written
      (omega arith)
      (c.number_in.ensures
      ∙ ap (λ (l : List ℕ). two_bytes (get_or l 0 0) (get_or l 1 0))
      (c.value_at.ensures ∙ ap (value_at c.args.file.now) c.loop-i.invariant.offset));
}
