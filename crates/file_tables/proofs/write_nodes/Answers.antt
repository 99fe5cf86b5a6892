-- `file_tables::write_nodes` meets its contract.
use Rattle.std.proofs.Common.{ap, ◌∙◌, arith}
use Rattle.file_fields.specs.Offsets.{value_at}
use Rattle.file_tables.proofs.TableLaws.{node_next, four_same, offset_stepped}
use Rattle.file_tables.proofs.write_nodes.Goals as goal

pub loop-i-preserved : goal.loop-i-preserved
loop-i-preserved c = record {
  offset = offset_stepped _ _ _ c.next_at-at.ensures c.loop-i.invariant.offset;
  written = node_next c.args.file.now c.args.nodes.at c.loop-i.i c.args.out.now c.loop-i.out _ _ _ _ c.loop-i.invariant.written
      (omega arith)
      (four_same (c.from.ensures ∙ c.byte_in.ensures) c.number_in.ensures c.number_in-in-loop-i.ensures
      (c.from-in-loop-i.ensures ∙ c.byte_in-in-loop-i.ensures)
      (c.value_at-value.ensures ∙ ap (value_at c.args.file.now) c.loop-i.invariant.offset));
}
