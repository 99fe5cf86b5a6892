-- `file_tables::write_nodes` meets its contract.
use Rattle.std.proofs.Common.{◌*◌, ◌≡◌, ◌++◌, drop}
use Rattle.file_tables.specs.Tables.{words_of}
use Rattle.file_fields.specs.Offsets.{offset_of, fields_from}
use Rattle.file_tables.proofs.write_nodes.Given as goal

abbrev pub invariant-loop-i : goal.invariant-loop-i
invariant-loop-i l = record {
  offset : l.at ≡ offset_of l.file l.fn.nodes.at l.i;
  written : l.out ≡ words_of (fields_from l.file l.fn.nodes.at l.i) ++ drop (l.i * 4) l.initial.out;
}
