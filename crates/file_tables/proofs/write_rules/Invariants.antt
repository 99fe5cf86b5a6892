-- `file_tables::write_rules` meets its contract.
use Rattle.std.proofs.Common.{◌≡◌, ◌++◌, map, drop}
use Rattle.file_tables.specs.Tables.{rule_node}
use Rattle.file_fields.specs.Offsets.{offset_of, fields_from}
use Rattle.file_tables.proofs.write_rules.Given as goal

abbrev pub invariant-loop-i : goal.invariant-loop-i
invariant-loop-i l = record {
  offset : l.at ≡ offset_of l.file l.fn.rules.at l.i;
  written : l.out ≡ map rule_node (fields_from l.file l.fn.rules.at l.i) ++ drop l.i l.initial.out;
}
