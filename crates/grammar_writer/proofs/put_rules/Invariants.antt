-- `grammar_writer::put_rules` meets its contract: the rules so far stand there.
use Rattle.std.proofs.Common.{◌≡◌, length}
use Rattle.file_fields.specs.Offsets.{offset_of, spellings_from}
use Rattle.grammar_writer.proofs.PutLaws.{Put}
use Rattle.grammar_writer.proofs.SectionLaws.{rule_of}
use Rattle.grammar_writer.proofs.put_rules.Given as goal

abbrev pub invariant-loop-node : goal.invariant-loop-node
invariant-loop-node l = record {
  put : Put (rule_of l.rules (spellings_from l.file l.first (length l.rules) 2)) l.to l.initial.out l.node-index l.end l.out;
  stands : l.at ≡ offset_of l.file l.first l.node-index;
}
