-- `grammar_writer::put_keywords` meets its contract: the keywords so far stand there.
use Rattle.std.proofs.Common.{◌≡◌}
use Rattle.file_fields.specs.Offsets.{offset_of, spellings_from}
use Rattle.grammar_writer.proofs.PutLaws.{Put}
use Rattle.grammar_writer.proofs.SectionLaws.{keyword_of}
use Rattle.grammar_writer.proofs.put_keywords.Given as goal

abbrev pub invariant-loop : goal.invariant-loop
invariant-loop l = record {
  put : Put (keyword_of (spellings_from l.file 4 l.count 0)) l.to l.initial.out l.counter l.end l.out;
  stands : l.at ≡ offset_of l.file 4 l.counter;
}
