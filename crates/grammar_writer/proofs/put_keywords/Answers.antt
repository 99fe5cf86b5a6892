-- `grammar_writer::put_keywords` meets its contract.
use Rattle.std.proofs.Common.{◌≡◌, length, refl, ◌∙◌, arith}
use Rattle.file_fields.specs.Offsets.{offset_of, spellings_from}
use Rattle.file_fields.proofs.Offsets.{length_spellings}
use Rattle.file_tables.proofs.TableLaws.{offset_stepped}
use Rattle.grammar_writer.proofs.PutLaws.{put_starts}
use Rattle.grammar_writer.proofs.SectionLaws.{next_keyword}
use Rattle.grammar_writer.proofs.put_keywords.Goals as goal

pub loop-init : goal.loop-init
unfolding offset_of
loop-init c = record { put = put_starts _ _ _; stands = refl }

pub put_field-end-requires : goal.put_field-end-requires
put_field-end-requires c =
    let next = next_keyword c.args.file.now c.args.count _ c.requires.count_value c.requires.count_in_bounds c.loop.invariant.put
    c.loop-test.true c.loop.invariant.stands c.spelling_at.ensures in
    record { tail_len_bound = next.asks.0; tail_in_bounds = next.asks.1 }

pub loop-preserved : goal.loop-preserved
loop-preserved c =
    let next = next_keyword c.args.file.now c.args.count _ c.requires.count_value c.requires.count_in_bounds c.loop.invariant.put
    c.loop-test.true c.loop.invariant.stands c.spelling_at.ensures in
    record {
      put = next.puts c.put_field-end.ensures.value c.put_field-end.ensures.out_after;
      stands = offset_stepped _ _ _ c.next_at-at.ensures c.loop.invariant.stands;
    }

pub returns : goal.returns
returns c =
    let all : c.loop.counter ≡ length (spellings_from c.args.file.now 4 c.args.count 0) = omega (arith, length_spellings c.args.file.now 4 c.args.count 0) in
    record {
      value = c.loop.invariant.put.ends ∙ rw all refl;
      out_after = c.loop.invariant.put.stands ∙ rw all refl;
    }
