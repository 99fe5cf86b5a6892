-- `grammar_writer::put_field` meets its contract.
use Rattle.std.proofs.Common.{ℕ, List, get_or, ap, ◌∙◌, arith}
use Rattle.slices.specs.Copied.{placed}
use Rattle.grammar_writer.proofs.PutLaws.{length_field, field_put}
use Rattle.grammar_writer.proofs.SectionLaws.{two_bytes_are}
use Rattle.grammar_writer.proofs.put_field.Goals as goal

pub returns : goal.returns
returns c =
    record {
      value = omega (arith, length_field c.args.tag c.args.head.now c.args.tail.now);
      out_after = c.put-3.ensures
          ∙ ap (placed _ c.args.tail.now) (c.put-2.ensures ∙ ap (placed _ c.args.head.now) c.put.ensures)
          ∙ field_put c.args.tag c.args.head.now c.args.tail.now
          (ap (λ (l : List ℕ). get_or l 0 0) (c.to_be_bytes.ensures ∙ two_bytes_are _ c.requires.tail_len_bound))
          (ap (λ (l : List ℕ). get_or l 1 0) (c.to_be_bytes.ensures ∙ two_bytes_are _ c.requires.tail_len_bound))
          c.args.to c.args.out.now (omega arith);
    }
