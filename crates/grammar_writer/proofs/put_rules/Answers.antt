-- `grammar_writer::put_rules` meets its contract.
use Rattle.std.proofs.Common.{◌≡◌, length, refl, ◌∙◌, arith}
use Rattle.file_fields.specs.Offsets.{offset_of}
use Rattle.file_tables.proofs.TableLaws.{offset_stepped}
use Rattle.grammar_writer.proofs.PutLaws.{put_starts}
use Rattle.grammar_writer.proofs.SectionLaws.{next_rule, two_bytes_are}
use Rattle.grammar_writer.proofs.put_rules.Goals as goal

pub loop-node-init : goal.loop-node-init
unfolding offset_of
loop-node-init c = record { put = put_starts _ _ _; stands = refl }

pub put_field-end-requires : goal.put_field-end-requires
put_field-end-requires c =
    let next = next_rule c.args.file.now c.args.first c.args.rules.now _ c.requires.rules_value c.requires.rules_in_bounds c.loop-node.invariant.put
    c.loop-node-test.true c.loop-node.invariant.stands c.spelling_at.ensures (c.to_be_bytes-node_bytes.ensures ∙ two_bytes_are _ (omega (arith, c.type_inv.rules c.loop-node.node-index))) in
    record { tail_len_bound = next.asks.0; tail_in_bounds = next.asks.1 }

pub loop-node-preserved : goal.loop-node-preserved
loop-node-preserved c =
    let next = next_rule c.args.file.now c.args.first c.args.rules.now _ c.requires.rules_value c.requires.rules_in_bounds c.loop-node.invariant.put
    c.loop-node-test.true c.loop-node.invariant.stands c.spelling_at.ensures (c.to_be_bytes-node_bytes.ensures ∙ two_bytes_are _ (omega (arith, c.type_inv.rules c.loop-node.node-index))) in
    record {
      put = next.puts c.put_field-end.ensures.value c.put_field-end.ensures.out_after;
      stands = offset_stepped _ _ _ c.next_at-at.ensures c.loop-node.invariant.stands;
    }

pub returns : goal.returns
returns c =
    let all : c.loop-node.node-index ≡ length c.args.rules.now = omega arith in
    record {
      value = c.loop-node.invariant.put.ends ∙ rw all refl;
      out_after = c.loop-node.invariant.put.stands ∙ rw all refl;
    }
