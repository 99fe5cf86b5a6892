-- `grammar_writer::put_nodes` meets its contract.
use Rattle.std.proofs.Common.{ℕ, ◌+◌, ◌*◌, List, get_or, ◌≡◌, refl, ap, ◌∙◌, arith}
use Rattle.table.specs.Form.{node_count}
use Rattle.grammar_writer.proofs.PutLaws.{put_starts}
use Rattle.grammar_writer.proofs.SectionLaws.{next_node, two_bytes_are}
use Rattle.grammar_writer.proofs.put_nodes.Goals as goal

pub loop-n-init : goal.loop-n-init
loop-n-init c = put_starts _ _ _

pub overflow_cast-head : goal.overflow_cast-head
overflow_cast-head c = record { fits = (c.requires.byte_words c.loop-n.n c.loop-n-test.true).0 }

pub overflow_cast-tail : goal.overflow_cast-tail
overflow_cast-tail c = record { fits = (c.requires.byte_words c.loop-n.n c.loop-n-test.true).1 }

pub put_field-end-requires : goal.put_field-end-requires
put_field-end-requires c =
    let a = c.to_be_bytes.ensures ∙ two_bytes_are _ (omega (arith, c.type_inv.nodes (c.loop-n.n * 4 + 1))) in
    let b = c.to_be_bytes-in-loop-n.ensures ∙ two_bytes_are _ (omega (arith, c.type_inv.nodes (c.loop-n.n * 4 + 2))) in
    let next = next_node c.args.nodes.now c.loop-n.n c.requires.nodes_in_bounds c.loop-n.invariant c.loop-n-test.true
    (ap (λ (l : List ℕ). get_or l 0 0) a) (ap (λ (l : List ℕ). get_or l 1 0) a) (ap (λ (l : List ℕ). get_or l 0 0) b) (ap (λ (l : List ℕ). get_or l 1 0) b) in
    record { tail_len_bound = next.asks.0; tail_in_bounds = next.asks.1 }

pub loop-n-preserved : goal.loop-n-preserved
loop-n-preserved c =
    let a = c.to_be_bytes.ensures ∙ two_bytes_are _ (omega (arith, c.type_inv.nodes (c.loop-n.n * 4 + 1))) in
    let b = c.to_be_bytes-in-loop-n.ensures ∙ two_bytes_are _ (omega (arith, c.type_inv.nodes (c.loop-n.n * 4 + 2))) in
    let next = next_node c.args.nodes.now c.loop-n.n c.requires.nodes_in_bounds c.loop-n.invariant c.loop-n-test.true
    (ap (λ (l : List ℕ). get_or l 0 0) a) (ap (λ (l : List ℕ). get_or l 1 0) a) (ap (λ (l : List ℕ). get_or l 0 0) b) (ap (λ (l : List ℕ). get_or l 1 0) b) in
    next.puts c.put_field-end.ensures.value c.put_field-end.ensures.out_after

pub returns : goal.returns
returns c =
    let all : c.loop-n.n ≡ node_count c.args.nodes.now = omega arith in
    record {
      value = c.loop-n.invariant.ends ∙ rw all refl;
      out_after = c.loop-n.invariant.stands ∙ rw all refl;
    }
