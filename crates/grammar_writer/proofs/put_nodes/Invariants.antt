-- `grammar_writer::put_nodes` meets its contract: the nodes so far stand there.
use Rattle.grammar_writer.proofs.PutLaws.{Put}
use Rattle.grammar_writer.proofs.SectionLaws.{node_of}
use Rattle.grammar_writer.proofs.put_nodes.Given as goal

abbrev pub invariant-loop-n : goal.invariant-loop-n
invariant-loop-n l = Put (node_of l.nodes) l.to l.initial.out l.n l.end l.out
