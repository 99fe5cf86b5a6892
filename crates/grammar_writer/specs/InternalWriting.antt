-- What the private functions that write a file ask of one another. No public promise rests on this file.
use Rattle.std.specs.Prelude.{ℕ, ◌<◌, ◌≡◌, List, length, ltb}
use Rattle.table.specs.Answer.{Answer, given, refuse_if}
use Rattle.table.specs.Form.{kind_of, relation_of, node_count}
use Rattle.table.specs.Checks.{fails3, fails4}
use Rattle.file_shape.specs.Contents.{contents, fields_of, fails5_with, file_answer}
use Rattle.file_shape.specs.Shape.{Parts}
use Rattle.file_shape.specs.declared.Shape.{Shape}
use Rattle.grammar_writer.specs.Written.{written_file, fails15}
use Rattle.grammar_writer.specs.declared.Grammar.{Grammar}

-- Kinds and relations fit a byte.
abbrev pub ByteWords : List ℕ → Type 0
ByteWords nodes = (n : ℕ) → n < node_count nodes → (kind_of nodes n < 256) × (relation_of nodes n < 256)

-- Numbers 3 to 5 of a table and its rules with a start.
unfoldable pub started_answer : (nodes rules : List ℕ) (node mode : ℕ) → Answer Unit
started_answer nodes rules node mode =
    refuse_if (fails3 nodes rules) 3 (refuse_if (fails4 nodes rules) 4 (refuse_if (fails5_with nodes rules node mode) 5 (given tt)))

-- Numbers 15 and 6, and the answer.
unfoldable pub lent_answer : (lending nodes rules : List ℕ) (node mode lent : ℕ) → Answer ℕ
lent_answer lending nodes rules node mode lent =
    refuse_if (fails15 lending rules) 15
    (refuse_if (ltb lent (length (written_file lending nodes rules node mode))) 6
    (given (length (written_file lending nodes rules node mode))))

-- A lending file, whose shape is known, and tables with a start that have passed.
pub record Lends (lending : List ℕ) (s : Shape) (nodes rules : List ℕ) (node mode : ℕ) : Type 0 where
  pub parts : Parts lending s
  pub lends : file_answer lending ≡ given (contents (fields_of lending))
  pub started : started_answer nodes rules node mode ≡ given tt

-- The same of what is written: the file, the answer of numbers 15 and 6, and that all before has passed.
abbrev pub file_of : Grammar → List ℕ
file_of g = written_file g.lending.now g.nodes.now g.rules.now g.node g.mode

abbrev pub answer_for : Grammar → ℕ → Answer ℕ
answer_for g lent = lent_answer g.lending.now g.nodes.now g.rules.now g.node g.mode lent

abbrev pub LendsFor : Grammar → Type 0
LendsFor g = Lends g.lending.now g.shape g.nodes.now g.rules.now g.node g.mode
