-- What the writer answers, check by check, and what the lent bytes hold afterwards.
use Prim.Native.Nat.{ℕ, ◌≤◌, ◌<◌}
use mathlib.Core.Path.{◌≡◌, refl, sym, ap}
use mathlib.Core.Bool.{Bool, true, false}
use mathlib.Core.List.{List}
use borrow.Author.Tests.{eq-eqb, ne_eqb, le-ltb, lt-ltb}
use lib.ListN.{length}
use Rattle.table.specs.Answer.{Answer, given, refused, refuse_if, and_then}
use Rattle.table.specs.Refusals.{turned_down}
use Rattle.table.specs.declared.refusals.Refusal.{Refusal}
use Rattle.table.specs.Checks.{fails3, fails4}
use Rattle.file_shape.specs.Contents.{fails5_with, file_answer}
use Rattle.file_shape.specs.declared.Contents.{Contents}
use Rattle.file_shape.specs.declared.Shape.{Shape}
use Rattle.file_shape.proofs.PartLaws.{rule_count}
use Rattle.grammar_writer.specs.Written.{written_file, fails15, write_answer}
use Rattle.grammar_writer.specs.InternalWriting.{started_answer, lent_answer, Lends}
use Rattle.table.proofs.AnswerLaws.{turned_first}

-- Three checks in a row, and then what comes behind them.
three_more : (a b c : Bool) (next : Answer ℕ) → refuse_if a 3 (refuse_if b 4 (refuse_if c 5 next)) ≡ and_then {B = Unit} (refuse_if a 3 (refuse_if b 4 (refuse_if c 5 (given tt)))) next
three_more true b c next = refl
three_more false true c next = refl
three_more false false true next = refl
three_more false false false next = refl

module _ (lending nodes rules : List ℕ) (node mode lent : ℕ) where
  -- The lending file, then the tables and the start, then numbers 15 and 6.
  in_turn :
      write_answer lending nodes rules node mode lent
      ≡ and_then (file_answer lending) (and_then (started_answer nodes rules node mode) (lent_answer lending nodes rules node mode lent))
  unfolding write_answer started_answer lent_answer
  in_turn = ap (and_then (file_answer lending)) (three_more (fails3 nodes rules) (fails4 nodes rules) (fails5_with nodes rules node mode) _)

  -- The lending file is refused.
  pub lending_refuses : (e : Refusal) → file_answer lending ≡ turned_down e → turned_down e ≡ write_answer lending nodes rules node mode lent
  lending_refuses e h = sym (rw (in_turn, h) (turned_first Contents e _))

  module _ {x : Contents} (lends : file_answer lending ≡ given x) where
    -- The tables or the start are refused.
    pub tables_refuse : (e : Refusal) → turned_down e ≡ started_answer nodes rules node mode → turned_down e ≡ write_answer lending nodes rules node mode lent
    tables_refuse e h = sym (rw (in_turn, lends, ← h) (turned_first Unit e _))

    -- All of these pass.
    pub then_lent : given tt ≡ started_answer nodes rules node mode → lent_answer lending nodes rules node mode lent ≡ write_answer lending nodes rules node mode lent
    then_lent h = sym (rw (in_turn, lends, ← h) refl)

-- Numbers 15 and 6.
module _ {lending nodes rules : List ℕ} {s : Shape} {node mode : ℕ} (h : Lends lending s nodes rules node mode) (lent : ℕ) where
  pub other_count : (length rules ≡ s.rules.count → ⊥) → refused 15 ≡ lent_answer lending nodes rules node mode lent
  unfolding lent_answer fails15
  other_count k = rw (rule_count lending s h.parts, ne_eqb (length rules) s.rules.count k) refl

  module _ (e : length rules ≡ s.rules.count) where
    pub no_room : lent < length (written_file lending nodes rules node mode) → refused 6 ≡ lent_answer lending nodes rules node mode lent
    unfolding lent_answer fails15
    no_room k = rw (rule_count lending s h.parts, eq-eqb (length rules) s.rules.count e, lt-ltb lent (length (written_file lending nodes rules node mode)) k) refl

    pub enough : length (written_file lending nodes rules node mode) ≤ lent
        → given (length (written_file lending nodes rules node mode)) ≡ lent_answer lending nodes rules node mode lent
    unfolding lent_answer fails15
    enough k = rw (rule_count lending s h.parts, eq-eqb (length rules) s.rules.count e, le-ltb lent (length (written_file lending nodes rules node mode)) k) refl
