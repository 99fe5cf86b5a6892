-- `stored_cases::load` meets its contract.
use Rattle.std.proofs.Common.{rules, ◌≡◌, ◌*◌, ◌+◌, ◌∙◌, ap, drop, arith}
use Rattle.std.proofs.lemmas.List.{drop-drop}
use Rattle.stored_cases.proofs.Laws.{written_none, written_more, written_all}
use Rattle.stored_cases.proofs.load.Goals as goal

pub loop-word-init : goal.loop-word-init
loop-word-init g c = record { words = written_none _ _; rest = search rules }

pub loop-word-preserved : goal.loop-word-preserved
loop-word-preserved g c =
    let at = c.loop-word.word-index * g.W.Word.SIZE in
    let e : c.read.result ≡ g.W.Word.word_at c.args.bytes.now at =
    c.read.ensures ∙ ap (λ b. g.W.Word.word_at b 0) c.loop-word.invariant.rest ∙ g.met.W.Word.from_rest c.args.bytes.now at in
    let next : at + g.W.Word.SIZE ≡ (c.loop-word.word-index + 1) * g.W.Word.SIZE = omega arith in
    record {
      words = written_more c.loop-word.invariant.words (omega arith) e;
      rest =
          c.rest_of-rest.ensures
          ∙ ap (λ n. drop n c.loop-word.rest.now) c.SIZE.ensures
          ∙ ap (drop g.W.Word.SIZE) c.loop-word.invariant.rest
          ∙ drop-drop g.W.Word.SIZE at c.args.bytes.now
          ∙ ap (λ k. drop k c.args.bytes.now) next;
    }

pub returns : goal.returns
returns g c = written_all c.loop-word.invariant.words (omega arith)
