-- `Index::terminal` meets its contract.
use Rattle.std.proofs.Common.{sym, ◌∙◌, arith}
use Rattle.token_words.proofs.IndexLaws.{search_start, search_inside, search_here, search_less, search_next}
use Rattle.token_words.proofs.index.Index.terminal.Goals as goal

pub loop-next-init : goal.loop-next-init
loop-next-init c = search_start c.args.self.now.indexed c.args.s.now c.key.ensures.value c.key.ensures.upper_bound

pub bounds-self-from : goal.bounds-self-from
bounds-self-from c =
    omega (
      arith,
      c.from.ensures,
      search_inside c.args.self.now.indexed c.args.s.now c.loop-next.invariant c.in-Some.is,
      c.args.self.now.indexed.starts.room,
    )

pub returns-then-same : goal.returns-then-same
returns-then-same c =
    c.keyword_terminal.ensures
    ∙ sym
    (search_here c.args.self.now.indexed c.args.s.now c.loop-next.invariant c.in-Some.is (rw c.from.ensures at c.value_at.ensures)
    (sym c.if-same.true ∙ c.same.ensures))

pub loop-next-smaller : goal.loop-next-smaller
loop-next-smaller c =
    rw c.from-in-Some.ensures (search_less c.args.self.now.indexed c.args.s.now c.loop-next.invariant c.in-Some.is)

pub loop-next-preserved : goal.loop-next-preserved
loop-next-preserved c =
    rw c.from-in-Some.ensures
    (search_next c.args.self.now.indexed c.args.s.now c.loop-next.invariant c.in-Some.is (rw c.from.ensures at c.value_at.ensures)
    c.same.ensures c.if-same.false)
