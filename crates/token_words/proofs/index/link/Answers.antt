-- `token_words::index::link` meets its contract.
use Rattle.std.proofs.Common.{ℕ, refl, sym, subst, arith}
use lib.ListN.{length-set}
use Rattle.file_fields.specs.Offsets.{keywords_from}
use Rattle.scanner.proofs.KeywordLaws.{length_keywords}
use Rattle.token_words.specs.InternalIndex.{Linked}
use Rattle.token_words.proofs.IndexLaws.{linked_none, link_next}
use Rattle.token_words.proofs.index.link.Goals as goal

pub loop-k-init : goal.loop-k-init
loop-k-init c = (
  refl,
  linked_none (keywords_from c.args.file.now c.args.count) _ _ c.args.count (sym (length_keywords _ _)) c.requires.none
      (rw length_keywords c.requires.room),
)

pub loop-k-preserved : goal.loop-k-preserved
loop-k-preserved c = (
  simp length-set c.loop-k.invariant.0,
  link_next c.requires.starts (omega arith)
      (subst
      (λ (n : ℕ). Linked (keywords_from c.args.file.now c.args.count) n c.loop-k.firsts c.loop-k.nexts)
      (omega arith) c.loop-k.invariant.1)
      c.value_at.ensures c.key-x.ensures.value c.key-x.ensures.upper_bound,
)
