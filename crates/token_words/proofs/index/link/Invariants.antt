-- `token_words::index::link` meets its contract: the keywords from `k` on are linked.
use Rattle.std.proofs.Common.{◌≡◌, length}
use Rattle.file_fields.specs.Offsets.{keywords_from}
use Rattle.token_words.specs.InternalIndex.{Linked}
use Rattle.token_words.proofs.index.link.Given as goal

abbrev pub invariant-loop-k : goal.invariant-loop-k
invariant-loop-k l = (length l.nexts ≡ length l.initial.nexts) × Linked (keywords_from l.file l.count) l.k l.firsts l.nexts
