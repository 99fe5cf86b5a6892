-- `token_words::index::starts` meets its contract: `at` is the offset of keyword `k`, and those before it are written.
use Rattle.std.proofs.Common.{◌≡◌, length}
use Rattle.file_fields.specs.Offsets.{offset_of}
use Rattle.token_words.specs.InternalIndex.{Starts}
use Rattle.token_words.proofs.index.starts.Given as goal

abbrev pub invariant-loop-k : goal.invariant-loop-k
invariant-loop-k l = (length l.offsets ≡ 253) × (l.at ≡ offset_of l.file 4 l.k) × Starts l.file l.k l.offsets
