-- `scanner::terminals::terminal` meets its contract. The loop's invariant: `at` is the offset of keyword `k`, and
-- the keywords from it on decide.
use Rattle.std.proofs.Common.{◌≡◌, drop}
use Rattle.file_fields.specs.Offsets.{offset_of, keywords_from}
use Rattle.scanner.specs.Tokens.{terminal_from}
use Rattle.scanner.proofs.terminals.terminal.Given as goal

abbrev pub invariant-loop-k : goal.invariant-loop-k
invariant-loop-k l =
    (l.at ≡ offset_of l.file 4 l.k)
    × (terminal_from 0 (keywords_from l.file l.count) l.s ≡ terminal_from l.k (drop l.k (keywords_from l.file l.count)) l.s)
