-- What the private functions of a whole scan promise one another. No public promise rests on this file.
use Rattle.std.specs.Prelude.{ℕ, ◌*◌, ◌≡◌, true, false, Result, Ok, Err, List, ◌++◌, length, drop}
use Rattle.file_fields.specs.Offsets.{keywords_from}
use Rattle.token_words.specs.Places.{places}
use Rattle.token_words.specs.Scan.{tokens, words_of, fails9}
use Rattle.table.specs.declared.refusals.Refusal.{Refusal}
use Rattle.table.specs.declared.refusals.Refusal.TheVariants.{Column}

-- What is measured of a report: how many tokens it has, or that the column of one is over the last.
abbrev pub Measured : List ℕ → Result ℕ Refusal → Type 0
Measured text (Ok n) = (n ≡ length (places text)) × (fails9 text ≡ false)
Measured text (Err r) = (r ≡ Column) × (fails9 text ≡ true)

-- The lent words behind a scan: those of the tokens, by the first keywords of a file, and the rest as before.
abbrev pub written : List ℕ → ℕ → List ℕ → List ℕ → List ℕ
written file count text old = words_of (tokens (keywords_from file count) text) ++ drop (length (places text) * 4) old
