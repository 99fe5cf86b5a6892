-- The captures of a scan and a run of one report and one file are never refused by a shown text (02, Note 2).
use Prim.Native.Nat.{ℕ}
use mathlib.Core.Path.{◌≡◌}
use mathlib.Core.List.{List}
use native.Mathlib.Omega.{arith}
use Rattle.table.specs.Answer.{given}
use Rattle.columns.specs.declared.Capture.{Capture}
use Rattle.columns.specs.declared.Start.{Start}
use Rattle.columns.specs.declared.Reading.{Reading}
use Rattle.grammar_file.specs.File.{fields_of, node_table, rule_list}
use Rattle.token_words.specs.Scan.{words_of, scan_tokens, scan_answer}
use Rattle.clauses.specs.ListAnswer.{our_captures, Listing, list_answer}
use Rattle.theorems.proofs.CapturesInside.{All, all_by, listing_inside}
use Rattle.shown_text.specs.Shown.{part_shown, shown_answer}
use Rattle.shown_scans.proofs.ScansShown.{always_shown, scan_count}

-- Where a scan answers, and a run that lists the file's grammar on its tokens does, from any start by
-- either reading: every capture has its text.
module _ (file report : List ℕ) (lent n : ℕ) (scanned : given n ≡ scan_answer file report lent) (reading : Reading) (start : Start) (room : ℕ) (x : Listing)
    (listed : list_answer reading (node_table (fields_of file)) (rule_list (fields_of file)) (words_of (scan_tokens file report)) start room ≡ given x) where
  abbrev Shows : Capture → Type 0
  Shows c = given (part_shown (fields_of file) (words_of (scan_tokens file report)) c) ≡ shown_answer file report (words_of (scan_tokens file report)) c

  pub captures_shown : All Shows (our_captures reading (node_table (fields_of file)) (rule_list (fields_of file)) (words_of (scan_tokens file report)) start)
  captures_shown =
      all_by
      (λ (c : Capture) b.
      always_shown file report lent n scanned c b.rule_there b.order (omega (arith, b.upto, scan_count file report lent n scanned c)))
      (listing_inside reading (node_table (fields_of file)) (rule_list (fields_of file)) (words_of (scan_tokens file report)) start room x listed)
