-- What the C interface reports of an answer: a number, and words in a lent array.
use Rattle.std.specs.Prelude.{ℕ, ◌+◌, ◌*◌, Bool, cond, List, [], ◌∷◌, ◌++◌, set, Result}
use Rattle.table.specs.Answer.{Answer, given, refused, refused_at}
use Rattle.refusal_numbers.specs.declared.Told.{Told}
use Rattle.refusal_numbers.specs.Numbers.{answered_by}
use Rattle.columns.specs.Intervals.{to}
use Rattle.columns.specs.declared.Upper.{Upper}
use Rattle.columns.specs.declared.Upper.TheVariants.{At, Endless}
use Rattle.columns.specs.declared.Interval.{Interval}
use Rattle.columns.specs.declared.Start.{Start}
use Rattle.columns.specs.declared.Capture.{Capture}
use Rattle.grammar_file.specs.File.{Contents}
use Rattle.clauses.specs.Clauses.{success, failure}
use Rattle.clauses.specs.RunAnswer.{Ended, Reads}
use Rattle.clauses.specs.ListAnswer.{Listing}
use Rattle.shown_text.specs.Shown.{Part, in_report, in_file}

-- The number: 0 where the call passes every check, else that of the first it fails, and 65,536 times the node with it.
abbrev pub number : {A : Type 0} → Answer A → ℕ
number (given a) = 0
number (refused n) = n
number (refused_at n node) = n + 65536 * node

-- The lent words afterwards: those of the value, which has as many; a refused call leaves them as they were.
abbrev pub reported : {A : Type 0} → (A → List ℕ) → Answer A → List ℕ → List ℕ
reported words (given a) before = words a
reported words (refused n) before = before
reported words (refused_at n node) before = before

-- "A read answers the counts of nodes, rules and keywords and the start", node and mode: five words.
abbrev pub contents_words : Contents → List ℕ
contents_words c = c.nodes ∷ c.rules ∷ c.keywords ∷ c.start ∷ c.mode ∷ []

-- What a scan or a write answers: a number of tokens or of bytes.
abbrev pub count_numbers : {E : Type 0} → (E → Told) → Result ℕ E → Answer ℕ
count_numbers told = answered_by told (λ n. n)

-- The number of tokens of a scan, or of bytes of a written file: one word.
abbrev pub count_words : ℕ → List ℕ
count_words n = n ∷ []

-- A truth value as a word.
abbrev pub bit : Bool → ℕ
bit b = cond b 1 0

-- An upper end: the column and 0, or 0 and 1 where it is without end.
abbrev pub upper_words : Upper → List ℕ
upper_words (At h) = h ∷ 0 ∷ []
upper_words Endless = 0 ∷ 1 ∷ []

-- Success, seven words: 1, the tokens read, the lower end, the two of the upper end, the flag, the farthest place.
abbrev pub success_words : (read : ℕ) → Interval → Bool → (farthest : ℕ) → List ℕ
success_words read c flag farthest = 1 ∷ read ∷ c.lower ∷ (upper_words c.upper ++ (bit flag ∷ farthest ∷ []))

-- Failure: 0 in the first, the farthest place in the seventh, and the others as they were.
abbrev pub failure_words : List ℕ → (farthest : ℕ) → List ℕ
failure_words before farthest = set (set before 0 0) 6 farthest

-- The lent words before and after a run from a place: those of a success, which has read from the place on to its end place,
-- or of a failure; as they were for a refused call.
pub data RunReported (place : ℕ) (before : List ℕ) : Answer Ended → List ℕ → Type 0 where
  of_success : {read end farthest : ℕ} {c : Interval} {flag : Bool} → Reads place read end
      → RunReported place before (given (record { outcome = success (end, c, flag); farthest = farthest }))
      (success_words read c flag farthest)
  of_failure : {farthest : ℕ}
      → RunReported place before (given (record { outcome = failure; farthest = farthest })) (failure_words before farthest)
  of_refused : {n : ℕ} → RunReported place before (refused n) before
  of_refused_at : {n node : ℕ} → RunReported place before (refused_at n node) before

-- The same for a run that lists: a success has an eighth word, the number of captures.
pub data ListReported (place : ℕ) (before : List ℕ) : Answer Listing → List ℕ → Type 0 where
  list_success : {read end farthest count : ℕ} {c : Interval} {flag : Bool} → Reads place read end
      → ListReported place before
      (given (record { ended = record { outcome = success (end, c, flag); farthest = farthest }; count = count }))
      (success_words read c flag farthest ++ (count ∷ []))
  list_failure : {farthest : ℕ}
      → ListReported place before (given (record { ended = record { outcome = failure; farthest = farthest }; count = 0 }))
      (failure_words before farthest)
  list_refused : {n : ℕ} → ListReported place before (refused n) before
  list_refused_at : {n node : ℕ} → ListReported place before (refused_at n node) before

-- Where a shown text lies, three words: its offset, its length, and 0 for the report or 1 for the grammar file.
abbrev pub part_words : Part → List ℕ
part_words (in_report offset length) = offset ∷ length ∷ 0 ∷ []
part_words (in_file offset length) = offset ∷ length ∷ 1 ∷ []

-- The upper end of plain values: a column, unless it is without end.
abbrev pub upper_from : ℕ → Bool → Upper
upper_from upper endless = cond endless Endless (At upper)

-- The start of plain values.
abbrev pub start_from : (node place lower upper : ℕ) (endless flag : Bool) (mode : ℕ) → Start
start_from node place lower upper endless flag mode =
    record { node = node; place = place; interval = to lower (upper_from upper endless); flag = flag; mode = mode }

-- The capture of plain values.
abbrev pub capture_from : (rule first after around : ℕ) → Capture
capture_from rule first after around = record { rule = rule; first = first; after = after; around = around }
