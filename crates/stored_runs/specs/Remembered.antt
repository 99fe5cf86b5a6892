-- Words lent to remember in, before a stored run and after it.
use Rattle.std.specs.Prelude.{ℕ, zero, suc, ◌%◌, ◌≡◌, Result, Bool, true, ◌&&◌, List, [], ◌∷◌, get_or, eqb}
use Rattle.columns.specs.declared.Start.{Start}
use Rattle.columns.specs.declared.Reading.{Reading}
use Rattle.interpreter.specs.declared.Ran.{Ran}
use Rattle.table.specs.declared.refusals.Refusal.{Refusal}
use Rattle.clauses.specs.Remembering.{memory_after}
use Rattle.stored_cases.specs.Numbers.{pairs}
use Rattle.stored_runs.specs.Runs.{Answers}

-- Twelve words again and again.
unfoldable pub slot_word : ℕ → ℕ → ℕ → ℕ
slot_word outcome node i =
    get_or (node ∷ 0 ∷ 0 ∷ 2 ∷ 0 ∷ 0 ∷ outcome ∷ 0 ∷ 0 ∷ 2 ∷ 0 ∷ 0 ∷ []) (i % 12) 0

-- What a word holds, by the number of the contents, a node and its index.
unfoldable pub lent_word : ℕ → ℕ → ℕ → ℕ
lent_word zero node i = 0
lent_word (suc zero) node i = 4294967295
lent_word (suc (suc zero)) node i = i % 512
lent_word (suc (suc (suc zero))) node i = slot_word 1 node i
lent_word (suc (suc (suc (suc n)))) node i = slot_word 2 node i

-- Whether the words are what a function gives of the indices, from one on.
unfoldable pub holds : (ℕ → ℕ) → ℕ → List ℕ → Bool
holds f i [] = true
holds f i (x ∷ xs) = eqb x (f i) && holds f (suc i) xs

-- A run answered what it is to answer, and left the words as it is to.
pub record Remembers (reading : Reading) (nodes rules tokens : List ℕ) (start : Start) (before : List ℕ) (ran : Result Ran Refusal)
    (after : List ℕ) : Type 0 where
  pub answers : Answers reading nodes rules tokens start ran
  pub left : after ≡ memory_after reading nodes rules tokens start before

-- The same of stored bytes, of at most 2,100 node words and 200 rule words.
abbrev pub StoredRemembers : Reading → List ℕ → List ℕ → List ℕ → Start → List ℕ → Result Ran Refusal → List ℕ → Type 0
StoredRemembers reading nodes rules tokens start before ran after =
    Remembers reading (pairs 2100 nodes) (pairs 200 rules) tokens start before ran after
