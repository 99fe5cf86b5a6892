-- Outcomes remembered in a lent slice (02, Note 8): the words of a slot, where it stands, what is found there and what is kept.
-- The layout is a choice of ours; docs/BENCHMARKS.md has the figures.
use Rattle.std.specs.Prelude.{ℕ, suc, ◌+◌, ◌*◌, ◌/◌, ◌%◌, Bool, true, cond, ◌&&◌, Option, Some, None, List, [], ◌∷◌, ◌++◌, length, get_or, set, eqb, ltb}
use Rattle.columns.specs.declared.Upper.{Upper}
use Rattle.columns.specs.declared.Upper.TheVariants.{At, Endless}
use Rattle.columns.specs.declared.Interval.{Interval}
use Rattle.columns.specs.declared.Outcome.{Outcome}
use Rattle.columns.specs.declared.Outcome.TheVariants.{Success, Failure}

-- The words of a slot: six for what an outcome hangs on, six for the outcome.
abbrev pub slot_length : ℕ
slot_length = 12

-- An upper end as a word; 0 if there is none.
abbrev pub end_word : Upper → ℕ
end_word (At h) = h
end_word Endless = 0

-- The flag and whether there is no upper end, as one word.
abbrev pub marks : Bool → Upper → ℕ
marks b (At h) = cond b 1 0
marks b Endless = cond b 3 2

-- What an outcome hangs on: the node, the mode, the place, the flag, and both ends of the interval.
abbrev pub key_words : ℕ → ℕ → ℕ → Interval → Bool → List ℕ
key_words n τ w I b = n ∷ τ ∷ w ∷ marks b I.upper ∷ I.lower ∷ end_word I.upper ∷ []

-- An outcome: 1 for a failure or 2 for a success, the farthest place of what was tried inside, and a success's state.
abbrev pub outcome_words : Outcome → List ℕ
outcome_words (Failure farthest) = 1 ∷ farthest ∷ []
outcome_words (Success u) =
    2 ∷ u.farthest ∷ u.place ∷ marks u.flag u.interval.upper ∷ u.interval.lower ∷ end_word u.interval.upper ∷ []

-- Where the slot for a key begins: a weighted sum of its words, so that keys that differ by little have slots of their own.
unfoldable pub slot_of : List ℕ → ℕ → ℕ → ℕ → Interval → Bool → ℕ
slot_of memory n τ w I b =
    ((n + τ * 613 + w * 3877 + marks b I.upper * 257 + I.lower * 7919 + end_word I.upper * 31337)
    % (length memory / slot_length)) * slot_length

-- Words put into a list from an index on, and whether they stand there.
unfoldable pub put_words : List ℕ → ℕ → List ℕ → List ℕ
put_words memory i [] = memory
put_words memory i (x ∷ xs) = put_words (set memory i x) (suc i) xs

unfoldable pub has_words : List ℕ → ℕ → List ℕ → Bool
has_words memory i [] = true
has_words memory i (x ∷ xs) = eqb (get_or memory i 0) x && has_words memory (suc i) xs

-- Whether the slot at i is kept for a key.
unfoldable pub kept_for : List ℕ → ℕ → ℕ → ℕ → ℕ → Interval → Bool → Bool
kept_for memory i n τ w I b = has_words memory i (key_words n τ w I b)

-- The upper end and the flag that words stand for.
abbrev pub upper_from : ℕ → ℕ → Upper
upper_from k h = cond (ltb k 2) (At h) Endless

abbrev pub flag_from : ℕ → Bool
flag_from k = eqb (k % 2) 1

-- The outcome in the slot at i; in a slot of zeros there is none.
unfoldable pub outcome_at : List ℕ → ℕ → Option Outcome
outcome_at memory i =
    cond (eqb (get_or memory (i + 6) 0) 0) None
    (cond (eqb (get_or memory (i + 6) 0) 1) (Some (Failure (get_or memory (i + 7) 0)))
    (Some
    (Success
    (record {
      place = get_or memory (i + 8) 0;
      farthest = get_or memory (i + 7) 0;
      interval =
          record {
            lower = get_or memory (i + 10) 0;
            upper = upper_from (get_or memory (i + 9) 0) (get_or memory (i + 11) 0);
          };
      flag = flag_from (get_or memory (i + 9) 0);
    }))))

-- What is found for a node n in mode τ at place w, with interval I and flag b.
unfoldable pub recalled : List ℕ → ℕ → ℕ → ℕ → Interval → Bool → Option Outcome
recalled memory n τ w I b =
    cond (ltb (length memory) slot_length) None
    (cond (kept_for memory (slot_of memory n τ w I b) n τ w I b) (outcome_at memory (slot_of memory n τ w I b)) None)

-- The slice once an outcome is kept.
unfoldable pub kept : List ℕ → ℕ → ℕ → ℕ → Interval → Bool → Outcome → List ℕ
kept memory n τ w I b x =
    cond (ltb (length memory) slot_length) memory
    (put_words memory (slot_of memory n τ w I b) (key_words n τ w I b ++ outcome_words x))
