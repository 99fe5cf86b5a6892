-- The fields from an offset on, one by one.
use Prim.Native.Nat.{ℕ, zero, suc, ◌+◌, ◌<◌}
use mathlib.Core.Path.{◌≡◌, refl, ap, ◌∙◌}
use mathlib.Core.List.{List, [], ◌∷◌, ◌++◌, map}
use mathlib.Core.Logic.{⊎_elim}
use native.Mathlib.Nat.{eq-or-lt_of_le, le_of_suc-le-suc}
use native.Mathlib.Omega.{arith}
use native.Mathlib.Numerals.{add-one}
use lib.ListN.{length, get_or, drop, length-append, length-map, get_or-append}
use lib.Seq.{get_or_at}
use Rattle.file_fields.specs.Fields.{Field}
use Rattle.file_fields.specs.Offsets.{value_at, next_at, field_at, offset_of, fields_from, spellings_from}

-- There are as many as were asked for.
pub length_from : (file : List ℕ) (at k : ℕ) → length (fields_from file at k) ≡ k
unfolding fields_from
length_from file at zero = refl
length_from file at (suc k) = simp (length-append, length_from file at k) (omega arith)

-- One field more.
pub from_next : (file : List ℕ) (at k : ℕ) → fields_from file at (k + 1) ≡ fields_from file at k ++ (field_at file (offset_of file at k) ∷ [])
unfolding fields_from
from_next file at k = rw add-one refl

pub offset_next : (file : List ℕ) (at k : ℕ) → offset_of file at (k + 1) ≡ next_at file (offset_of file at k)
unfolding offset_of
offset_next file at k = rw add-one refl

-- The ith stands i fields on.
pub from_at : (file : List ℕ) (at k i : ℕ) (d : Field) → i < k → get_or (fields_from file at k) i d ≡ field_at file (offset_of file at i)
unfolding fields_from
from_at file at zero i d h = absurd (omega arith)
from_at file at (suc k) i d h =
    ⊎_elim
    (λ e. rw e (get_or_at (fields_from file at k) _ [] d k (length_from file at k)))
    (λ a. get_or-append (fields_from file at k) _ d i (rw (length_from file at k) a) ∙ from_at file at k i d a)
    (eq-or-lt_of_le (le_of_suc-le-suc h))

nothing : Field
nothing = record { tag = 0; value = [] }

default_map : {A : Type 0} (f : Field → A) (l : List Field) (i : ℕ) (e : Field) (d : A) → i < length l → get_or (map f l) i d ≡ f (get_or l i e)
default_map f [] i e d h = absurd (omega arith)
default_map f (x ∷ l) zero e d h = refl
default_map f (x ∷ l) (suc i) e d h = default_map f l i e d (omega arith)

-- What a function makes of each of them, in the order of the fields.
pub map_at : {A : Type 0} (f : Field → A) (file : List ℕ) (at k i : ℕ) (d : A) → i < k → get_or (map f (fields_from file at k)) i d ≡ f (field_at file (offset_of file at i))
map_at f file at k i d h =
    default_map f (fields_from file at k) i nothing d (rw (length_from file at k) h) ∙ ap f (from_at file at k i nothing h)

-- The spellings from an offset on.
pub length_spellings : (file : List ℕ) (at count skip : ℕ) → length (spellings_from file at count skip) ≡ count
unfolding spellings_from
length_spellings file at count skip = length-map (fields_from file at count) _ ∙ length_from file at count

pub spelling_from : (file : List ℕ) (at count skip i : ℕ) → i < count → get_or (spellings_from file at count skip) i [] ≡ drop skip (value_at file (offset_of file at i))
unfolding spellings_from
spelling_from file at count skip i h = map_at (λ f. drop skip f.value) file at count i [] h
