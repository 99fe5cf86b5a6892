-- Fields and their bytes, both ways round. The fields of fields' bytes are these fields, and the bytes of the fields of a file
-- are the file, where the file's numbers are bytes.
use Prim.Native.Nat.{ℕ, suc, ◌+◌, ◌/◌, ◌%◌, ◌≤◌, ◌<◌}
use mathlib.Core.Path.{◌≡◌, refl, sym, ap, ap₂, subst, ◌∙◌}
use mathlib.Core.Bool.{Bool, true, false, cond}
use mathlib.Core.List.{List, [], ◌∷◌, ◌++◌}
use mathlib.Core.Option.{Option, some, none}
use mathlib.Core.Logic.{⊎_elim}
use native.Mathlib.Omega.{arith}
use borrow.Author.Tests.{le-leb, leb-true, ltb-true}
use lib.ListN.{length, get_or, take, drop, length-append, take-append-drop, get_or-eq_default}
use lib.Seq.{take-append_seam, drop-append_seam, length-take-le, get_or-drop}
use lib.Dec.{leb, ltb}
use Rattle.table.specs.Words.{each_words}
use Rattle.table.proofs.Every.{every_at}
use Rattle.table.proofs.Orders.{le_or_lt}
use Rattle.file_fields.specs.Fields.{Field, two_bytes, before, first_field, fields}
use Rattle.file_fields.proofs.FieldLaws.{fields_none, fields_first}
use Rattle.grammar_writer.specs.FieldBytes.{number_bytes, field_bytes, bytes_of}
use Rattle.written_files.specs.Bytes.{are_bytes}

-- A number is its two bytes.
pub two_number : (n : ℕ) → two_bytes (n / 256) (n % 256) ≡ n
two_number n = omega arith

-- Two bytes are those of their number, where the lower is a byte.
pub number_two : (high low : ℕ) → low < 256 → number_bytes (two_bytes high low) ≡ high ∷ low ∷ []
number_two high low h =
    let p : two_bytes high low / 256 ≡ high = omega arith in
    let q : two_bytes high low % 256 ≡ low = omega arith in
    rw (p, q) refl

-- The first field, where its length is known to be that of a front part.
first_front :
    (t high low : ℕ) (v rest : List ℕ) (next : List ℕ → Option (List Field))
    → two_bytes high low ≡ length v
    → first_field (t ∷ high ∷ low ∷ (v ++ rest)) next ≡ before (record { tag = t; value = v }) (next rest)
unfolding first_field
first_front t high low v rest next e =
    rw (e, le-leb (length v) (length (v ++ rest)) (rw length-append (omega arith)), take-append_seam v rest, drop-append_seam v rest) refl

-- The fields of fields' bytes are these fields.
pub fields_back : (fs : List Field) → fields (bytes_of fs) ≡ some fs
unfolding each_words field_bytes
fields_back [] = fields_none
fields_back (f ∷ fs) =
    let n = length f.value in
    fields_first f.tag (n / 256 ∷ n % 256 ∷ (f.value ++ bytes_of fs))
    ∙ first_front f.tag (n / 256) (n % 256) f.value (bytes_of fs) fields (two_number n)
    ∙ ap (before f) (fields_back fs)

-- Each number of a list is a byte; there is none past its end, and 0 is one.
abbrev pub Bytes : List ℕ → Type 0
Bytes file = (i : ℕ) → get_or file i 0 < 256

-- A list of bytes, number by number.
pub each_byte : (file : List ℕ) → are_bytes file ≡ true → Bytes file
unfolding are_bytes
each_byte file e i =
    ⊎_elim
    (λ h. omega (arith, get_or-eq_default file 0 h))
    (λ h. ltb-true (get_or file i 0) 256 (every_at (length file) (λ i. ltb (get_or file i 0) 256) e i h))
    (le_or_lt (length file) i)

-- A file with a first field: the field's bytes and a rest.
record First (file : List ℕ) (f : Field) (fs : List Field) : Type 0 where
  rest : List ℕ
  split : field_bytes f ++ rest ≡ file
  bytes : Bytes rest
  others : fields rest ≡ some fs

-- A file by its fields: it is empty, or has a first field.
abbrev Starts : List ℕ → List Field → Type 0
Starts file [] = [] ≡ file
Starts file (f ∷ fs) = First file f fs

module _ (t high low : ℕ) (rest : List ℕ) (b : Bytes (t ∷ high ∷ low ∷ rest)) where
  abbrev n : ℕ
  n = two_bytes high low

  abbrev first : Field
  first = record { tag = t; value = take n rest }

  first_bytes : n ≤ length rest → field_bytes first ++ drop n rest ≡ t ∷ high ∷ low ∷ rest
  unfolding field_bytes
  first_bytes h =
      ap₂ (λ (k : ℕ) (l : List ℕ). t ∷ (number_bytes k ++ l)) (length-take-le n rest h) (take-append-drop n rest)
      ∙ ap (λ (l : List ℕ). t ∷ (l ++ rest)) (number_two high low (b 2))

  by_tests : (fs : List Field) (test : Bool) (o : Option (List Field)) → leb n (length rest) ≡ test → fields (drop n rest) ≡ o
      → cond test (before first o) none ≡ some fs → Starts (t ∷ high ∷ low ∷ rest) fs
  by_tests fs false o p q e = absurd (let z : ◌≡◌ {A = ℕ} 0 1 = cc in omega arith)
  by_tests fs true none p q e = absurd (let z : ◌≡◌ {A = ℕ} 0 1 = cc in omega arith)
  by_tests fs true (some gs) p q e =
      let k : first ∷ gs ≡ fs = cc in
      subst (Starts (t ∷ high ∷ low ∷ rest)) k
      (record {
        rest = drop n rest;
        split = first_bytes (leb-true n (length rest) p);
        bytes = λ i. rw get_or-drop (b (suc (suc (suc (n + i)))));
        others = q;
      })

-- What the fields of a list of bytes say of it.
starts : (file : List ℕ) → Bytes file → (fs : List Field) → fields file ≡ some fs → Starts file fs
unfolding first_field
starts [] b fs e = let n = sym fields_none ∙ e in let k : [] ≡ fs = cc in subst (Starts []) k refl
starts (t ∷ []) b fs e = absurd (let n = sym (fields_first t []) ∙ e in let z : ◌≡◌ {A = ℕ} 0 1 = cc in omega arith)
starts (t ∷ high ∷ []) b fs e = absurd (let n = sym (fields_first t (high ∷ [])) ∙ e in let z : ◌≡◌ {A = ℕ} 0 1 = cc in omega arith)
starts (t ∷ high ∷ low ∷ rest) b fs e =
    by_tests t high low rest b fs (leb (two_bytes high low) (length rest)) (fields (drop (two_bytes high low) rest)) refl refl
    (sym (fields_first t (high ∷ low ∷ rest)) ∙ e)

back : (fs : List Field) (file : List ℕ) → Bytes file → fields file ≡ some fs → bytes_of fs ≡ file
unfolding each_words
back [] file b e = starts file b [] e
back (f ∷ fs) file b e =
    let x = starts file b (f ∷ fs) e in
    ap (λ (l : List ℕ). field_bytes f ++ l) (back fs x.rest x.bytes x.others) ∙ x.split

-- The bytes of a file's fields are the file.
pub bytes_back : (file : List ℕ) (fs : List Field) → are_bytes file ≡ true → fields file ≡ some fs → bytes_of fs ≡ file
bytes_back file fs b e = back fs file (each_byte file b) e
