-- A file's fields are its runs: what number 1 asks of a file, and the fields of each tag by offset.
use Prim.Native.Nat.{ℕ, zero, suc, ◌+◌, ◌≤◌, ◌<◌}
use mathlib.Core.Path.{◌≡◌, refl, sym, ap, ap₂, ◌∙◌}
use mathlib.Core.Bool.{Bool, true, false, cond, not, ◌&&◌, ◌||◌, and-false, and_assoc, or-true, true≢false, false≢true}
use mathlib.Core.List.{List, [], ◌∷◌, ◌++◌, append-nil}
use mathlib.Core.Option
use mathlib.Core.Option.{Option, some, none, map}
use mathlib.Core.Logic.{⊎_elim}
use native.Mathlib.Nat.{le_of_eq}
use native.Mathlib.Omega.{arith}
use borrow.Author.Tests.{le-leb, lt-leb, le-ltb, lt-ltb, eq-eqb, ne_eqb, leb-true, eqb-true}
use lib.ListN.{length, get_or, drop, length-map, drop_of_length-le}
use lib.Seq.{append_snoc, get_or-take, get_or-drop}
use lib.Dec.{leb, ltb, eqb}
use Rattle.table.proofs.Every.{and_left, and_right}
use Rattle.file_fields.specs.Fields.{Field, before, fields, later_tags, in_order, tagged, right_length}
use Rattle.file_shape.specs.Contents.{most_bytes, most_keywords, right_value, right_values, keywords, fields_of, unreadable, fails1}
use Rattle.file_fields.specs.Offsets.{length_at, value_at, next_at, field_at, offset_of, fields_from, right_at}
use Rattle.file_shape.specs.InternalShape.{framed_by, LongestRun}
use Rattle.file_shape.specs.declared.runs.Run.{Run}
use Rattle.file_shape.specs.Shape.{Parts}
use Rattle.table.proofs.Orders.{le_or_lt}
use Rattle.file_fields.proofs.FieldLaws.{fields_none, fields_whole, fields_cut}
use Rattle.file_fields.proofs.Offsets.{length_from}
use Rattle.file_shape.proofs.OrderLaws.{same_or_not, good, good_step, good_next, good_last, whole, its_tag, its_length, length_value, one_false}

-- Fields in front of fields, where they are there.
abbrev prepend : List Field → Option (List Field) → Option (List Field)
prepend xs o = map (λ (fs : List Field). xs ++ fs) o

prepend_none : (o : Option (List Field)) → o ≡ prepend [] o
prepend_none none = refl
prepend_none (some fs) = refl

prepend_snoc : (xs : List Field) (f : Field) (o : Option (List Field)) → prepend xs (before f o) ≡ prepend (xs ++ (f ∷ [])) o
prepend_snoc xs f none = refl
prepend_snoc xs f (some fs) = ap some (sym (append_snoc xs f fs))

-- Fields that are right for a tag, k of them from an offset on.
module _ (file : List ℕ) (at t : ℕ) where
  run_fields : (k : ℕ) → ((i : ℕ) → i < k → right_at file (offset_of file at i) t ≡ true)
      → fields (drop at file) ≡ prepend (fields_from file at k) (fields (drop (offset_of file at k) file))
  unfolding fields_from offset_of
  run_fields zero h = prepend_none (fields (drop at file))
  run_fields (suc k) h =
      let here = offset_of file at k in
      run_fields k (λ i a. h i (omega arith))
      ∙ ap (prepend (fields_from file at k)) (fields_whole file here (whole file here t (h k (omega arith))))
      ∙ prepend_snoc (fields_from file at k) (field_at file here) (fields (drop (next_at file here) file))

  run_good : 2 ≤ t → t ≤ 4 → (k : ℕ) → ((i : ℕ) → i < k → right_at file (offset_of file at i) t ≡ true)
      → good t (fields (drop at file)) ≡ good t (fields (drop (offset_of file at k) file))
  unfolding offset_of
  run_good a b zero h = refl
  run_good a b (suc k) h = run_good a b k (λ i c. h i (omega arith)) ∙ good_step file (offset_of file at k) t a b (h k (omega arith))

-- The fields of a tag, of two lists one behind the other.
pub tagged_append : (u : ℕ) (xs ys : List Field) → tagged u (xs ++ ys) ≡ tagged u xs ++ tagged u ys
unfolding tagged
tagged_append u [] ys = refl
tagged_append u (x ∷ xs) ys = by_test (eqb x.tag u) (tagged_append u xs ys)
  where
    by_test : (b : Bool) → tagged u (xs ++ ys) ≡ tagged u xs ++ tagged u ys
        → cond b (x ∷ tagged u (xs ++ ys)) (tagged u (xs ++ ys)) ≡ cond b (x ∷ tagged u xs) (tagged u xs) ++ tagged u ys
    by_test true e = ap (λ (l : List Field). x ∷ l) e
    by_test false e = e

tagged_one : (u : ℕ) (f : Field) → f.tag ≡ u → tagged u (f ∷ []) ≡ f ∷ []
unfolding tagged
tagged_one u f e = rw (eq-eqb f.tag u e) refl

tagged_other : (u : ℕ) (f : Field) (fs : List Field) → (f.tag ≡ u → ⊥) → tagged u (f ∷ fs) ≡ tagged u fs
unfolding tagged
tagged_other u f fs k = rw (ne_eqb f.tag u k) refl

-- A run's fields are all of its tag, and none of another.
module _ (file : List ℕ) (at t : ℕ) where
  pub tagged_run : (k : ℕ) → ((i : ℕ) → i < k → right_at file (offset_of file at i) t ≡ true) → tagged t (fields_from file at k) ≡ fields_from file at k
  unfolding fields_from tagged
  tagged_run zero h = refl
  tagged_run (suc k) h =
      let here = offset_of file at k in
      tagged_append t (fields_from file at k) (field_at file here ∷ [])
      ∙ ap₂ ◌++◌ (tagged_run k (λ i a. h i (omega arith))) (tagged_one t (field_at file here) (its_tag file here t (h k (omega arith))))

  pub tagged_none :
      (u : ℕ)
      → (t ≡ u → ⊥)
      → (k : ℕ)
      → ((i : ℕ) → i < k → right_at file (offset_of file at i) t ≡ true)
      → tagged u (fields_from file at k) ≡ []
  unfolding fields_from tagged
  tagged_none u d zero h = refl
  tagged_none u d (suc k) h =
      let here = offset_of file at k in
      tagged_append u (fields_from file at k) (field_at file here ∷ [])
      ∙ ap₂ ◌++◌ (tagged_none u d k (λ i a. h i (omega arith))) (tagged_other u (field_at file here) [] (λ e. d (sym (its_tag file here t (h k (omega arith))) ∙ e)))

-- Behind tag 1's field the others begin.
next_first : (file : List ℕ) → right_at file 0 1 ≡ true → next_at file 0 ≡ 4
unfolding right_length next_at
next_first file h =
    let n : length_at file 0 ≡ 1 = eqb-true (length_at file 0) 1 (its_length file 0 1 h) in
    omega (arith, whole file 0 1 h)

-- Number 1 but for the count of keywords: tag 1 first, then the others, every value right.
begins : Option (List Field) → Bool
begins none = false
begins (some fs) = in_order fs && right_values fs

-- A file's first field is tag 1 with its byte, and good fields follow.
module _ (file : List ℕ) where
  starts : Bool
  starts = right_at file 0 1 && eqb (get_or file 3 0) 1 && good 2 (fields (drop 4 file))

  begins_cut : length file < 3 + length_at file 0 → begins (fields file) ≡ starts
  unfolding starts begins right_at in_order
  begins_cut c =
      ⊎_elim
      (λ a. ap begins (ap fields (drop_of_length-le file {i = 0} a) ∙ fields_none))
      (λ a. ap begins (fields_cut file 0 a c))
      (le_or_lt (length file) 0)
      ∙ rw (lt-leb (3 + length_at file 0) (length file) c) refl

  -- The order of three tests.
  turned : (a v b : Bool) → (a && (v && b)) ≡ (v && (a && b))
  turned true v b = refl
  turned false true b = refl
  turned false false b = refl

  module _ (w : 3 + length_at file 0 ≤ length file) where
    first_length : get_or file 0 0 ≡ 1 → right_length (get_or file 0 0) (length (value_at file 0)) ≡ right_length 1 (length_at file 0)
    first_length e = ap₂ right_length e (length_value file 0 w)

    first_byte : length_at file 0 ≡ 1 → get_or (value_at file 0) 0 0 ≡ get_or file 3 0
    unfolding value_at
    first_byte n = get_or-take (length_at file 0) (drop 3 file) 0 0 (omega arith) ∙ get_or-drop 3 file 0 0

    -- Tag 1's value of one byte is right exactly if the byte is 1.
    first_value : get_or file 0 0 ≡ 1 → length_at file 0 ≡ 1 → right_value (field_at file 0) ≡ eqb (get_or file 3 0) 1
    unfolding right_value right_length
    first_value e n =
        ap₂ ◌&&◌ (first_length e ∙ ap (right_length 1) n)
        (ap₂ (λ (a : Bool) (k : ℕ). not a || eqb k 1) (eq-eqb (get_or file 0 0) 1 e) (first_byte n))

    begins_right : get_or file 0 0 ≡ 1 → length_at file 0 ≡ 1 → (o : Option (List Field)) → begins (before (field_at file 0) o) ≡ (eqb (get_or file 3 0) 1 && good 2 o)
    unfolding begins in_order right_values good
    begins_right e n none = sym (and-false (eqb (get_or file 3 0) 1))
    begins_right e n (some fs) =
        ap₂ (λ (a v : Bool). a && later_tags 2 fs && (v && right_values fs)) (eq-eqb (get_or file 0 0) 1 e) (first_value e n)
        ∙ turned (later_tags 2 fs) (eqb (get_or file 3 0) 1) (right_values fs)

    begins_wrong : right_at file 0 1 ≡ false → (o : Option (List Field)) → begins (before (field_at file 0) o) ≡ false
    unfolding begins in_order right_values right_at right_value
    begins_wrong h none = refl
    begins_wrong h (some fs) =
        ⊎_elim
        (λ e.
        let n : right_length 1 (length_at file 0) ≡ false = rw (le-leb (3 + length_at file 0) (length file) w, eq-eqb (get_or file 0 0) 1 e) at h in
        let v : right_value (field_at file 0) ≡ false = ap (λ (a : Bool). a && (not (eqb (get_or file 0 0) 1) || eqb (get_or (value_at file 0) 0 0) 1)) (first_length e ∙ n) in
        one_false (eqb (get_or file 0 0) 1 && later_tags 2 fs) (right_values fs) v)
        (λ e. ap (λ (a : Bool). a && later_tags 2 fs && (right_value (field_at file 0) && right_values fs)) (ne_eqb (get_or file 0 0) 1 e))
        (same_or_not (get_or file 0 0) 1)

    begins_whole : (b : Bool) → right_at file 0 1 ≡ b → begins (fields file) ≡ starts
    unfolding starts right_length
    begins_whole false h =
        ap begins (fields_whole file 0 w) ∙ begins_wrong h (fields (drop (next_at file 0) file)) ∙ rw h refl
    begins_whole true h =
        let n : length_at file 0 ≡ 1 = eqb-true (length_at file 0) 1 (its_length file 0 1 h) in
        ap begins (fields_whole file 0 w)
        ∙ begins_right (its_tag file 0 1 h) n (fields (drop (next_at file 0) file))
        ∙ ap₂ (λ (a : Bool) (k : ℕ). a && eqb (get_or file 3 0) 1 && good 2 (fields (drop k file))) (sym h) (next_first file h)

  begins_file : begins (fields file) ≡ (right_at file 0 1 && eqb (get_or file 3 0) 1 && good 2 (fields (drop 4 file)))
  unfolding starts
  begins_file = ⊎_elim (λ w. begins_whole w (right_at file 0 1) refl) begins_cut (le_or_lt (3 + length_at file 0) (length file))

-- What begins wrongly cannot be read.
unreadable_if : (o : Option (List Field)) → begins o ≡ false → unreadable o ≡ true
unfolding begins unreadable
unreadable_if none e = refl
unreadable_if (some fs) e = by_tests (in_order fs) (right_values fs) e
  where
    by_tests : (a b : Bool) → (a && b) ≡ false → (not a || not b || ltb most_keywords (length (keywords fs))) ≡ true
    by_tests false b e = refl
    by_tests true false e = refl
    by_tests true true e = absurd (true≢false e)

-- What begins rightly is unreadable only by its count of keywords.
readable_if : (o : Option (List Field)) → begins o ≡ true → unreadable o ≡ ltb most_keywords (length (keywords (Option.get_or o [])))
unfolding begins unreadable
readable_if none e = absurd (false≢true e)
readable_if (some fs) e =
    ap₂ (λ (a b : Bool). not a || not b || ltb most_keywords (length (keywords fs))) (and_left (in_order fs) (right_values fs) e) (and_right (in_order fs) (right_values fs) e)

-- A run's fields, and those behind it.
run_parts : (file : List ℕ) (at t : ℕ) (r : Run) → LongestRun file at t r → fields (drop at file) ≡ prepend (fields_from file at r.count) (fields (drop r.end file))
run_parts file at t r l =
    run_fields file at t r.count l.each
    ∙ ap (λ (e : ℕ). prepend (fields_from file at r.count) (fields (drop e file))) (sym l.ends)

-- From one tag's run to the next tag.
run_next :
    (file : List ℕ) (at t : ℕ) (r : Run)
    → 2 ≤ t
    → t ≤ 4
    → LongestRun file at t r
    → good t (fields (drop at file)) ≡ good (t + 1) (fields (drop r.end file))
run_next file at t r a b l =
    run_good file at t a b r.count l.each
    ∙ ap (λ (e : ℕ). good t (fields (drop e file))) (sym l.ends)
    ∙ good_next file r.end t a l.stops

module _ (file : List ℕ) (k r n : Run) (K : LongestRun file 4 2 k) (R : LongestRun file k.end 3 r) (N : LongestRun file r.end 4 n) where
  all_runs : good 2 (fields (drop 4 file)) ≡ (right_at file n.end 5 && eqb (next_at file n.end) (length file))
  all_runs =
      run_next file 4 2 k (omega arith) (omega arith) K
      ∙ run_next file k.end 3 r (omega arith) (omega arith) R
      ∙ run_next file r.end 4 n (omega arith) (omega arith) N
      ∙ good_last file n.end

  -- The frame and the order say the same.
  frame : framed_by file n.end ≡ (leb (length file) most_bytes && begins (fields file))
  unfolding framed_by
  frame =
      simp and_assoc
      (ap (λ (g : Bool). leb (length file) most_bytes && (right_at file 0 1 && (eqb (get_or file 3 0) 1 && g))) (sym all_runs)
      ∙ ap (λ (g : Bool). leb (length file) most_bytes && g) (sym (begins_file file ∙ and_assoc (right_at file 0 1) (eqb (get_or file 3 0) 1) (good 2 (fields (drop 4 file))))))

  -- A file that is not so framed fails number 1.
  pub unframed : framed_by file n.end ≡ false → fails1 file ≡ true
  unfolding fails1
  unframed h =
      ⊎_elim
      (λ a. rw (unreadable_if (fields file) (rw (le-leb (length file) most_bytes a) at (sym frame ∙ h))) (or-true (ltb most_bytes (length file))))
      (λ a. rw (lt-ltb most_bytes (length file) a) refl)
      (le_or_lt (length file) most_bytes)

  module _ (h : framed_by file n.end ≡ true) where
    short : length file ≤ most_bytes
    short = leb-true (length file) most_bytes (and_left (leb (length file) most_bytes) (begins (fields file)) (sym frame ∙ h))

    begun : begins (fields file) ≡ true
    begun = and_right (leb (length file) most_bytes) (begins (fields file)) (sym frame ∙ h)

    started : (right_at file 0 1 && eqb (get_or file 3 0) 1 && good 2 (fields (drop 4 file))) ≡ true
    started = sym (begins_file file) ∙ begun

    first_right : right_at file 0 1 ≡ true
    first_right = and_left (right_at file 0 1) (eqb (get_or file 3 0) 1) (and_left (right_at file 0 1 && eqb (get_or file 3 0) 1) (good 2 (fields (drop 4 file))) started)

    ended : (right_at file n.end 5 && eqb (next_at file n.end) (length file)) ≡ true
    ended = sym all_runs ∙ and_right (right_at file 0 1 && eqb (get_or file 3 0) 1) (good 2 (fields (drop 4 file))) started

    last_right : right_at file n.end 5 ≡ true
    last_right = and_left (right_at file n.end 5) (eqb (next_at file n.end) (length file)) ended

    runs : List Field
    runs = fields_from file 4 k.count ++ (fields_from file k.end r.count ++ (fields_from file r.end n.count ++ (field_at file n.end ∷ [])))

    last_alone : fields (drop n.end file) ≡ some (field_at file n.end ∷ [])
    last_alone =
        let e : next_at file n.end ≡ length file =
        eqb-true (next_at file n.end) (length file)
        (and_right (right_at file n.end 5) (eqb (next_at file n.end) (length file)) ended) in
        fields_whole file n.end (whole file n.end 5 last_right)
        ∙ ap (λ (l : List ℕ). before (field_at file n.end) (fields l)) (drop_of_length-le file (le_of_eq (sym e)))
        ∙ ap (before (field_at file n.end)) fields_none

    -- The fields are tag 1's, the three runs and tag 5's.
    parsed : fields file ≡ some (field_at file 0 ∷ runs)
    unfolding runs
    parsed =
        fields_whole file 0 (whole file 0 1 first_right)
        ∙ ap (λ (e : ℕ). before (field_at file 0) (fields (drop e file))) (next_first file first_right)
        ∙ ap (before (field_at file 0))
        (run_parts file 4 2 k K
        ∙ ap (prepend (fields_from file 4 k.count)) (run_parts file k.end 3 r R
        ∙ ap (prepend (fields_from file k.end r.count)) (run_parts file r.end 4 n N
        ∙ ap (prepend (fields_from file r.end n.count)) last_alone)))

    tagged_runs :
        (u : ℕ)
        → (1 ≡ u → ⊥)
        → tagged u (fields_of file)
        ≡ tagged u (fields_from file 4 k.count)
        ++ (tagged u (fields_from file k.end r.count)
        ++ (tagged u (fields_from file r.end n.count) ++ tagged u (field_at file n.end ∷ [])))
    unfolding runs
    tagged_runs u d =
        ap (λ (o : Option (List Field)). tagged u (Option.get_or o [])) parsed
        ∙ tagged_other u (field_at file 0) runs (λ e. d (sym (its_tag file 0 1 first_right) ∙ e))
        ∙ simp tagged_append

    last_other : (u : ℕ) → (5 ≡ u → ⊥) → tagged u (field_at file n.end ∷ []) ≡ []
    unfolding tagged
    last_other u d = tagged_other u (field_at file n.end) [] (λ e. d (sym (its_tag file n.end 5 last_right) ∙ e))

    keyword_fields_lem : tagged 2 (fields_of file) ≡ fields_from file 4 k.count
    keyword_fields_lem =
        tagged_runs 2 (omega arith)
        ∙ ap₂ ◌++◌ (tagged_run file 4 2 k.count K.each)
        (ap₂ ◌++◌ (tagged_none file k.end 3 2 (omega arith) r.count R.each)
        (ap₂ ◌++◌ (tagged_none file r.end 4 2 (omega arith) n.count N.each) (last_other 2 (omega arith))))
        ∙ append-nil (fields_from file 4 k.count)

    rule_fields_lem : tagged 3 (fields_of file) ≡ fields_from file k.end r.count
    rule_fields_lem =
        tagged_runs 3 (omega arith)
        ∙ ap₂ ◌++◌ (tagged_none file 4 2 3 (omega arith) k.count K.each)
        (ap₂ ◌++◌ (tagged_run file k.end 3 r.count R.each)
        (ap₂ ◌++◌ (tagged_none file r.end 4 3 (omega arith) n.count N.each) (last_other 3 (omega arith))))
        ∙ append-nil (fields_from file k.end r.count)

    node_fields_lem : tagged 4 (fields_of file) ≡ fields_from file r.end n.count
    node_fields_lem =
        tagged_runs 4 (omega arith)
        ∙ ap₂ ◌++◌ (tagged_none file 4 2 4 (omega arith) k.count K.each)
        (ap₂ ◌++◌ (tagged_none file k.end 3 4 (omega arith) r.count R.each)
        (ap₂ ◌++◌ (tagged_run file r.end 4 n.count N.each) (last_other 4 (omega arith))))
        ∙ append-nil (fields_from file r.end n.count)

    start_field_lem : tagged 5 (fields_of file) ≡ field_at file n.end ∷ []
    start_field_lem =
        tagged_runs 5 (omega arith)
        ∙ ap₂ ◌++◌ (tagged_none file 4 2 5 (omega arith) k.count K.each)
        (ap₂ ◌++◌ (tagged_none file k.end 3 5 (omega arith) r.count R.each)
        (ap₂ ◌++◌ (tagged_none file r.end 4 5 (omega arith) n.count N.each) (tagged_one 5 (field_at file n.end) (its_tag file n.end 5 last_right))))

    -- Number 1 of a framed file is the count of its keywords.
    keyword_count : fails1 file ≡ ltb most_keywords k.count
    unfolding fails1 keywords
    keyword_count =
        ap₂ ◌||◌ (le-ltb most_bytes (length file) short) (readable_if (fields file) begun)
        ∙ ap (ltb most_keywords) (length-map (tagged 2 (fields_of file)) (λ f. f.value) ∙ ap length keyword_fields_lem ∙ length_from file 4 k.count)

    pub many_keywords : most_keywords < k.count → fails1 file ≡ true
    many_keywords m = keyword_count ∙ lt-ltb most_keywords k.count m

    -- The fields by tag, as three runs give them.
    pub framed_parts :
        k.count ≤ most_keywords
        → Parts file (record {
          keywords = k.count;
          rules = record { at = k.end; count = r.count };
          nodes = record { at = r.end; count = n.count };
          start = n.end;
        })
    framed_parts m = record {
      passes = keyword_count ∙ le-ltb most_keywords k.count m;
      keyword_fields = keyword_fields_lem;
      rule_fields = rule_fields_lem;
      node_fields = node_fields_lem;
      start_field = start_field_lem;
    }
