-- The places of a text, one by one: the definition by offsets, a walk through the bytes, and the next place from a position.
use Prim.Native.Nat.{ℕ, zero, suc, ◌+◌, ◌-◌, ◌*◌, ◌≤◌, ◌<◌}
use mathlib.Core.Path.{◌≡◌, refl, sym, ap, ap₂, ◌∙◌}
use mathlib.Core.Bool.{Bool, true, false, true≢false, false≢true}
use mathlib.Core.List.{List, [], ◌∷◌, ◌++◌, append_assoc}
use Rattle.std.proofs.Common.{Option, Some, None}
use lib.ListN.{length, get_or, take, drop, length-append, length-drop, drop_of_length-le}
use lib.Seq.{drop-drop}
use native.Mathlib.Nat.{le_of_eq, add-zero}
use native.Mathlib.Numerals.{add-one}
use native.Mathlib.Omega.{arith}
use Rattle.byte_class.specs.Bytes.{class_of}
use Rattle.byte_class.specs.declared.Class.{Class}
use Rattle.byte_class.specs.declared.Class.TheVariants.{Break, Tab, Blank, Single, Digit, Run, Continuation, Refused}
use Rattle.file_fields.proofs.FieldLaws.{from_one}
use Rattle.places.specs.Columns.{column_by, column_after, column_at, column_over}
use Rattle.places.specs.Places.{run_class, in_run, run_length}
use Rattle.places.specs.declared.Place.{Place}
use Rattle.token_words.specs.Places.{mid_run, mark_by, mark_after, had_token, line_end, spelling, place_by, place_at, places_at, places}
use Rattle.places.specs.Moves.{position, next_place, next_in}
use Rattle.places.specs.declared.Position.{Position}
use Rattle.places.specs.declared.Move.{Move}
use Rattle.places.specs.InternalFind.{passed_by, passed_over, Room}
use Rattle.places.proofs.FindLaws.{column_grows, over_move, run_move, break_move, single_move, run_more, run_none}
use Rattle.scanner.proofs.InsideLaws.{run_within}

-- The places of some bytes, walked through: offset and column, whether the line has had a token, whether the byte before
-- belongs to a run.
unfoldable pub places_of : List ℕ → ℕ → ℕ → Bool → Bool → List Place
places_of [] o c m mid = line_end m c o
places_of (b ∷ bytes) o c m mid = place_by (class_of b) m mid c o (run_length (b ∷ bytes)) ++ places_of bytes (o + 1) (column_after b c) (mark_after b m) (in_run b)

-- The definition by offsets walks through the bytes.
walks :
    (text : List ℕ) (n i : ℕ)
    → i + n ≡ length text
    → places_at text i n ++ line_end (had_token text (length text)) (column_at text (length text)) (length text)
    ≡ places_of (drop i text) i (column_at text i) (had_token text i) (mid_run text i)
unfolding places_at places_of place_at had_token column_at mid_run
walks text zero i e =
    let k : length text ≡ i = omega arith in
    rw (drop_of_length-le text (le_of_eq k), k) refl
walks text (suc n) i e =
    append_assoc (place_at text i) (places_at text (suc i) n) _
    ∙ ap (λ (l : List Place). place_at text i ++ l) (walks text n (suc i) (omega arith))
    ∙ sym
    (ap (λ (l : List ℕ). places_of l i (column_at text i) (had_token text i) (mid_run text i))
    (from_one text i (omega arith))
    ∙ ap₂ ◌++◌
    (ap
    (λ (l : List ℕ).
    place_by (class_of (get_or text i 0)) (had_token text i) (mid_run text i) (column_at text i) i (run_length l))
    (sym (from_one text i (omega arith))))
    (ap
    (λ (j : ℕ).
    places_of (drop j text) j (column_after (get_or text i 0) (column_at text i))
    (mark_after (get_or text i 0) (had_token text i)) (in_run (get_or text i 0))) (add-one i)))

pub places_walked : (text : List ℕ) → places text ≡ places_of text 0 0 false false
unfolding places had_token column_at mid_run
places_walked text = walks text (length text) 0 (omega arith)

-- In the middle of a run no byte but the first begins one.
mid_other : (k : Class) (m : Bool) (c o n : ℕ) → run_class k ≡ false → place_by k m true c o n ≡ place_by k m false c o n
mid_other Break m c o n e = refl
mid_other Tab m c o n e = refl
mid_other Blank m c o n e = refl
mid_other Single m c o n e = refl
mid_other Digit m c o n e = absurd (true≢false e)
mid_other Run m c o n e = absurd (true≢false e)
mid_other Continuation m c o n e = absurd (true≢false e)
mid_other Refused m c o n e = refl

mid_run_lem : (k : Class) (m : Bool) (c o n : ℕ) → run_class k ≡ true → (place_by k m true c o n ≡ []) × (mark_by k m ≡ true)
mid_run_lem Break m c o n e = absurd (false≢true e)
mid_run_lem Tab m c o n e = absurd (false≢true e)
mid_run_lem Blank m c o n e = absurd (false≢true e)
mid_run_lem Single m c o n e = absurd (false≢true e)
mid_run_lem Digit m c o n e = (refl, refl)
mid_run_lem Run m c o n e = (refl, refl)
mid_run_lem Continuation m c o n e = (refl, refl)
mid_run_lem Refused m c o n e = absurd (false≢true e)

first_run : (k : Class) (m : Bool) (c o n : ℕ) → run_class k ≡ true → place_by k m false c o n ≡ spelling c o n
first_run Break m c o n e = absurd (false≢true e)
first_run Tab m c o n e = absurd (false≢true e)
first_run Blank m c o n e = absurd (false≢true e)
first_run Single m c o n e = absurd (false≢true e)
first_run Digit m c o n e = refl
first_run Run m c o n e = refl
first_run Continuation m c o n e = refl
first_run Refused m c o n e = absurd (false≢true e)

over_places : (k : Class) (m : Bool) (c o n : ℕ) → passed_by k m ≡ true → (place_by k m false c o n ≡ []) × (mark_by k m ≡ m) × (run_class k ≡ false)
over_places Break true c o n e = absurd (false≢true e)
over_places Break false c o n e = (refl, refl, refl)
over_places Tab m c o n e = (refl, refl, refl)
over_places Blank m c o n e = (refl, refl, refl)
over_places Single m c o n e = absurd (false≢true e)
over_places Digit m c o n e = absurd (false≢true e)
over_places Run m c o n e = absurd (false≢true e)
over_places Continuation m c o n e = absurd (false≢true e)
over_places Refused m c o n e = (refl, refl, refl)

break_places : (k : Class) (m : Bool) (c o n : ℕ) → passed_by k false ≡ true → passed_by k m ≡ false
    → (place_by k m false c o n ≡ line_end true c o) × (mark_by k m ≡ false) × (run_class k ≡ false) × (column_by k c ≡ 0)
break_places Break true c o n e p = (refl, refl, refl, refl)
break_places Break false c o n e p = absurd (true≢false p)
break_places Tab m c o n e p = absurd (true≢false p)
break_places Blank m c o n e p = absurd (true≢false p)
break_places Single m c o n e p = absurd (false≢true e)
break_places Digit m c o n e p = absurd (false≢true e)
break_places Run m c o n e p = absurd (false≢true e)
break_places Continuation m c o n e p = absurd (false≢true e)
break_places Refused m c o n e p = absurd (true≢false p)

single_places : (k : Class) (m : Bool) (c o n : ℕ) → run_class k ≡ false → passed_by k false ≡ false → passed_by k m ≡ false
    → (place_by k m false c o n ≡ spelling c o 1) × (mark_by k m ≡ true)
single_places Break m c o n e b p = absurd (true≢false b)
single_places Tab m c o n e b p = absurd (true≢false p)
single_places Blank m c o n e b p = absurd (true≢false p)
single_places Single m c o n e b p = (refl, refl)
single_places Digit m c o n e b p = absurd (true≢false e)
single_places Run m c o n e b p = absurd (true≢false e)
single_places Continuation m c o n e b p = absurd (true≢false e)
single_places Refused m c o n e b p = absurd (true≢false p)

-- The bytes behind the first of a run.
run_skip :
    (bytes : List ℕ) (o c : ℕ)
    → places_of bytes o c true true
    ≡ places_of (drop (run_length bytes) bytes) (o + run_length bytes) (column_over (take (run_length bytes) bytes) c) true
    false
unfolding places_of run_length column_over in_run mark_after
run_skip [] o c = rw add-zero refl
run_skip (b ∷ bytes) o c = by_test (in_run b) refl (run_skip bytes (o + 1) (column_after b c))
  where
    by_test :
        (t : Bool)
        → in_run b ≡ t
        → places_of bytes (o + 1) (column_after b c) true true
        ≡ places_of (drop (run_length bytes) bytes) (o + 1 + run_length bytes)
        (column_over (take (run_length bytes) bytes) (column_after b c)) true false
        → places_of (b ∷ bytes) o c true true
        ≡ places_of (drop (run_length (b ∷ bytes)) (b ∷ bytes)) (o + run_length (b ∷ bytes))
        (column_over (take (run_length (b ∷ bytes)) (b ∷ bytes)) c) true false
    by_test true e ih =
        let n : ℕ = run_length bytes in
        let mid = mid_run_lem (class_of b) true c o (suc n) e in
        let on : o + 1 + n ≡ o + suc n = omega arith in
        rw e
        (ap₂ (λ (l : List Place) (k : Bool). l ++ places_of bytes (o + 1) (column_after b c) k true) mid.0 mid.1
        ∙ ih
        ∙ ap (λ (j : ℕ). places_of (drop n bytes) j (column_over (take n bytes) (column_after b c)) true false) on)
    by_test false e ih =
        let z : run_length (b ∷ bytes) ≡ 0 = (run_none b bytes c e).0 in
        ap (λ (l : List Place). l ++ places_of bytes (o + 1) (column_after b c) (mark_after b true) (in_run b)) (mid_other (class_of b) true c o (run_length (b ∷ bytes)) e)
        ∙ ap (λ (j : ℕ). places_of (b ∷ bytes) j c true false) (sym (add-zero o))
        ∙ ap (λ (n : ℕ). places_of (drop n (b ∷ bytes)) (o + n) (column_over (take n (b ∷ bytes)) c) true false) (sym z)

-- A place in front of places, if there is one.
abbrev pub listed : Option Place → List Place → List Place
listed None ps = []
listed (Some p) ps = p ∷ ps

abbrev pub bit : Bool → ℕ
bit true = 1
bit false = 0

-- A number falls where a place was found.
abbrev pub falls_of : Option Place → ℕ → ℕ → Type 0
falls_of None less more = Unit
falls_of (Some p) less more = less < more

-- What a move through some bytes from a position on is: it goes some bytes on, and the places of the bytes are what it
-- found and those of the bytes that are left. Columns grow by 8 a byte at most, and fewer bytes or a mark less are left
-- behind a place.
pub record Goes (bytes : List ℕ) (o c : ℕ) (m : Bool) (v : Move) : Type 0 where
  pub steps : ℕ
  pub reached : v.reached.offset ≡ o + steps
  pub within : steps ≤ length bytes
  pub wide : v.reached.column + 8 * (length bytes - steps) ≤ c + 8 * length bytes
  pub list : places_of bytes o c m false ≡ listed v.found (places_of (drop steps bytes) (o + steps) v.reached.column v.reached.mark false)
  pub falls : falls_of v.found (2 * (length bytes - steps) + bit v.reached.mark) (2 * length bytes + bit m)

falls_more : (f : Option Place) (a b x y : ℕ) → a ≡ b → x ≤ y → falls_of f a x → falls_of f b y
falls_more None a b x y e l h = tt
falls_more (Some p) a b x y e l h = omega arith

-- A byte that is passed over.
goes_over :
    (b : ℕ) (bytes : List ℕ) (o c : ℕ) (m : Bool)
    → passed_over b m ≡ true
    → Goes bytes (o + 1) (column_after b c) m (next_place bytes (o + 1) (column_after b c) m)
    → Goes (b ∷ bytes) o c m (next_place (b ∷ bytes) o c m)
unfolding passed_over places_of mark_after in_run
goes_over b bytes o c m e g =
    let v = next_place bytes (o + 1) (column_after b c) m in
    let q = over_places (class_of b) m c o (run_length (b ∷ bytes)) e in
    let on : o + 1 + g.steps ≡ o + suc g.steps = omega arith in
    rw (over_move b bytes o c m e)
    (record {
      steps = suc g.steps;
      reached = omega (arith, g.reached);
      within = omega (arith, g.within);
      wide = omega (arith, g.wide, column_grows b c);
      list = ap₂
          (λ (l : List Place) (k : Bool).
          l ++ places_of bytes (o + 1) (column_after b c) k (run_class (class_of b))) q.0 q.1
          ∙ ap (λ (t : Bool). places_of bytes (o + 1) (column_after b c) m t) q.2
          ∙ g.list
          ∙ ap
          (λ (j : ℕ).
          listed v.found (places_of (drop g.steps bytes) j v.reached.column v.reached.mark false))
          on;
      falls = falls_more v.found (2 * (length bytes - g.steps) + bit v.reached.mark)
          (2 * (suc (length bytes) - suc g.steps) + bit v.reached.mark) (2 * length bytes + bit m)
          (2 * suc (length bytes) + bit m) (omega arith) (omega arith) g.falls;
    })

-- The columns of a run grow by 8 a byte at most.
over_grows : (n : ℕ) (bytes : List ℕ) (c : ℕ) → n ≤ length bytes → column_over (take n bytes) c ≤ c + 8 * n
unfolding column_over
over_grows zero bytes c h = omega arith
over_grows (suc n) [] c h = absurd (omega arith)
over_grows (suc n) (b ∷ bytes) c h = omega (arith, over_grows n bytes (column_after b c) (omega arith), column_grows b c)

-- A run.
goes_run : (b : ℕ) (bytes : List ℕ) (o c : ℕ) (m : Bool) → in_run b ≡ true → Goes (b ∷ bytes) o c m (next_place (b ∷ bytes) o c m)
unfolding places_of mark_after in_run
goes_run b bytes o c m e =
    let n : ℕ = run_length bytes in
    let r = run_more b bytes c e in
    let w = run_within bytes in
    let on : o + 1 + n ≡ o + suc n = omega arith in
    rw (run_move b bytes o c m e, r.1, r.0)
    (record {
      steps = suc n;
      reached = refl;
      within = omega (arith, w);
      wide = omega (arith, w, over_grows n bytes (column_after b c) w, column_grows b c);
      list = ap₂ (λ (l : List Place) (k : Bool). l ++ places_of bytes (o + 1) (column_after b c) k (in_run b))
          (first_run (class_of b) m c o (run_length (b ∷ bytes)) e ∙ ap (spelling c o) r.0)
          (mid_run_lem (class_of b) m c o 0 e).1
          ∙ ap (λ (t : Bool). spelling c o (suc n) ++ places_of bytes (o + 1) (column_after b c) true t) e
          ∙ ap (λ (l : List Place). spelling c o (suc n) ++ l)
          (run_skip bytes (o + 1) (column_after b c)
          ∙ ap (λ (j : ℕ). places_of (drop n bytes) j (column_over (take n bytes) (column_after b c)) true false)
          on);
      falls = omega (arith, w);
    })

-- A line's end by a break, and a single byte.
goes_break :
    (b : ℕ) (bytes : List ℕ) (o c : ℕ) (m : Bool)
    → passed_over b false ≡ true
    → passed_over b m ≡ false
    → Goes (b ∷ bytes) o c m (next_place (b ∷ bytes) o c m)
unfolding places_of mark_after in_run passed_over column_after
goes_break b bytes o c m e p =
    let q = break_places (class_of b) m c o (run_length (b ∷ bytes)) e p in
    rw (break_move b bytes o c m e p)
    (record {
      steps = 1;
      reached = refl;
      within = omega arith;
      wide = omega arith;
      list =
          ap₂ (λ (l : List Place) (k : Bool). l ++ places_of bytes (o + 1) (column_after b c) k (in_run b)) q.0 q.1
          ∙ ap₂ (λ (t : Bool) (d : ℕ). line_end true c o ++ places_of bytes (o + 1) d false t) q.2 q.3;
      falls = omega arith;
    })

goes_single :
    (b : ℕ) (bytes : List ℕ) (o c : ℕ) (m : Bool)
    → in_run b ≡ false
    → passed_over b false ≡ false
    → passed_over b m ≡ false
    → Goes (b ∷ bytes) o c m (next_place (b ∷ bytes) o c m)
unfolding places_of mark_after in_run passed_over
goes_single b bytes o c m e k p =
    let q = single_places (class_of b) m c o (run_length (b ∷ bytes)) e k p in
    rw (single_move b bytes o c m e k p)
    (record {
      steps = 1;
      reached = refl;
      within = omega arith;
      wide = omega (arith, column_grows b c);
      list =
          ap₂ (λ (l : List Place) (t : Bool). l ++ places_of bytes (o + 1) (column_after b c) t (in_run b)) q.0 q.1
          ∙ ap (λ (t : Bool). spelling c o 1 ++ places_of bytes (o + 1) (column_after b c) true t) e;
      falls = omega arith;
    })

-- The end of the text.
goes_end : (o c : ℕ) (m : Bool) → Goes [] o c m (next_place [] o c m)
unfolding places_of next_place
goes_end o c true = record { steps = 0; reached = sym (add-zero o); within = omega arith; wide = omega arith; list = refl; falls = omega arith }
goes_end o c false = record { steps = 0; reached = sym (add-zero o); within = omega arith; wide = omega arith; list = refl; falls = tt }

-- Every move goes so.
goes_first : (b : ℕ) (bytes : List ℕ) (o c : ℕ) (m : Bool) (over run brk : Bool) → passed_over b m ≡ over → in_run b ≡ run → passed_over b false ≡ brk
    → Goes bytes (o + 1) (column_after b c) m (next_place bytes (o + 1) (column_after b c) m) → Goes (b ∷ bytes) o c m (next_place (b ∷ bytes) o c m)
goes_first b bytes o c m true run brk p e k g = goes_over b bytes o c m p g
goes_first b bytes o c m false true brk p e k g = goes_run b bytes o c m e
goes_first b bytes o c m false false true p e k g = goes_break b bytes o c m k p
goes_first b bytes o c m false false false p e k g = goes_single b bytes o c m e k p

goes : (bytes : List ℕ) (o c : ℕ) (m : Bool) → Goes bytes o c m (next_place bytes o c m)
goes [] o c m = goes_end o c m
goes (b ∷ bytes) o c m = goes_first b bytes o c m (passed_over b m) (in_run b) (passed_over b false) refl refl refl (goes bytes (o + 1) (column_after b c) m)

-- The places of a text from a position on, and how much is left there.
unfoldable pub places_from : List ℕ → Position → List Place
places_from text p = places_of (drop p.offset text) p.offset p.column p.mark false

unfoldable pub left : List ℕ → Position → ℕ
left text p = 2 * (length text - p.offset) + bit p.mark

-- A move from a position in a text with room.
pub record Onward (text : List ℕ) (p : Position) (v : Move) : Type 0 where
  pub room : Room text v.reached.offset v.reached.column
  pub wide : v.reached.column + 8 * (length text - v.reached.offset) ≤ p.column + 8 * (length text - p.offset)
  pub list : places_from text p ≡ listed v.found (places_from text v.reached)
  pub falls : falls_of v.found (left text v.reached) (left text p)

pub onward : (text : List ℕ) (p : Position) → Room text p.offset p.column → Onward text p (next_in text p)
unfolding places_from left
onward text p r =
    let o : ℕ = p.offset in
    let v : Move = next_in text p in
    let g = goes (drop o text) o p.column p.mark in
    let n : length (drop o text) ≡ length text - o = length-drop o text in
    let at : v.reached.offset ≡ o + g.steps = g.reached in
    record {
      room =
          record {
            within = omega (arith, g.within, r.within);
            fits = omega (arith, g.within, g.wide, r.within, r.fits);
          };
      wide = omega (arith, g.within, g.wide, r.within);
      list = g.list
          ∙ ap
          (λ (l : List ℕ).
          listed v.found (places_of l (o + g.steps) v.reached.column v.reached.mark false))
          (drop-drop g.steps o text)
          ∙ ap (λ (j : ℕ). listed v.found (places_of (drop j text) j v.reached.column v.reached.mark false))
          (sym at);
      falls = falls_more v.found (2 * (length (drop o text) - g.steps) + bit v.reached.mark)
          (2 * (length text - v.reached.offset) + bit v.reached.mark) (2 * length (drop o text) + bit p.mark)
          (2 * (length text - o) + bit p.mark) (omega (arith, r.within, g.within)) (omega arith) g.falls;
    }

-- From the start a text has its places.
pub places_from_lem : (text : List ℕ) → places text ≡ places_from text (position 0 0 false)
unfolding places_from
places_from_lem text = places_walked text

-- A text has at most one place a byte and one at its end.
one_most : (k : Class) (had mid : Bool) (c o n : ℕ) → length (place_by k had mid c o n) ≤ 1
one_most Break true mid c o n = omega arith
one_most Break false mid c o n = omega arith
one_most Tab had mid c o n = omega arith
one_most Blank had mid c o n = omega arith
one_most Single had mid c o n = omega arith
one_most Digit had true c o n = omega arith
one_most Digit had false c o n = omega arith
one_most Run had true c o n = omega arith
one_most Run had false c o n = omega arith
one_most Continuation had true c o n = omega arith
one_most Continuation had false c o n = omega arith
one_most Refused had mid c o n = omega arith

places_at_most : (text : List ℕ) (i n : ℕ) → length (places_at text i n) ≤ n
unfolding places_at place_at
places_at_most text i zero = omega arith
places_at_most text i (suc n) =
    let one = one_most (class_of (get_or text i 0)) (had_token text i) (mid_run text i) (column_at text i) i (run_length (drop i text)) in
    simp length-append (omega (arith, one, places_at_most text (suc i) n))

pub few_places : (text : List ℕ) → length (places text) ≤ length text + 1
unfolding places
few_places text =
    let one = one_most Break (had_token text (length text)) false (column_at text (length text)) (length text) 0 in
    simp length-append (omega (arith, one, places_at_most text 0 (length text)))
