-- Where the next token stands: bytes that are passed over, a run, a line's end and a single byte, by class; and the room
-- for columns.
use Prim.Native.Nat.{ℕ, suc, ◌+◌, ◌-◌, ◌*◌, ◌/◌, ◌≤◌, ◌<◌}
use mathlib.Core.Path.{◌≡◌, refl, sym, ap, ◌∙◌}
use mathlib.Core.Bool.{Bool, true, false, or-true, true≢false, false≢true}
use mathlib.Core.List.{List, [], ◌∷◌}
use Rattle.std.proofs.Common.{None}
use lib.ListN.{length, get_or, take, drop, drop_of_length-le}
use lib.Seq.{drop-cons}
use native.Mathlib.Numerals.{add-one}
use borrow.Author.Tests.{lt-ltb, le-ltb}
use native.Mathlib.Nat.{le_of_eq}
use native.Mathlib.Omega.{arith}
use Rattle.byte_class.specs.Bytes.{class_of}
use Rattle.byte_class.specs.declared.Class.{Class}
use Rattle.byte_class.specs.declared.Class.TheVariants.{Break, Tab, Blank, Single, Digit, Run, Continuation, Refused}
use Rattle.places.specs.Columns.{column_by, column_after, column_over}
use Rattle.places.specs.Places.{run_class, in_run, run_length}
use Rattle.places.specs.Moves.{position, move, move_by, next_place, next_in, next_within}
use Rattle.places.specs.declared.Position.{Position}
use Rattle.places.specs.declared.Move.{Move}
use Rattle.places.specs.InternalFind.{passed_by, passed_over, Room, Skipped, RunEnd}

-- The bytes from an offset on.
pub from_one : (text : List ℕ) (i : ℕ) → i < length text → drop i text ≡ get_or text i 0 ∷ drop (i + 1) text
from_one text i h = rw (add-one, drop-cons text i 0)

-- Where there is room for the columns, and where there is none.
module _ (text : List ℕ) (p : Position) where
  pub past_end : {m : Move} → m ≡ record { found = None; reached = p } → length text < p.offset → m ≡ next_within text p
  unfolding next_within
  past_end e h = e ∙ rw (lt-ltb (length text) p.offset h) refl

  pub no_room :
      {m : Move}
      → m ≡ record { found = None; reached = p }
      → (4294967295 - p.column) / 8 < length text - p.offset
      → m ≡ next_within text p
  unfolding next_within
  no_room e h = e ∙ rw (lt-ltb 4294967295 (p.column + 8 * (length text - p.offset)) (omega arith), or-true) refl

  pub with_room : Room text p.offset p.column → next_within text p ≡ next_in text p
  unfolding next_within
  with_room r =
      rw (le-ltb (length text) p.offset r.within, le-ltb 4294967295 (p.column + 8 * (length text - p.offset)) (omega (arith, r.fits)))
      refl

-- A byte moves the column by 8 at most.
column_by_lem : (k : Class) (c : ℕ) → column_by k c ≤ c + 8
column_by_lem Break c = omega arith
column_by_lem Tab c = omega arith
column_by_lem Blank c = omega arith
column_by_lem Single c = omega arith
column_by_lem Digit c = omega arith
column_by_lem Run c = omega arith
column_by_lem Continuation c = omega arith
column_by_lem Refused c = omega arith

pub column_grows : (b c : ℕ) → column_after b c ≤ c + 8
unfolding column_after
column_grows b c = column_by_lem (class_of b) c

-- One byte on there is room still.
pub room_next : {text : List ℕ} {at c : ℕ} → Room text at c → at < length text → {d : ℕ} (b : ℕ) → d ≡ column_after b c → Room text (at + 1) d
room_next {c = c} r h b e = record { within = omega arith; fits = omega (arith, column_grows b c, r.fits) }

module _ (o c next n after : ℕ) (rest : Move) where
  -- A byte that is passed over, a byte of a run, a break and a single byte, by class.
  over_class : (k : Class) (m : Bool) → passed_by k m ≡ true → move_by k m o c next n after rest ≡ rest
  over_class Break true e = absurd (false≢true e)
  over_class Break false e = refl
  over_class Tab m e = refl
  over_class Blank m e = refl
  over_class Single m e = absurd (false≢true e)
  over_class Digit m e = absurd (false≢true e)
  over_class Run m e = absurd (false≢true e)
  over_class Continuation m e = absurd (false≢true e)
  over_class Refused m e = refl

  run_class_lem : (k : Class) (m : Bool) → run_class k ≡ true → move_by k m o c next n after rest ≡ move false c o n (position (o + n) after true)
  run_class_lem Break m e = absurd (false≢true e)
  run_class_lem Tab m e = absurd (false≢true e)
  run_class_lem Blank m e = absurd (false≢true e)
  run_class_lem Single m e = absurd (false≢true e)
  run_class_lem Digit m e = refl
  run_class_lem Run m e = refl
  run_class_lem Continuation m e = refl
  run_class_lem Refused m e = absurd (false≢true e)

  break_class : (k : Class) (m : Bool) → passed_by k false ≡ true → passed_by k m ≡ false → move_by k m o c next n after rest ≡ move true c o 0 (position (o + 1) 0 false)
  break_class Break true e p = refl
  break_class Break false e p = absurd (true≢false p)
  break_class Tab m e p = absurd (true≢false p)
  break_class Blank m e p = absurd (true≢false p)
  break_class Single m e p = absurd (false≢true e)
  break_class Digit m e p = absurd (false≢true e)
  break_class Run m e p = absurd (false≢true e)
  break_class Continuation m e p = absurd (false≢true e)
  break_class Refused m e p = absurd (true≢false p)

  single_class :
      (k : Class) (m : Bool)
      → run_class k ≡ false
      → passed_by k false ≡ false
      → passed_by k m ≡ false
      → move_by k m o c next n after rest ≡ move false c o 1 (position (o + 1) next true)
  single_class Break m e b p = absurd (true≢false b)
  single_class Tab m e b p = absurd (true≢false p)
  single_class Blank m e b p = absurd (true≢false p)
  single_class Single m e b p = refl
  single_class Digit m e b p = absurd (true≢false e)
  single_class Run m e b p = absurd (true≢false e)
  single_class Continuation m e b p = absurd (true≢false e)
  single_class Refused m e b p = absurd (true≢false p)

-- At the first of some bytes.
module _ (b : ℕ) (bytes : List ℕ) (o c : ℕ) (m : Bool) where
  abbrev size : ℕ
  size = run_length (b ∷ bytes)

  abbrev beyond : ℕ
  beyond = column_over (take (run_length (b ∷ bytes)) (b ∷ bytes)) c

  abbrev behind : Move
  behind = next_place bytes (o + 1) (column_after b c) m

  pub over_move : passed_over b m ≡ true → next_place (b ∷ bytes) o c m ≡ next_place bytes (o + 1) (column_after b c) m
  unfolding passed_over next_place
  over_move e = over_class o c (column_after b c) size beyond behind (class_of b) m e

  pub run_move :
      in_run b ≡ true
      → next_place (b ∷ bytes) o c m
      ≡ move false c o (run_length (b ∷ bytes))
      (position (o + run_length (b ∷ bytes)) (column_over (take (run_length (b ∷ bytes)) (b ∷ bytes)) c) true)
  unfolding in_run next_place
  run_move e = run_class_lem o c (column_after b c) size beyond behind (class_of b) m e

  pub break_move : passed_over b false ≡ true → passed_over b m ≡ false → next_place (b ∷ bytes) o c m ≡ move true c o 0 (position (o + 1) 0 false)
  unfolding passed_over next_place
  break_move e p = break_class o c (column_after b c) size beyond behind (class_of b) m e p

  pub single_move :
      in_run b ≡ false
      → passed_over b false ≡ false
      → passed_over b m ≡ false
      → next_place (b ∷ bytes) o c m ≡ move false c o 1 (position (o + 1) (column_after b c) true)
  unfolding in_run passed_over next_place
  single_move e k p = single_class o c (column_after b c) size beyond behind (class_of b) m e k p

-- From a position in a text whose byte is known.
pub at_byte : (text : List ℕ) (at c : ℕ) (m : Bool) → at < length text → next_in text (position at c m) ≡ next_place (get_or text at 0 ∷ drop (at + 1) text) at c m
at_byte text at c m h = ap (λ (l : List ℕ). next_place l at c m) (from_one text at h)

-- At the end of a text.
pub at_end : (text : List ℕ) (at c : ℕ) (m : Bool) → length text ≤ at → next_in text (position at c m) ≡ next_place [] at c m
at_end text at c m h = ap (λ (l : List ℕ). next_place l at c m) (drop_of_length-le text h)

-- A byte more of a run, and where a run ends.
pub run_more :
    (b : ℕ) (bytes : List ℕ) (c : ℕ)
    → in_run b ≡ true
    → (run_length (b ∷ bytes) ≡ suc (run_length bytes))
    × (column_over (take (run_length (b ∷ bytes)) (b ∷ bytes)) c
    ≡ column_over (take (run_length bytes) bytes) (column_after b c))
unfolding run_length column_over
run_more b bytes c e = (rw e refl, rw e refl)

pub run_none :
    (b : ℕ) (bytes : List ℕ) (c : ℕ)
    → in_run b ≡ false
    → (run_length (b ∷ bytes) ≡ 0) × (column_over (take (run_length (b ∷ bytes)) (b ∷ bytes)) c ≡ c)
unfolding run_length column_over
run_none b bytes c e = (rw e refl, rw e refl)

pub run_empty : (c : ℕ) → (run_length [] ≡ 0) × (column_over (take (run_length []) []) c ≡ c)
unfolding run_length column_over
run_empty c = (refl, refl)

-- A run from its first byte on, in a text.
pub run_on :
    (text : List ℕ) (at c : ℕ)
    → at < length text
    → in_run (get_or text at 0) ≡ true
    → (run_length (drop at text) ≡ suc (run_length (drop (at + 1) text)))
    × (column_over (take (run_length (drop at text)) (drop at text)) c
    ≡ column_over (take (run_length (drop (at + 1) text)) (drop (at + 1) text)) (column_after (get_or text at 0) c))
run_on text at c h q =
    let more = run_more (get_or text at 0) (drop (at + 1) text) c q in
    (rw (from_one text at h) more.0, rw (from_one text at h) more.1)

pub run_begun :
    (text : List ℕ) (s : Position)
    → s.offset < length text
    → in_run (get_or text s.offset 0) ≡ true
    → {d : ℕ}
    → d ≡ column_after (get_or text s.offset 0) s.column
    → {e : Position}
    → RunEnd text (position (s.offset + 1) d true) e
    → (e.offset ≡ s.offset + run_length (drop s.offset text))
    × (e.column ≡ column_over (take (run_length (drop s.offset text)) (drop s.offset text)) s.column)
run_begun text s h q w r =
    let on = run_on text s.offset s.column h q in
    (omega (arith, r.ends, on.0), r.column ∙ rw w (sym on.1))

-- A byte that is passed over, in a text.
pub skip_on :
    (text : List ℕ) (at c : ℕ) (m : Bool)
    → at < length text
    → passed_over (get_or text at 0) m ≡ true
    → {d : ℕ}
    → d ≡ column_after (get_or text at 0) c
    → next_in text (position at c m) ≡ next_in text (position (at + 1) d m)
skip_on text at c m h e w =
    at_byte text at c m h
    ∙ over_move (get_or text at 0) (drop (at + 1) text) at c m e
    ∙ ap (λ (d : ℕ). next_in text (position (at + 1) d m)) (sym w)

-- Of the bytes that are not passed over all but a break and a single byte begin a run.
run_left : (k : Class) (m : Bool) → passed_by k m ≡ false → (k ≡ Break → ⊥) → (k ≡ Single → ⊥) → run_class k ≡ true
run_left Break m e b s = absurd (b refl)
run_left Tab m e b s = absurd (true≢false e)
run_left Blank m e b s = absurd (true≢false e)
run_left Single m e b s = absurd (s refl)
run_left Digit m e b s = refl
run_left Run m e b s = refl
run_left Continuation m e b s = refl
run_left Refused m e b s = absurd (true≢false e)

-- What was found behind the bytes that were passed over, by the byte there.
module _ (text : List ℕ) {from s : Position} (k : Skipped text from s) where
  pub found_end : s.offset ≡ length text → s.mark ≡ true → move true s.column s.offset 0 (position s.offset s.column false) ≡ next_in text from
  unfolding next_place
  found_end h m = sym (at_end text s.offset s.column s.mark (le_of_eq (sym h)) ∙ rw m refl) ∙ sym k.same

  pub found_none : s.offset ≡ length text → s.mark ≡ false → (let v : Move = record { found = None; reached = s } in v ≡ next_in text from)
  unfolding next_place
  found_none h m = sym (at_end text s.offset s.column s.mark (le_of_eq (sym h)) ∙ rw m refl) ∙ sym k.same

  module _ (h : s.offset < length text) {class : Class} (c : class ≡ class_of (get_or text s.offset 0)) where
    abbrev byte : ℕ
    byte = get_or text s.offset 0

    abbrev rest : List ℕ
    rest = drop (s.offset + 1) text

    back : next_place (byte ∷ rest) s.offset s.column s.mark ≡ next_in text from
    back = sym (at_byte text s.offset s.column s.mark h) ∙ sym k.same

    pub found_break : class ≡ Break → move true s.column s.offset 0 (position (s.offset + 1) 0 false) ≡ next_in text from
    unfolding passed_over
    found_break e =
        sym (break_move byte rest s.offset s.column s.mark (sym (ap (λ (k : Class). passed_by k false) (sym e ∙ c))) (k.stops h)) ∙ back

    pub found_single : class ≡ Single → move false s.column s.offset (s.offset + 1 - s.offset) (position (s.offset + 1) (s.column + 1) true) ≡ next_in text from
    unfolding in_run passed_over column_after
    found_single e =
        let t : Single ≡ class_of byte = sym e ∙ c in
        let one : s.offset + 1 - s.offset ≡ 1 = omega arith in
        ap (λ (n : ℕ). move false s.column s.offset n (position (s.offset + 1) (s.column + 1) true)) one
        ∙ ap (λ (k : Class). move false s.column s.offset 1 (position (s.offset + 1) (column_by k s.column) true)) t
        ∙ sym (single_move byte rest s.offset s.column s.mark (sym (ap run_class t)) (sym (ap (λ (k : Class). passed_by k false) t)) (k.stops h))
        ∙ back

    pub run_begins : (class ≡ Break → ⊥) → (class ≡ Single → ⊥) → in_run (get_or text s.offset 0) ≡ true
    unfolding in_run passed_over
    run_begins b t = ap run_class (sym c) ∙ run_left class s.mark (ap (λ (k : Class). passed_by k s.mark) c ∙ k.stops h) b t

    pub found_run :
        (class ≡ Break → ⊥)
        → (class ≡ Single → ⊥)
        → {d : ℕ}
        → d ≡ column_by class s.column
        → {e : Position}
        → RunEnd text (position (s.offset + 1) d true) e
        → move false s.column s.offset (e.offset - s.offset) e ≡ next_in text from
    unfolding column_after
    found_run b t w {e} r =
        let q = run_begins b t in
        let run = run_begun text s h q (w ∙ ap (λ (k : Class). column_by k s.column) c) r in
        let n : e.offset - s.offset ≡ run_length (drop s.offset text) = omega (arith, run.0) in
        (λ i. move false s.column s.offset (n i) (position (run.0 i) (run.1 i) (r.mark i)))
        ∙ ap
        (λ (l : List ℕ).
        move false s.column s.offset (run_length l)
        (position (s.offset + run_length l) (column_over (take (run_length l) l) s.column) true))
        (from_one text s.offset h)
        ∙ sym (run_move byte rest s.offset s.column s.mark q)
        ∙ back
