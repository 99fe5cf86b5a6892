-- The places of a report: their offsets never fall, and none of them ends past the report.
use Prim.Native.Nat.{ℕ, zero, suc, ◌+◌, ◌≤◌, ◌<◌}
use mathlib.Core.Path.{◌≡◌}
use mathlib.Core.Bool.{Bool, true, false}
use mathlib.Core.List.{List, [], ◌∷◌, ◌++◌, append_assoc}
use native.Mathlib.Nat.{le_trans}
use native.Mathlib.Omega.{arith}
use lib.ListN.{length, get_or, drop, length-drop}
use Rattle.byte_class.specs.Bytes.{class_of}
use Rattle.byte_class.specs.declared.Class.{Class}
use Rattle.byte_class.specs.declared.Class.TheVariants.{Break, Tab, Blank, Single, Digit, Run, Continuation, Refused}
use Rattle.places.specs.Columns.{column_at}
use Rattle.places.specs.declared.Place.{Place}
use Rattle.places.specs.Places.{run_length}
use Rattle.token_words.specs.Places.{mid_run, had_token, line_end, place_by, place_at, places_at, places}
use Rattle.scanner.proofs.InsideLaws.{run_within}

-- Places whose offsets begin at or behind a number and never fall, none of which ends past a bound.
pub data Rising (bound : ℕ) : ℕ → List Place → Type 0 where
  none : {i : ℕ} → Rising bound i []
  more : {i : ℕ} {p : Place} {ps : List Place} → i ≤ p.offset → p.offset + p.length ≤ bound → Rising bound p.offset ps → Rising bound i (p ∷ ps)

lower : {bound i j : ℕ} {ps : List Place} → i ≤ j → Rising bound j ps → Rising bound i ps
lower h none = none
lower h (more a b r) = more (le_trans h a) b r

abbrev at : Bool → ℕ → ℕ → ℕ → Place
at ends c o n = record { ends = ends; column = c; offset = o; length = n }

-- The place that begins at a byte, in front of those behind the byte.
module _ (c o n : ℕ) {bound : ℕ} {ps : List Place} (h : o < bound) (k : o + n ≤ bound) (r : Rising bound (suc o) ps) where
  behind : Rising bound o ps
  behind = lower (omega arith) r

  begins_here : (ends : Bool) (m : ℕ) → o + m ≤ bound → Rising bound o (at ends c o m ∷ ps)
  begins_here ends m q = more {i = o} {p = at ends c o m} (omega arith) q behind

  at_byte : (class : Class) (had mid : Bool) → Rising bound o (place_by class had mid c o n ++ ps)
  at_byte Break true mid = begins_here true 0 (omega arith)
  at_byte Break false mid = behind
  at_byte Tab had mid = behind
  at_byte Blank had mid = behind
  at_byte Single had mid = begins_here false 1 (omega arith)
  at_byte Digit had true = behind
  at_byte Digit had false = begins_here false n k
  at_byte Run had true = behind
  at_byte Run had false = begins_here false n k
  at_byte Continuation had true = behind
  at_byte Continuation had false = begins_here false n k
  at_byte Refused had mid = behind

at_end : (had : Bool) (c o i : ℕ) → i ≤ o → Rising o i (line_end had c o)
at_end true c o i h = more {p = at true c o 0} h (omega arith) none
at_end false c o i h = none

rises :
    (text : List ℕ) (n i : ℕ)
    → i + n ≡ length text
    → Rising (length text) i (places_at text i n ++ line_end (had_token text (length text)) (column_at text (length text)) (length text))
unfolding places_at place_at
rises text zero i e = at_end (had_token text (length text)) (column_at text (length text)) (length text) i (omega arith)
rises text (suc n) i e =
    let inside : i + run_length (drop i text) ≤ length text = omega (arith, run_within (drop i text), length-drop i text) in
    rw append_assoc
    (at_byte (column_at text i) i (run_length (drop i text)) (omega arith) inside (rises text n (suc i) (omega arith))
    (class_of (get_or text i 0)) (had_token text i) (mid_run text i))

pub places_rise : (text : List ℕ) → Rising (length text) 0 (places text)
unfolding places
places_rise text = rises text (length text) 0 (omega arith)

-- The end of each, and the offset of the next.
pub ends_inside : {bound i : ℕ} {ps : List Place} → Rising bound i ps → (w : ℕ) (d : Place) → w < length ps → (get_or ps w d).offset + (get_or ps w d).length ≤ bound
ends_inside none w d h = absurd (omega arith)
ends_inside (more a b r) zero d h = b
ends_inside (more a b r) (suc w) d h = ends_inside r w d (omega arith)

pub next_offset : {bound i : ℕ} {ps : List Place} → Rising bound i ps → (w : ℕ) (d : Place) → suc w < length ps → (get_or ps w d).offset ≤ (get_or ps (suc w) d).offset
next_offset none w d h = absurd (omega arith)
next_offset (more a b none) w d h = absurd (omega arith)
next_offset (more a b (more a' b' r)) zero d h = a'
next_offset (more a b (more a' b' r)) (suc w) d h = next_offset (more a' b' r) w d (omega arith)
