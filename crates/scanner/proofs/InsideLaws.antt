-- The place that a move finds lies in the text.
use Prim.Native.Nat.{ℕ, suc, ◌+◌, ◌≤◌}
use mathlib.Core.Path.{◌≡◌}
use mathlib.Core.Bool.{Bool, true, false, cond}
use mathlib.Core.List.{List, [], ◌∷◌}
use Rattle.std.proofs.Common.{Option, Some, None}
use lib.ListN.{length, drop, length-drop}
use native.Mathlib.Omega.{arith}
use Rattle.byte_class.specs.Bytes.{class_of}
use Rattle.byte_class.specs.declared.Class.{Class}
use Rattle.byte_class.specs.declared.Class.TheVariants.{Break, Tab, Blank, Single, Digit, Run, Continuation, Refused}
use Rattle.places.specs.Columns.{column_after}
use Rattle.places.specs.Places.{in_run, run_length}
use Rattle.places.specs.declared.Place.{Place}
use Rattle.places.specs.Moves.{move_by, next_place, next_in}
use Rattle.places.specs.declared.Position.{Position}
use Rattle.places.specs.declared.Move.{Move}

-- What is found ends at an offset or before.
abbrev pub inside_of : Option Place → ℕ → Type 0
inside_of None end = Unit
inside_of (Some p) end = p.offset + p.length ≤ end

-- A run is no longer than the bytes.
pub run_within : (bytes : List ℕ) → run_length bytes ≤ length bytes
unfolding run_length
run_within [] = omega arith
run_within (b ∷ bytes) = by_test (in_run b) (run_within bytes)
  where
    by_test : (t : Bool) → run_length bytes ≤ length bytes → cond t (suc (run_length bytes)) 0 ≤ suc (length bytes)
    by_test true h = omega arith
    by_test false h = omega arith

inside_by :
    (k : Class) (m : Bool) (o c next n after size : ℕ) (rest : Move)
    → n ≤ size
    → 1 ≤ size
    → inside_of rest.found (o + size)
    → inside_of (move_by k m o c next n after rest).found (o + size)
inside_by Break true o c next n after size rest h i r = omega arith
inside_by Break false o c next n after size rest h i r = r
inside_by Tab m o c next n after size rest h i r = r
inside_by Blank m o c next n after size rest h i r = r
inside_by Single m o c next n after size rest h i r = omega arith
inside_by Digit m o c next n after size rest h i r = omega arith
inside_by Run m o c next n after size rest h i r = omega arith
inside_by Continuation m o c next n after size rest h i r = omega arith
inside_by Refused m o c next n after size rest h i r = r

inside_same : (f : Option Place) (x y : ℕ) → x ≡ y → inside_of f x → inside_of f y
inside_same f x y e h = rw (← e) h

inside_bytes : (bytes : List ℕ) (o c : ℕ) (m : Bool) → inside_of (next_place bytes o c m).found (o + length bytes)
unfolding next_place
inside_bytes [] o c true = omega arith
inside_bytes [] o c false = tt
inside_bytes (b ∷ bytes) o c m =
    inside_by (class_of b) m o c (column_after b c) (run_length (b ∷ bytes)) _ (suc (length bytes))
    (next_place bytes (o + 1) (column_after b c) m) (run_within (b ∷ bytes)) (omega arith)
    (inside_same (next_place bytes (o + 1) (column_after b c) m).found (o + 1 + length bytes) (o + suc (length bytes)) (omega arith)
    (inside_bytes bytes (o + 1) (column_after b c) m))

pub found_inside : (text : List ℕ) (p : Position) → p.offset ≤ length text → inside_of (next_in text p).found (length text)
found_inside text p w =
    inside_same (next_in text p).found (p.offset + length (drop p.offset text)) (length text)
    (omega (arith, length-drop p.offset text)) (inside_bytes (drop p.offset text) p.offset p.column p.mark)
