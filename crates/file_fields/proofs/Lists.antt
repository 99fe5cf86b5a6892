-- Facts about parts of lists.
use Prim.Native.Nat.{ℕ, suc, ◌+◌, ◌≤◌, ◌<◌}
use mathlib.Core.Path.{◌≡◌, refl, sym, ap, ◌∙◌}
use mathlib.Core.List.{List, [], ◌∷◌, ◌++◌, append_assoc}
use native.Mathlib.Omega.{arith}
use native.Mathlib.Numerals.{add-one}
use lib.ListN.{length, get_or, drop, set, length-append, length-drop}
use lib.Seq.{drop-cons, set_at, append_snoc}

-- A list whose first n elements were written over has its old length.
pub length_written : {A : Type 0} (p old : List A) (n : ℕ) → length p ≡ n → n ≤ length old → length (p ++ drop n old) ≡ length old
length_written p old n e h = simp (length-append, length-drop) (omega arith)

-- One element more is written behind the first n, which makes m.
pub write_next :
    {A : Type 0} (p old : List A) (n m : ℕ) (v d : A)
    → length p ≡ n
    → n < length old
    → m ≡ n + 1
    → set (p ++ drop n old) n v ≡ (p ++ (v ∷ [])) ++ drop m old
write_next p old n m v d e h k =
    ap (λ (l : List _). set (p ++ l) n v) (drop-cons old n d h)
    ∙ set_at p (get_or old n d) (drop (suc n) old) v n e
    ∙ sym (append_snoc p v (drop (suc n) old))
    ∙ ap (λ (j : ℕ). (p ++ (v ∷ [])) ++ drop j old) (sym (k ∙ add-one n))

-- Four words more.
pub four_more : (p old : List ℕ) (n : ℕ) (a b c d : ℕ) → length p ≡ n → n + 3 < length old
    → set (set (set (set (p ++ drop n old) n a) (n + 1) b) (n + 2) c) (n + 3) d ≡ (p ++ (a ∷ b ∷ c ∷ d ∷ [])) ++ drop (n + 4) old
four_more p old n a b c d e h =
    let one : List ℕ = p ++ (a ∷ []) in
    let two : List ℕ = one ++ (b ∷ []) in
    let three : List ℕ = two ++ (c ∷ []) in
    ap (λ (l : List ℕ). set (set (set l (n + 1) b) (n + 2) c) (n + 3) d) (write_next p old n (n + 1) a 0 e (omega arith) refl)
    ∙ ap (λ (l : List ℕ). set (set l (n + 2) c) (n + 3) d) (write_next one old (n + 1) (n + 2) b 0 (simp length-append (omega arith)) (omega arith) (omega arith))
    ∙ ap (λ (l : List ℕ). set l (n + 3) d) (write_next two old (n + 2) (n + 3) c 0 (simp length-append (omega arith)) (omega arith) (omega arith))
    ∙ write_next three old (n + 3) (n + 4) d 0 (simp length-append (omega arith)) h (omega arith)
    ∙ ap (λ (l : List ℕ). l ++ drop (n + 4) old) joined
  where
    joined : (((p ++ (a ∷ [])) ++ (b ∷ [])) ++ (c ∷ [])) ++ (d ∷ []) ≡ p ++ (a ∷ b ∷ c ∷ d ∷ [])
    joined = simp append_assoc
