-- Laws of `each_words`, over what the words are of, and of `tabulate`.
use Prim.Native.Nat.{ℕ, zero, suc, ◌*◌}
use mathlib.Core.Path.{◌≡◌, refl, sym, ap, ◌∙◌}
use mathlib.Core.List.{List, [], ◌∷◌, ◌++◌, append_assoc}
use lib.ListN.{length, length-append}
use native.Mathlib.Omega.{arith}
use Rattle.table.specs.Words.{each_words, tabulate}

module _ {A : Type 0} (words : A → List ℕ) where
  -- The words of two lists, one behind the other.
  pub words_append : (xs ys : List A) → each_words words (xs ++ ys) ≡ each_words words xs ++ each_words words ys
  unfolding each_words
  words_append [] ys = refl
  words_append (x ∷ xs) ys = ap (λ (l : List ℕ). words x ++ l) (words_append xs ys) ∙ sym (append_assoc (words x) (each_words words xs) (each_words words ys))

  -- Four words each.
  pub length_words : ((x : A) → length (words x) ≡ 4) → (xs : List A) → length (each_words words xs) ≡ length xs * 4
  unfolding each_words
  length_words four [] = refl
  length_words four (x ∷ xs) = length-append (words x) (each_words words xs) ∙ omega (arith, four x, length_words four xs)

-- A list by number has as many elements as were asked for.
pub length_tabulate : {A : Type 0} (k : ℕ) (f : ℕ → A) → length (tabulate k f) ≡ k
unfolding tabulate
length_tabulate zero f = refl
length_tabulate (suc k) f = simp (length-append, length_tabulate k f) (omega arith)
