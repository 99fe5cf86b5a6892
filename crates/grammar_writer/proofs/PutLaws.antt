-- Bytes put over a list from an index on, one field after the other.
use Prim.Native.Nat.{ℕ, zero, suc, ◌+◌, ◌*◌, ◌/◌, ◌%◌, ◌≤◌, ◌<◌}
use mathlib.Core.Path.{◌≡◌, refl, sym, ap, ap₂, ◌∙◌}
use mathlib.Core.List.{List, [], ◌∷◌, ◌++◌, append_assoc, append-nil}
use native.Mathlib.Nat.{add-zero, suc-mul, mul-le-mul_right}
use native.Mathlib.Numerals.{add-one}
use native.Mathlib.Omega.{arith}
use borrow.Author.Tests.{le-ltb}
use lib.ListN.{length, take, drop, length-append, length-drop, take-append-drop}
use lib.Seq.{length-take-le, take_at, drop_at, drop-drop}
use Rattle.table.specs.Words.{each_words, tabulate}
use Rattle.table.proofs.Words.{words_append}
use Rattle.slices.specs.Copied.{over, placed}
use Rattle.file_fields.specs.Fields.{Field}
use Rattle.grammar_writer.specs.FieldBytes.{field, field_bytes, bytes_of}

-- What fits is put.
pub put_fits : (at : ℕ) (bytes before : List ℕ) → at + length bytes ≤ length before → placed at bytes before ≡ over at bytes before
put_fits at bytes before h = rw (le-ltb (length before) (at + length bytes) h) refl

front_length : (at : ℕ) (x before : List ℕ) → at ≤ length before → length (take at before ++ x) ≡ at + length x
front_length at x before h = length-append (take at before) x ∙ ap (λ (n : ℕ). n + length x) (length-take-le at before h)

-- The list keeps its length.
pub length_over : (at : ℕ) (bytes before : List ℕ) → at + length bytes ≤ length before → length (over at bytes before) ≡ length before
length_over at bytes before h =
    length-append (take at before ++ bytes) (drop (at + length bytes) before)
    ∙ omega (arith, front_length at bytes before (omega arith), length-drop (at + length bytes) before)

-- Bytes put right behind others.
pub over_over :
    (at : ℕ) (x y before : List ℕ)
    → at + length x + length y ≤ length before
    → over (at + length x) y (over at x before) ≡ over at (x ++ y) before
over_over at x y before h =
    let front = take at before ++ x in
    let rest = drop (at + length x) before in
    let e = front_length at x before (omega arith) in
    let both : at + length x + length y ≡ at + length (x ++ y) = omega (arith, length-append x y) in
    ap₂ (λ (p q : List ℕ). p ++ y ++ q) (take_at front rest (at + length x) e)
    (sym (drop-drop (length y) (at + length x) (front ++ rest)) ∙ ap (drop (length y)) (drop_at front rest (at + length x) e) ∙ drop-drop (length y) (at + length x) before)
    ∙ ap₂ (λ (p : List ℕ) (n : ℕ). p ++ drop n before) (append_assoc (take at before) x y) both

-- One field: its tag and length, then its value in two parts.
module _ (t : ℕ) (head tail : List ℕ) where
  pub length_field : length (field_bytes (field t (head ++ tail))) ≡ 3 + (length head + length tail)
  unfolding field_bytes
  length_field = omega (arith, length-append head tail)

  module _ {h l : ℕ} (high : h ≡ (length head + length tail) / 256) (low : l ≡ (length head + length tail) % 256) where
    parts_are : (t ∷ h ∷ l ∷ []) ++ head ++ tail ≡ field_bytes (field t (head ++ tail))
    unfolding field_bytes
    parts_are =
        ap₂ (λ (a b : ℕ). t ∷ a ∷ b ∷ (head ++ tail))
        (high ∙ ap (λ (n : ℕ). n / 256) (sym (length-append head tail))) (low ∙ ap (λ (n : ℕ). n % 256) (sym (length-append head tail)))

    pub field_put :
        (to : ℕ) (old : List ℕ)
        → to + 3 + (length head + length tail) ≤ length old
        → placed (to + 3 + length head) tail (placed (to + 3) head (placed to (t ∷ h ∷ l ∷ []) old)) ≡ over to (field_bytes (field t (head ++ tail))) old
    field_put to old r =
        let front = t ∷ h ∷ l ∷ [] in
        let one = put_fits to front old (omega arith) in
        let first = length_over to front old (omega arith) in
        let two = put_fits (to + 3) head (over to front old) (omega (arith, first)) ∙ over_over to front head old (omega arith) in
        let second = length_over to (front ++ head) old (omega (arith, length-append front head)) in
        let at : to + 3 + length head ≡ to + length (front ++ head) = omega (arith, length-append front head) in
        ap (λ (b : List ℕ). placed (to + 3 + length head) tail (placed (to + 3) head b)) one
        ∙ ap (placed (to + 3 + length head) tail) two
        ∙ ap (λ (n : ℕ). placed n tail (over to (front ++ head) old)) at
        ∙ put_fits (to + length (front ++ head)) tail (over to (front ++ head) old) (omega (arith, second, at))
        ∙ over_over to (front ++ head) tail old (omega (arith, at))
        ∙ ap (λ (b : List ℕ). over to b old) parts_are

-- One field more.
bytes_more : (k : ℕ) (f : ℕ → Field) → bytes_of (tabulate (suc k) f) ≡ bytes_of (tabulate k f) ++ field_bytes (f k)
unfolding tabulate each_words
bytes_more k f =
    words_append field_bytes (tabulate k f) (f k ∷ [])
    ∙ ap (λ (l : List ℕ). bytes_of (tabulate k f) ++ l) (append-nil (field_bytes (f k)))

-- Fields of at most b bytes each.
module _ (f : ℕ → Field) (b : ℕ) where
  pub bytes_within : (k : ℕ) → ((i : ℕ) → i < k → length (field_bytes (f i)) ≤ b) → length (bytes_of (tabulate k f)) ≤ k * b
  unfolding tabulate each_words
  bytes_within zero h = omega arith
  bytes_within (suc k) h =
      let e = ap length (bytes_more k f) ∙ length-append (bytes_of (tabulate k f)) (field_bytes (f k)) in
      omega (arith, e, bytes_within k (λ i a. h i (omega arith)), h k (omega arith), suc-mul k b)

-- Bytes that were put over a list from an index on, and where they end.
module _ (to : ℕ) (old : List ℕ) where
  pub record Over (bytes : List ℕ) (end : ℕ) (out : List ℕ) : Type 0 where
    pub ends : end ≡ to + length bytes
    pub stands : out ≡ over to bytes old
    pub same : length out ≡ length old

  pub over_starts : Over [] to old
  over_starts = record { ends = sym (add-zero to); stands = sym (rw (add-zero to, append-nil (take to old)) (take-append-drop to old)); same = refl }

  -- More bytes right behind them.
  pub over_more :
      {bytes : List ℕ} {end : ℕ} {out : List ℕ}
      → Over bytes end out
      → (more : List ℕ) {m : ℕ} {next : List ℕ}
      → end + length more ≤ length old
      → m ≡ end + length more
      → next ≡ over end more out
      → Over (bytes ++ more) m next
  over_more {bytes} {end} {out} p more {m} {next} room e n =
      let ends = p.ends in
      let same = p.same in
      record {
        ends = omega (arith, e, ends, length-append bytes more);
        stands =
            n
            ∙ ap₂ (λ (k : ℕ) (l : List ℕ). over k more l) ends p.stands
            ∙ over_over to bytes more old (omega (arith, ends));
        same = ap length n ∙ length_over end more out (omega (arith, same)) ∙ same;
      }

-- The first k of some fields.
module _ (f : ℕ → Field) (to : ℕ) (old : List ℕ) where
  abbrev pub Put : ℕ → ℕ → List ℕ → Type 0
  Put k end out = Over to old (bytes_of (tabulate k f)) end out

  pub put_starts : Put 0 to old
  unfolding tabulate each_words
  put_starts = over_starts to old

  -- The next field, by its tag and its value in two parts: it may be put, and then it stands behind those before it.
  pub record Next (k end : ℕ) (out : List ℕ) (t : ℕ) (head tail : List ℕ) : Type 0 where
    pub asks : (length head + length tail < 65536) × (end + 3 + (length head + length tail) ≤ length out)
    pub puts :
        {m : ℕ} {next : List ℕ}
        → m ≡ end + length (field_bytes (field t (head ++ tail)))
        → next ≡ over end (field_bytes (field t (head ++ tail))) out
        → Put (k + 1) m next

  -- There is room for it, where there is room for count fields of at most b bytes.
  pub next_field :
      (k : ℕ) {end : ℕ} {out : List ℕ}
      → Put k end out
      → (b count : ℕ)
      → b < 65536
      → ((i : ℕ) → length (field_bytes (f i)) ≤ b)
      → k < count
      → to + count * b ≤ length old
      → (t : ℕ) (head tail : List ℕ)
      → f k ≡ field t (head ++ tail)
      → Next k end out t head tail
  next_field k {end} {out} p b count small each h r t head tail is =
      let ends = p.ends in
      let long = ap (λ (x : Field). length (field_bytes x)) is ∙ length_field t head tail in
      let room : end + length (field_bytes (f k)) ≤ length old =
      omega (arith, ends, bytes_within f b k (λ i a. each i), each k, suc-mul k b, mul-le-mul_right b h) in
      record {
        asks = (omega (arith, long, each k), omega (arith, long, room, p.same));
        puts = λ {m} {next} e n.
            let more = over_more to old p (field_bytes (f k)) {m = m} {next = next} room (rw is e) (rw is n) in
            rw (add-one, bytes_more k f) more;
      }
