-- The index of the keywords: how it is made, and why a search by it finds what a walk over all keywords finds.
use Rattle.std.proofs.Common.{◌≡◌, ℕ, zero, suc, ◌+◌, ◌-◌, ◌≤◌, ◌<◌, Bool, true, false, cond, Option, Some, None, List, [], length, get_or, drop, set, replicate, eqb, refl, sym, ap, subst, ◌∙◌, add-one, arith}
use mathlib.Core.Logic.{⊎_elim}
use native.Mathlib.Nat.{eq-or-lt_of_le}
use borrow.Author.Tests.{eqb-true, eqb-false}
use lib.ListN.{length-set, length-replicate, get_or-replicate, drop_of_length-le}
use lib.Seq.{drop-cons, get_or-set_same, get_or-set_other}
use Rattle.spellings.specs.Spellings.{same_bytes}
use Rattle.file_fields.specs.Offsets.{value_at, offset_of, keywords_from}
use Rattle.spellings.specs.Keys.{key_of}
use Rattle.spellings.proofs.SpellingLaws.{same_exactly}
use Rattle.number_spelling.specs.Number.{is_number}
use Rattle.scanner.specs.Tokens.{terminal_from}
use Rattle.token_words.specs.InternalIndex.{first_of, Starts, Linked, Indexed}
use Rattle.scanner.proofs.KeywordLaws.{length_keywords, keyword_at, decides, ended, step}

-- One offset more.
pub starts_more : {file offsets : List ℕ} {k at : ℕ} → Starts file k offsets → k < length offsets → at ≡ offset_of file 4 k → Starts file (k + 1) (set offsets k at)
starts_more {file} {offsets} {k} {at} s h e =
    record {
      room = simp length-set (omega arith);
      each = λ i a.
          ⊎_elim
          (λ p. rw p (get_or-set_same offsets k at 0 h ∙ e))
          (λ (b : i < k). get_or-set_other offsets k i at 0 (λ p. omega arith) ∙ s.each i b)
          (eq-or-lt_of_le (omega arith));
    }

module _ (keywords : List (List ℕ)) where
  first_none : (k x : ℕ) → length keywords ≤ k → first_of k (drop k keywords) x ≡ None
  unfolding first_of
  first_none k x h = rw (drop_of_length-le keywords {i = k} h) refl

  first_here : (k x : ℕ) → k < length keywords → first_of k (drop k keywords) x ≡ cond (eqb (key_of (get_or keywords k [])) x) (Some k) (first_of (k + 1) (drop (k + 1) keywords) x)
  unfolding first_of
  first_here k x h = rw (add-one, drop-cons keywords k [] h) refl

  -- No keyword is linked.
  pub linked_none :
      (firsts nexts : List (Option ℕ)) (k : ℕ)
      → k ≡ length keywords
      → firsts ≡ replicate 4096 None
      → length keywords ≤ length nexts
      → Linked keywords k firsts nexts
  linked_none firsts nexts k q e r =
      record {
        keys = ap length e ∙ length-replicate {A = Option ℕ} 4096 None;
        room = r;
        first = λ x h. ap (λ (l : List (Option ℕ)). get_or l x None) e ∙ get_or-replicate 4096 x None None h ∙ sym (first_none k x (omega arith));
        next = λ i a b. absurd (omega arith);
      }

  -- One keyword more, in front of those that are linked.
  module _ {firsts nexts : List (Option ℕ)} {k x : ℕ} (l : Linked keywords (k + 1) firsts nexts) (h : k < length keywords) (e : x ≡ key_of (get_or keywords k [])) (b : x < 4096) where
    first_more : (y : ℕ) → y < 4096 → get_or (set firsts x (Some k)) y None ≡ first_of k (drop k keywords) y
    first_more y c = by_test (eqb x y) refl ∙ sym (rw e (first_here k y h))
      where
        by_test : (t : Bool) → eqb x y ≡ t → get_or (set firsts x (Some k)) y None ≡ cond t (Some k) (first_of (k + 1) (drop (k + 1) keywords) y)
        by_test true p = rw (← eqb-true x y p) (get_or-set_same firsts x (Some k) None (omega (arith, l.keys)))
        by_test false p = get_or-set_other firsts x y (Some k) None (λ q. eqb-false x y p (sym q)) ∙ l.first y c

    next_more : (i : ℕ) → k ≤ i → i < length keywords → get_or (set nexts k (get_or firsts x None)) i None ≡ first_of (i + 1) (drop (i + 1) keywords) (key_of (get_or keywords i []))
    next_more i a c =
        ⊎_elim
        (λ p. rw (← p, ← e) (get_or-set_same nexts k (get_or firsts x None) None (omega (arith, l.room)) ∙ l.first x b))
        (λ (d : k < i). get_or-set_other nexts k i (get_or firsts x None) None (λ p. omega arith) ∙ l.next i (omega arith) c)
        (eq-or-lt_of_le a)

    pub linked_more : Linked keywords k (set firsts x (Some k)) (set nexts k (get_or firsts x None))
    linked_more = record { keys = simp length-set l.keys; room = simp length-set l.room; first = first_more; next = next_more }

-- Keyword k of a file, in front of those behind it.
pub link_next :
    {file offsets v : List ℕ} {firsts nexts : List (Option ℕ)} {count k x : ℕ}
    → Starts file count offsets
    → k < count
    → Linked (keywords_from file count) (k + 1) firsts nexts
    → v ≡ value_at file (get_or offsets k 0)
    → x ≡ key_of v
    → x < 4096
    → Linked (keywords_from file count) k (set firsts x (Some k)) (set nexts k (get_or firsts x None))
link_next {file} {count = count} {k} s d l e q b =
    linked_more (keywords_from file count) l (rw length_keywords d)
    (q ∙ ap key_of (e ∙ ap (value_at file) (s.each k d) ∙ sym (keyword_at file count k d))) b

-- Spellings with different keys differ.
differ : (w s : List ℕ) → eqb (key_of w) (key_of s) ≡ false → same_bytes w s ≡ false
differ w s e = by_test (same_bytes w s) refl
  where
    by_test : (t : Bool) → same_bytes w s ≡ t → t ≡ false
    by_test true p = absurd (eqb-false _ _ e (ap key_of ((same_exactly w s).0 p)))
    by_test false p = refl

-- The terminal of a spelling if a search goes on at a keyword, or ends.
abbrev pub decided : List (List ℕ) → List ℕ → Option ℕ → ℕ
decided keywords s None = cond (is_number s) 0 1
decided keywords s (Some j) = terminal_from j (drop j keywords) s

-- A search goes on at keyword k or behind it, at one with the key of the spelling.
abbrev pub Keyed : List (List ℕ) → List ℕ → ℕ → Option ℕ → Type 0
Keyed keywords s k None = Unit
Keyed keywords s k (Some j) = (k ≤ j) × (j < length keywords) × (key_of (get_or keywords j []) ≡ key_of s)

-- A search that goes on there as well as at keyword k: none between the two is the same.
pub record Reached (keywords : List (List ℕ)) (s : List ℕ) (k : ℕ) (next : Option ℕ) : Type 0 where
  pub same : terminal_from k (drop k keywords) s ≡ decided keywords s next
  pub keyed : Keyed keywords s k next

-- How many keywords are left to such a search.
abbrev pub to_go : ℕ → Option ℕ → ℕ
to_go count None = 0
to_go count (Some k) = count - k

module _ (keywords : List (List ℕ)) (s : List ℕ) where
  keyed_before : (k : ℕ) (next : Option ℕ) → Keyed keywords s (k + 1) next → Keyed keywords s k next
  keyed_before k None h = tt
  keyed_before k (Some j) h = (omega (arith, h.0), h.1, h.2)

  less_to_go : (count k : ℕ) (next : Option ℕ) → k < count → Keyed keywords s (k + 1) next → to_go count next < count - k
  less_to_go count k None b h = omega arith
  less_to_go count k (Some j) b h = omega (arith, h.0)

  reached : (n k : ℕ) → n + k ≡ length keywords → Reached keywords s k (first_of k (drop k keywords) (key_of s))
  reached zero k e =
      rw (first_none keywords k (key_of s) (omega arith)) (record { same = ended keywords k s (omega arith); keyed = tt })
  reached (suc n) k e =
      rw (first_here keywords k (key_of s) (omega arith))
      (by_test (eqb (key_of (get_or keywords k [])) (key_of s)) refl (reached n (k + 1) (omega arith)))
    where
      by_test : (t : Bool) → eqb (key_of (get_or keywords k [])) (key_of s) ≡ t → Reached keywords s (k + 1) (first_of (k + 1) (drop (k + 1) keywords) (key_of s))
          → Reached keywords s k (cond t (Some k) (first_of (k + 1) (drop (k + 1) keywords) (key_of s)))
      by_test true p r = record { same = refl; keyed = (omega arith, omega arith, eqb-true _ _ p) }
      by_test false p r =
          record {
            same =
                decides keywords k s (omega arith)
                ∙ ap (λ (t : Bool). cond t (3 + k) (terminal_from (k + 1) (drop (k + 1) keywords) s)) (differ (get_or keywords k []) s p)
                ∙ r.same;
            keyed = keyed_before k (first_of (k + 1) (drop (k + 1) keywords) (key_of s)) r.keyed;
          }

-- A search by an index.
module _ {file : List ℕ} {count : ℕ} {offsets : List ℕ} {firsts nexts : List (Option ℕ)} (x : Indexed file count offsets firsts nexts) (s : List ℕ) where
  -- It begins with the first keyword that has the key.
  pub search_start : {key : ℕ} → key ≡ key_of s → key < 4096 → Reached (keywords_from file count) s 0 (get_or firsts key None)
  search_start {key} e h = rw (x.linked.first key h, e) (reached (keywords_from file count) s (length (keywords_from file count)) 0 (omega arith))

  module _ {next : Option ℕ} {k : ℕ} (r : Reached (keywords_from file count) s 0 next) (f : next ≡ Some k) where
    here : Reached (keywords_from file count) s 0 (Some k)
    here = subst (Reached (keywords_from file count) s 0) f r

    inside : k < length (keywords_from file count)
    inside = here.keyed.1

    pub search_inside : k < count
    search_inside = omega (arith, inside, length_keywords file count)

    -- The next one of its key.
    onward : Reached (keywords_from file count) s (k + 1) (get_or nexts k None)
    onward =
        rw (x.linked.next k (omega arith) inside, here.keyed.2)
        (reached (keywords_from file count) s (length (keywords_from file count) - (k + 1)) (k + 1) (omega (arith, inside)))

    pub search_less : to_go count (get_or nexts k None) < to_go count next
    search_less = rw f (less_to_go (keywords_from file count) s count k (get_or nexts k None) search_inside onward.keyed)

    module _ {v : List ℕ} {t : Bool} (e : v ≡ value_at file (get_or offsets k 0)) (q : t ≡ same_bytes v s) where
      -- Keyword k decides, or those behind it.
      pub search_here : terminal_from 0 (keywords_from file count) s ≡ cond t (3 + k) (terminal_from (k + 1) (drop (k + 1) (keywords_from file count)) s)
      search_here = here.same ∙ step file count k s (x.starts.each k search_inside) search_inside e q

      pub search_next : t ≡ false → Reached (keywords_from file count) s 0 (get_or nexts k None)
      search_next g =
          record {
            same = search_here ∙ ap (λ (b : Bool). cond b (3 + k) (terminal_from (k + 1) (drop (k + 1) (keywords_from file count)) s)) g ∙ onward.same;
            keyed = keyed_any k (get_or nexts k None) onward.keyed;
          }
        where
          keyed_any : (k : ℕ) (next : Option ℕ) → Keyed (keywords_from file count) s (k + 1) next → Keyed (keywords_from file count) s 0 next
          keyed_any k None h = tt
          keyed_any k (Some j) h = (omega arith, h.1, h.2)
