-- Loops that go from place to place: what is left at a move, counting the places, and writing their tokens.
use Rattle.std.proofs.Common.{◌≡◌, ℕ, ◌+◌, ◌*◌, ◌≤◌, ◌<◌, Bool, true, false, ◌||◌, Option, Some, None, List, [], ◌∷◌, ◌++◌, map, length, drop, refl, sym, ap, subst, ◌∙◌, append_assoc, arith, length-append}
use mathlib.Core.List.{map-append, append-nil}
use lib.ListN.{length-map}
use lib.Seq.{drop-drop}
use borrow.Rule.Slice.PartMut.{put_mid}
use Rattle.std.proofs.lemmas.List.{take_at, drop_at}
use borrow.Author.Tests.{lt-ltb, le-ltb}
use Rattle.table.specs.Words.{each_words}
use Rattle.table.proofs.Words.{words_append, length_words}
use Rattle.file_fields.proofs.Lists.{length_written}
use Rattle.places.specs.declared.Place.{Place}
use Rattle.places.specs.declared.Move.{Move}
use Rattle.places.specs.declared.Position.{Position}
use Rattle.places.specs.Moves.{position, next_within}
use Rattle.places.specs.InternalFind.{Room}
use Rattle.places.proofs.FindLaws.{with_room}
use Rattle.scanner.specs.declared.Token.{Token}
use Rattle.scanner.specs.Tokens.{token_of}
use Rattle.scanner.proofs.InsideLaws.{inside_of, found_inside}
use Rattle.token_words.specs.Places.{places}
use Rattle.token_words.specs.Scan.{tokens, token_words, words_of, over_column, fails9}
use Rattle.token_words.proofs.PlaceLaws.{listed, places_from, onward, places_from_lem, few_places}

-- What is left at a move: the place that it found, and those from the position behind it on.
abbrev pub ahead : List ℕ → Move → List Place
ahead text v = listed v.found (places_from text v.reached)

-- A move in a text: there is room where it goes, and what it found lies inside.
pub record Going (text : List ℕ) (v : Move) : Type 0 where
  pub room : Room text v.reached.offset v.reached.column
  pub inside : inside_of v.found (length text)

module _ (text : List ℕ) where
  -- From a position with room on.
  going : (p : Position) → Room text p.offset p.column → {v : Move} → v ≡ next_within text p → Going text v × (ahead text v ≡ places_from text p)
  going p r {v} e =
      let on = onward text p r in
      subst (λ (m : Move). Going text m × (ahead text m ≡ places_from text p)) (sym (e ∙ with_room text p r))
      (record { room = on.room; inside = found_inside text p r.within }, sym on.list)

  -- From the start on.
  pub going_start : length text ≤ 65535 → {v : Move} → v ≡ next_within text (position 0 0 false) → Going text v × (ahead text v ≡ places text)
  going_start h e =
      let g = going (position 0 0 false) (record { within = omega arith; fits = omega arith }) e in
      (g.0, g.1 ∙ sym (places_from_lem text))

  -- Nothing is left.
  pub none_left : (v : Move) → v.found ≡ None → ahead text v ≡ []
  none_left v n = ap (λ (o : Option Place). listed o (places_from text v.reached)) n

  -- A place, and the next move.
  module _ {v w : Move} {q : Place} (g : Going text v) (f : v.found ≡ Some q) (e : w ≡ next_within text v.reached) where
    pub goes_on : Going text w
    goes_on = (going v.reached g.room e).0

    pub one_more : ahead text v ≡ q ∷ ahead text w
    one_more =
        ap (λ (o : Option Place). listed o (places_from text v.reached)) f
        ∙ ap (λ (l : List Place). q ∷ l) (sym (going v.reached g.room e).1)

  pub lies_inside : {v : Move} {q : Place} → Going text v → v.found ≡ Some q → q.offset + q.length ≤ length text
  lies_inside g f = subst (λ (o : Option Place). inside_of o (length text)) f g.inside

  -- Counting the places, and looking for a column over the last.
  pub record Counting (n : ℕ) (v : Move) : Type 0 where
    pub going : Going text v
    pub total : n + length (ahead text v) ≡ length (places text)
    pub wide : over_column (ahead text v) ≡ fails9 text

  pub counting_start : length text ≤ 65535 → {v : Move} → v ≡ next_within text (position 0 0 false) → Counting 0 v
  unfolding fails9
  counting_start h e =
      let g = going_start h e in
      record { going = g.0; total = omega (arith, ap length g.1); wide = ap over_column g.1 }

  module _ {n : ℕ} {v : Move} (k : Counting n v) where
    pub counting_ends : v.found ≡ None → (n ≡ length (places text)) × (fails9 text ≡ false)
    unfolding over_column
    counting_ends z = (omega (arith, k.total, ap length (none_left v z)), sym (ap over_column (sym (none_left v z)) ∙ k.wide))

    module _ {w : Move} {q : Place} (f : v.found ≡ Some q) (e : w ≡ next_within text v.reached) where
      counting_more : over_column (q ∷ ahead text w) ≡ fails9 text
      counting_more = ap over_column (sym (one_more k.going f e)) ∙ k.wide

      pub counting_less : length (ahead text w) < length (ahead text v)
      counting_less = omega (arith, ap length (one_more k.going f e))

      pub counting_next : q.column ≤ 65535 → Counting (n + 1) w
      unfolding over_column
      counting_next b =
          record {
            going = goes_on k.going f e;
            total = omega (arith, k.total, ap length (one_more k.going f e));
            wide = sym (ap (λ (t : Bool). t || over_column (ahead text w)) (le-ltb 65535 q.column b)) ∙ counting_more;
          }

    module _ {q : Place} (f : v.found ≡ Some q) where
      counted : n + 1 + length (places_from text v.reached) ≡ length (places text)
      counted = omega (arith, k.total, ap (λ (o : Option Place). length (listed o (places_from text v.reached))) f)

      pub counting_fits : n ≤ length text
      counting_fits = omega (arith, counted, few_places text)

      pub counting_over : 65535 < q.column → fails9 text ≡ true
      unfolding over_column
      counting_over b =
          sym
          (sym (ap (λ (t : Bool). t || over_column (places_from text v.reached)) (lt-ltb 65535 q.column b))
          ∙ sym (ap (λ (o : Option Place). over_column (listed o (places_from text v.reached))) f)
          ∙ k.wide)

  -- Four words written behind the first ones.
  put_more : (p old ys : List ℕ) (to n : ℕ) → length p ≡ to → n ≡ 4 → put_mid to n (p ++ drop to old) ys ≡ (p ++ ys) ++ drop (to + 4) old
  put_more p old ys to n e h =
      rw (h, take_at p (drop to old) to e, drop_at p (drop to old) to e, drop-drop 4 to old)
      (sym (append_assoc p ys (drop (to + 4) old)))

  -- Writing the tokens: what was written, and the places that are left.
  module _ (keywords : List (List ℕ)) (old : List ℕ) where
    pub record Writing (v : Move) (to : ℕ) (out : List ℕ) : Type 0 where
      pub done : List Place
      pub going : Going text v
      pub all : done ++ ahead text v ≡ places text
      pub at : to ≡ length done * 4
      pub words : out ≡ words_of (map (token_of keywords text) done) ++ drop to old

    pub writing_start : length text ≤ 65535 → {v : Move} → v ≡ next_within text (position 0 0 false) → Writing v 0 old
    unfolding each_words
    writing_start h e = let g = going_start h e in record { done = []; going = g.0; all = g.1; at = refl; words = refl }

    module _ {v : Move} {to : ℕ} {out : List ℕ} (k : Writing v to out) where
      front : List ℕ
      front = words_of (map (token_of keywords text) k.done)

      front_length : length (words_of (map (token_of keywords text) k.done)) ≡ to
      front_length =
          length_words token_words (λ t. refl) (map (token_of keywords text) k.done)
          ∙ ap (λ (n : ℕ). n * 4) (length-map k.done (token_of keywords text))
          ∙ sym k.at

      total : length k.done + length (ahead text v) ≡ length (places text)
      total = sym (length-append k.done (ahead text v)) ∙ ap length k.all

      pub out_length : length (places text) * 4 ≤ length old → length out ≡ length old
      out_length h =
          ap length k.words
          ∙ length_written (words_of (map (token_of keywords text) k.done)) old to front_length (omega (arith, total, k.at))

      pub writing_ends : v.found ≡ None → out ≡ words_of (tokens keywords text) ++ drop (length (places text) * 4) old
      unfolding tokens
      writing_ends z =
          let whole : k.done ≡ places text =
          sym (append-nil k.done) ∙ ap (λ (l : List Place). k.done ++ l) (sym (none_left v z)) ∙ k.all in
          k.words
          ∙ ap (λ (n : ℕ). words_of (map (token_of keywords text) k.done) ++ drop n old) k.at
          ∙ ap (λ (l : List Place). words_of (map (token_of keywords text) l) ++ drop (length l * 4) old) whole

      module _ {q : Place} (f : v.found ≡ Some q) where
        pub writing_room : length (places text) * 4 ≤ length old → to + 4 ≤ length out
        writing_room h =
            omega (arith, total, out_length h, k.at, ap (λ (o : Option Place). length (listed o (places_from text v.reached))) f)

        module _ {w : Move} (e : w ≡ next_within text v.reached) where
          pub writing_less : length (ahead text w) < length (ahead text v)
          writing_less = omega (arith, ap length (one_more k.going f e))

          pub writing_next :
              {ys : List ℕ}
              → ys ≡ token_words (token_of keywords text q)
              → {n : ℕ}
              → n ≡ 4
              → Writing w (to + 4) (put_mid to n out ys)
          unfolding each_words
          writing_next {ys} y {n} z =
              let tok : Place → Token = token_of keywords text in
              record {
                done = k.done ++ (q ∷ []);
                going = goes_on k.going f e;
                all = append_assoc k.done (q ∷ []) (ahead text w)
                    ∙ ap (λ (l : List Place). k.done ++ l) (sym (one_more k.going f e))
                    ∙ k.all;
                at = simp length-append (omega (arith, k.at));
                words = ap (λ (l : List ℕ). put_mid to n l ys) k.words
                    ∙ put_more (words_of (map tok k.done)) old ys to n front_length z
                    ∙ ap (λ (l : List ℕ). (words_of (map tok k.done) ++ l) ++ drop (to + 4) old) y
                    ∙ ap (λ (l : List ℕ). l ++ drop (to + 4) old)
                    (sym (words_append token_words (map tok k.done) (tok q ∷ []))
                    ∙ ap words_of (sym (map-append tok k.done (q ∷ []))));
              }
