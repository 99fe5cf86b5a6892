-- What a whole scan answers, check by check.
use Rattle.std.proofs.Common.{◌≡◌, ℕ, ◌*◌, ◌/◌, ◌≤◌, ◌<◌, Bool, true, false, ◌||◌, List, ◌++◌, length, drop, ltb, refl, sym, ap, ap₂, ◌∙◌, arith}
use mathlib.Core.Bool.{or-true}
use lib.ListN.{length-map}
use borrow.Author.Tests.{lt-ltb, le-ltb}
use Rattle.table.proofs.Words.{length_words}
use Rattle.table.specs.Limits.{most_tokens}
use Rattle.table.specs.Answer.{Answer, given, refused, refused_at, refuse_if, and_then, afterwards}
use Rattle.table.specs.Refusals.{turned_down}
use Rattle.table.specs.declared.refusals.Refusal.{Refusal}
use Rattle.table.proofs.AnswerLaws.{turned_first, first_passes}
use Rattle.grammar_file.specs.File.{Contents, keywords, fields_of, file_answer}
use Rattle.report_checks.specs.FirstChecks.{first_answer, Passed}
use Rattle.scanner.specs.Tokens.{token_of}
use Rattle.token_words.specs.Places.{places}
use Rattle.token_words.specs.Scan.{tokens, token_words, words_of, fails8, fails9, fails10, scan_tokens, scan_answer}

-- What is answered behind the checks that a scan begins with.
first_then :
    {A : Type 0} (a : Answer Contents) (b : Bool) (next : Answer A)
    → and_then (and_then a (refuse_if {A = Unit} b 8 (given tt))) next ≡ and_then a (refuse_if b 8 next)
first_then (given x) true next = refl
first_then (given x) false next = refl
first_then (refused n) b next = refl
first_then (refused_at n node) b next = refl

-- A whole scan.
module _ (file text : List ℕ) (lent : ℕ) where
  pub scan_first : (r : Refusal) → turned_down r ≡ first_answer file text → turned_down r ≡ scan_answer file text lent
  unfolding scan_answer first_answer
  scan_first r e =
      let later = refuse_if (fails9 text) 9 (refuse_if (fails10 text lent) 10 (given (length (places text)))) in
      sym (turned_first Unit r later) ∙ ap (λ (a : Answer Unit). and_then a later) e ∙ first_then (file_answer file) (fails8 text) later

  module _ {k : ℕ} (h : Passed file text k) where
    -- The further checks, by what each says.
    scan_by : {b c : Bool} → fails9 text ≡ b → fails10 text lent ≡ c → refuse_if b 9 (refuse_if c 10 (given (length (places text)))) ≡ scan_answer file text lent
    unfolding scan_answer first_answer
    scan_by q r = rw (← q, ← r) (first_passes _ h.passes ∙ first_then (file_answer file) (fails8 text) _)

    pub scan_9 : fails9 text ≡ true → refused 9 ≡ scan_answer file text lent
    scan_9 e = scan_by e refl

    module _ {m : ℕ} (d : (m ≡ length (places text)) × (fails9 text ≡ false)) where
      pub scan_many : most_tokens < m → refused 10 ≡ scan_answer file text lent
      unfolding fails10
      scan_many w = scan_by d.1 (ap (λ (b : Bool). b || ltb lent (length (places text) * 4)) (lt-ltb most_tokens (length (places text)) (rw (← d.0) w)))

      pub scan_short : lent / 4 < m → refused 10 ≡ scan_answer file text lent
      unfolding fails10
      scan_short w =
          scan_by d.1
          (ap (λ (b : Bool). ltb most_tokens (length (places text)) || b)
          (lt-ltb lent (length (places text) * 4) (omega (arith, d.0)))
          ∙ or-true (ltb most_tokens (length (places text))))

      pub scan_on : m ≤ most_tokens → m ≤ lent / 4 → given m ≡ scan_answer file text lent
      unfolding fails10
      scan_on a b =
          ap given d.0
          ∙ scan_by d.1
          (ap₂ ◌||◌ (le-ltb most_tokens (length (places text)) (rw (← d.0) a)) (le-ltb lent (length (places text) * 4) (omega (arith, d.0))))

-- The lent words after a scan.
pub words_after : (file text : List ℕ) (ks : List (List ℕ)) → keywords (fields_of file) ≡ ks → (old : List ℕ) {out : List ℕ} (n : ℕ)
    → out ≡ words_of (tokens ks text) ++ drop (length (places text) * 4) old → out ≡ afterwards (given n) (words_of (scan_tokens file text)) old
unfolding tokens
words_after file text ks q old n e =
    e
    ∙ ap (λ (k : ℕ). words_of (tokens ks text) ++ drop k old)
    (sym
    (length_words token_words (λ t. refl) (tokens ks text)
    ∙ ap (λ (k : ℕ). k * 4) (length-map (places text) (token_of ks text))))
    ∙ ap (λ (k : List (List ℕ)). words_of (tokens k text) ++ drop (length (words_of (tokens k text))) old) (sym q)
