-- What the passes need at their start, and that finished cells say what the definition says.
use Prim.Native.Nat.{ℕ, ◌<◌}
use mathlib.Core.Path.{◌≡◌, sym, ap, ◌∙◌}
use mathlib.Core.Bool.{Bool, true, false, false≢true}
use mathlib.Core.List.{List}
use lib.ListN.{get_or, replicate}
use native.Mathlib.Omega.{arith}
use Rattle.table.specs.Answer.{given}
use Rattle.table.specs.Checks.{table_answer}
use Rattle.table.specs.Form.{form, node_count}
use Rattle.table.proofs.Inside.{inside_table, counts_inside}
use Rattle.form_facts.specs.OneForm.{fact_of}
use Rattle.form_facts.specs.declared.Facts.{Facts}
use Rattle.well_formed.specs.Facts.{Fact, nothing, something, fails, May}
use Rattle.well_formed.specs.WellFormed.{WellFormed}
use Rattle.well_formed.specs.Check.{is_well, may_nothing, verdict_from}
use Rattle.well_formed.specs.InternalPasses.{no_facts, known, cell, FactsFinished, FactsReady, WellFinished, WellReady}
use Rattle.well_formed.proofs.RoundLaws.{all_known, all_found}
use Rattle.well_formed.proofs.DecidedLaws.{well_decided}
use Rattle.well_formed.proofs.PassLaws.{same_truth}
use Rattle.well_formed.proofs.CellLaws.{all_alike}
use Rattle.well_formed.proofs.VerdictLaws.{verdict_same}

module _ (nodes rules : List ℕ) (passing : table_answer nodes rules ≡ given tt) where
  pub facts_start : FactsReady nodes rules (replicate 512 no_facts)
  facts_start = record { room = (counts_inside nodes rules passing).1; true_ones = λ c e. absurd (none c.fact c.node e) }
    where
      none : (x : Fact) (n : ℕ) → known (replicate 512 no_facts) x n ≡ true → ⊥
      none nothing n e = false≢true (sym (ap (λ (f : Facts). fact_of f nothing) (all_alike 512 n no_facts)) ∙ e)
      none something n e = false≢true (sym (ap (λ (f : Facts). fact_of f something) (all_alike 512 n no_facts)) ∙ e)
      none fails n e = false≢true (sym (ap (λ (f : Facts). fact_of f fails) (all_alike 512 n no_facts)) ∙ e)

  module _ (cells : List Facts) (found : FactsFinished nodes rules cells) where
    all_nothing : (n : ℕ) → n < node_count nodes → May nodes rules (form nodes n) nothing → known cells nothing n ≡ true
    all_nothing n h d =
        all_known nodes rules (node_count nodes) (inside_table nodes rules passing) (known cells) (λ k l x e. found.closed (cell x k) l e) n h nothing d

    pub well_start : WellReady nodes rules cells (replicate 512 false)
    well_start =
        record {
          passing = passing;
          all_nothing = all_nothing;
          room = (counts_inside nodes rules passing).1;
          true_ones = λ n e. absurd (false≢true (sym (all_alike 512 n false) ∙ e));
        }

    module _ (well : List Bool) (finished : WellFinished nodes rules cells well) where
      found_well : (n : ℕ) → n < node_count nodes → WellFormed nodes rules (form nodes n) → get_or well n false ≡ true
      found_well n h d =
          all_found nodes rules (node_count nodes) (inside_table nodes rules passing) (known cells nothing)
          (λ m e. found.true_ones (cell nothing m) e) (λ m. get_or well m false) (λ m l e. finished.closed m l e) n h
          d

      -- The nodes found are those that are well formed by the definition.
      pub judged : verdict_from (λ m. get_or well m false) 0 (node_count nodes) ≡ verdict_from (is_well nodes rules) 0 (node_count nodes)
      unfolding is_well may_nothing
      judged =
          verdict_same (λ m. get_or well m false) (is_well nodes rules) 0 (node_count nodes)
          (λ n h.
          same_truth (get_or well n false) (is_well nodes rules n)
          (λ e. (well_decided nodes rules passing n (omega arith)).1 (finished.true_ones n e))
          (λ e. found_well n (omega arith) ((well_decided nodes rules passing n (omega arith)).0 e)))
