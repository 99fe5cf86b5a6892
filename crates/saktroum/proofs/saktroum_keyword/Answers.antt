-- `saktroum::saktroum_keyword` meets its contract.
use Prim.Native.Nat.{ℕ}
use mathlib.Core.Path.{ap, ◌∙◌}
use mathlib.Core.List.{List}
use lib.ListN.{length}
use Rattle.slices.specs.Copied.{copied}
use Rattle.saktroum.proofs.saktroum_keyword.Goals as goal

pub returns : goal.returns
returns c =
    record {
      value = c.copy.ensures.value ∙ ap length c.keyword-keyword.ensures;
      out_after = c.copy.ensures.out_after ∙ ap (λ (bytes : List ℕ). copied bytes c.args.out.now) c.keyword-keyword.ensures;
    }
