-- `saktroum::saktroum_rule_name` meets its contract.
use Prim.Native.Nat.{ℕ}
use mathlib.Core.Path.{ap, ◌∙◌}
use mathlib.Core.List.{List}
use lib.ListN.{length}
use Rattle.slices.specs.Copied.{copied}
use Rattle.saktroum.proofs.saktroum_rule_name.Goals as goal

pub returns : goal.returns
returns c =
    record {
      value = c.copy.ensures.value ∙ ap length c.rule_name-name.ensures;
      out_after = c.copy.ensures.out_after ∙ ap (λ (bytes : List ℕ). copied bytes c.args.out.now) c.rule_name-name.ensures;
    }
