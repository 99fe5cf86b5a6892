-- `answer_line::entry::first_line` meets its contract.
use Rattle.std.proofs.Common.{rules, ◌∙◌, sym, nat_eq}
use Rattle.std.proofs.lemmas.Iterator.{YieldsList-from_slice}
use Rattle.std.proofs.lemmas.Iterator.Search.{position_from_yields_List}
use Rattle.answer_line.proofs.EntryLaws.{first_some, first_none}
use Rattle.answer_line.proofs.entry.first_line.Goals as goal

pub returns-in-Some : goal.returns-in-Some
returns-in-Some c =
    let found =
    position_from_yields_List (λ b. nat_eq b 10) _ _ c.position.result c.position.ensures.ran
    (YieldsList-from_slice c.args.text.now c.iter.ensures.rest) (λ x b q k. search rules) in
    first_some _ _ _ (sym c.in-Some.is ∙ found)

pub returns-in-None : goal.returns-in-None
returns-in-None c =
    let found =
    position_from_yields_List (λ b. nat_eq b 10) _ _ c.position.result c.position.ensures.ran
    (YieldsList-from_slice c.args.text.now c.iter.ensures.rest) (λ x b q k. search rules) in
    first_none _ _ (sym c.in-None.is ∙ found)
