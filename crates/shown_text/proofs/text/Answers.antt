-- `shown_text::text` meets its contract.
use Rattle.shown_text.proofs.ShownLaws.{none_turned_down}
use Rattle.shown_text.proofs.text.Goals as goal

pub returns-in-Err : goal.returns-in-Err
returns-in-Err c = none_turned_down c.args.file.now c.args.report.now c.args.tokens.now c.args.capture _ c.in-Err.ensures
