-- By what the record's last two cells hold, as `item_by`.
use mathlib.Core.Path.{◌∙◌}
use Rattle.sema.proofs.Records.{item-plain, item-branch, item-call, item-call_into}
use Rattle.sema.proofs.Sema.analyze_record.Goals as goal

pub returns-then-r-eq-CALL_INTO : goal.returns-then-r-eq-CALL_INTO
returns-then-r-eq-CALL_INTO c =
    c.analyze_call_into.ensures ∙ item-call_into _ _ _ _ c.args.r _ c.in-Run.is c.if-r-eq-CALL_INTO.true

pub returns-in-Labels : goal.returns-in-Labels
returns-in-Labels c = item-branch _ _ _ _ c.args.r _ c.in-Labels.is

pub returns-else-r-eq-CALL_INTO : goal.returns-else-r-eq-CALL_INTO
returns-else-r-eq-CALL_INTO c =
    c.analyze_call.ensures ∙ item-call _ _ _ _ c.args.r _ c.in-Run.is c.if-r-eq-CALL_INTO.false

pub returns-in-Name : goal.returns-in-Name
returns-in-Name c = c.analyze_plain.ensures ∙ item-plain _ _ _ _ c.args.r _ c.in-Name.is
