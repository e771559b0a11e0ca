-- The gate is check's; behind it the answer is padded to each slice's length.
use Rattle.functions.specs.Answer.{slices, held}
use Rattle.checker.proofs.Ends.{given_back, works, shorts, finished, same-long}
use Rattle.recheck.specs.Recheck.{recheck_of}
use Rattle.recheck.specs.Promise.{recheck_def}
use Rattle.recheck.proofs.Numbers.{silent}
use Rattle.std.proofs.Common.{rules}
use Rattle.rechecker.proofs.recheck.Goals as goal

pub returns-then-fits : goal.returns-then-fits
unfolding recheck_def
returns-then-fits c =
    let a = c.args in
    let o = recheck_of a.old.now a.table.now a.number a.new.now in
    let u = slices a.functions.now a.items.now a.arguments.now a.blocks.now a.predecessors.now in
    let kept = c.recheck_into-r.auto in
    let same = c.recheck_into-r.ensures.same in
    given_back c.finish.new.unit
    (works o a.message.now a.tokens.now a.names.now u c.fits_unit-unit.result c.fits.result
    c.fits_unit-unit.ensures.0 c.fits.ensures.0 c.if-fits.true _ _ _ _ _
    (finished o a.message.now a.tokens.now a.names.now u c.recheck_into-r.result _ _ _ _ _ _ _ _
    (silent a.old.now a.table.now a.number a.new.now) c.recheck_into-r.ensures.checks kept.message kept.tokens
    kept.names
    (same-long (held c.recheck_into-r.new.unit) u same.functions_long same.items_long same.arguments_long
    same.blocks_long
    same.predecessors_long)
    c.finish.ensures.finishes))
    (search rules) (search rules) (search rules) (search rules) (search rules)

pub returns : goal.returns
unfolding recheck_def
returns c =
    let a = c.args in
    shorts (recheck_of a.old.now a.table.now a.number a.new.now) a.message.now a.tokens.now a.names.now
    (slices a.functions.now a.items.now a.arguments.now a.blocks.now a.predecessors.now)
    c.fits_unit-unit.result c.fits.result c.fits_unit-unit.ensures.0 c.fits.ensures.0 c.if-fits.false _
    c.refused.ensures
