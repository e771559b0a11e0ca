-- The gate is that of `check_def`: behind it every slice is known to have its size (`works`), and where it
-- answers 30 nothing has been written (`shorts`).
use Rattle.functions.specs.Answer.{slices, held}
use Rattle.checker.proofs.Ends.{given_back, works, shorts, finished, same-long}
use Rattle.checker.proofs.Numbers.{silent}
use Rattle.checker.specs.Check.{check_of}
use Rattle.checker.specs.Promise.{check_def}
use Rattle.std.proofs.Common.{rules}
use Rattle.checker.proofs.check.Goals as goal

pub returns-then-fits : goal.returns-then-fits
unfolding check_def
returns-then-fits c =
    let a = c.args in
    let o = check_of a.text.now in
    let u = slices a.functions.now a.items.now a.arguments.now a.blocks.now a.predecessors.now in
    let kept = c.check_into-r.auto in
    let same = c.check_into-r.ensures.same in
    given_back c.finish.new.unit
    (works o a.message.now a.tokens.now a.names.now u c.fits_unit-unit.result c.fits.result
    c.fits_unit-unit.ensures.0 c.fits.ensures.0 c.if-fits.true _ _ _ _ _
    (finished o a.message.now a.tokens.now a.names.now u c.check_into-r.result _ _ _ _ _ _ _ _
    (silent a.text.now) c.check_into-r.ensures.checks kept.message kept.tokens kept.names
    (same-long (held c.check_into-r.new.unit) u same.functions_long same.items_long same.arguments_long same.blocks_long
    same.predecessors_long)
    c.finish.ensures.finishes))
    (search rules) (search rules) (search rules) (search rules) (search rules)

pub returns : goal.returns
unfolding check_def
returns c =
    let a = c.args in
    shorts (check_of a.text.now) a.message.now a.tokens.now a.names.now
    (slices a.functions.now a.items.now a.arguments.now a.blocks.now a.predecessors.now)
    c.fits_unit-unit.result c.fits.result c.fits_unit-unit.ensures.0 c.fits.ensures.0 c.if-fits.false _
    c.refused.ensures
