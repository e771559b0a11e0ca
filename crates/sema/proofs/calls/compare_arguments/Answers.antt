-- The pairs passed by were of equal types, so those that are left compare as all of them do (`same-fine`). A turn takes
-- one argument and the two cells of its formal, so both runs stay in step.
use Rattle.std.proofs.lemmas.Result.{err_from_is_err_and}
use native.Mathlib.Omega.{arith}
use Prim.Native.Nat.{◌+◌, ◌-◌}
use mathlib.Core.Path.{◌≡◌, sym, ◌∙◌}
use Rattle.sema.specs.Typing.{types_of, same_all}
use Rattle.sema.proofs.Steps.{same-refused, same-fine}
use Rattle.sema.proofs.Turns.{variables_turn, variables_none, found_at, types_turn}
use Rattle.sema.proofs.calls.compare_arguments.Goals as goal

pub returns-in_err-expect_type : goal.returns-in_err-expect_type
unfolding types_of same_all
returns-in_err-expect_type c =
    let a = c.args in
    let i = c.loop-i.i in
    let m = variables_turn a.arguments.now a.run.first i a.run.count (omega arith) in
    let y = types_turn a.rows.now a.formal i a.run.count (omega arith) in
    let found = found_at a.table.now a.arguments.now (a.run.first + i) c.argument_at.ensures c.get-found.ensures in
    let p = err_from_is_err_and c.from_residual.result c.from_residual.ensures.1 in
    rw (p.1, p.2, ← c.loop-i.invariant, m, y, found)
    (same-refused _ _ _ _ _ (sym c.expect_type.ensures ∙ c.in_err-expect_type.was))

pub loop-i-preserved : goal.loop-i-preserved
unfolding types_of same_all
loop-i-preserved c =
    let a = c.args in
    let i = c.loop-i.i in
    let m = variables_turn a.arguments.now a.run.first i a.run.count (omega arith) in
    let y = types_turn a.rows.now a.formal i a.run.count (omega arith) in
    let found = found_at a.table.now a.arguments.now (a.run.first + i) c.argument_at.ensures c.get-found.ensures in
    same-fine a.table.now _ _ _ _ (sym c.expect_type.ensures ∙ c.in_ok-expect_type.was)
    ∙ rw (← c.loop-i.invariant, m, y, found)

pub returns : goal.returns
unfolding types_of same_all
returns c =
    let left : c.args.run.count - c.loop-i.i ≡ 0 = omega arith in
    rw (← c.loop-i.invariant, variables_none c.args.arguments.now (c.args.run.first + c.loop-i.i) _ left)
