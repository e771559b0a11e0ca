-- Every argument passed by has a type, and `present_d` goes on behind such a one: so those that are left answer as all
-- of them do (`variables_turn`).
use Rattle.std.proofs.lemmas.Result.{err_from_is_err_and}
use native.Mathlib.Omega.{arith}
use Prim.Native.Nat.{◌+◌, ◌-◌}
use mathlib.Core.Path.{◌≡◌, sym, ◌∙◌}
use Rattle.sema.specs.Typing.{present_d}
use Rattle.sema.proofs.Steps.{look-refused, look-fine}
use Rattle.sema.proofs.Turns.{variables_turn, variables_none}
use Rattle.sema.proofs.calls.look_arguments.Goals as goal

pub returns-in_err-look : goal.returns-in_err-look
unfolding present_d
returns-in_err-look c =
    let m = variables_turn c.args.arguments.now c.args.run.first c.loop-i.i c.args.run.count (omega arith) in
    let p = err_from_is_err_and c.from_residual.result c.from_residual.ensures.1 in
    rw (p.1, p.2, ← c.loop-i.invariant, m, ← c.argument_at.ensures)
    (look-refused _ _ _ _ (sym c.look.ensures ∙ c.in_err-look.was))

pub loop-i-preserved : goal.loop-i-preserved
unfolding present_d
loop-i-preserved c =
    let m = variables_turn c.args.arguments.now c.args.run.first c.loop-i.i c.args.run.count (omega arith) in
    rw (← c.loop-i.invariant, m, ← c.argument_at.ensures)
    (look-fine _ _ _ _ (sym c.look.ensures ∙ c.in_ok-look.was))

pub returns : goal.returns
unfolding present_d
returns c =
    let left : c.args.run.count - c.loop-i.i ≡ 0 = omega arith in
    rw (← c.loop-i.invariant, variables_none c.args.arguments.now (c.args.run.first + c.loop-i.i) _ left)
