-- Typing the arguments that are left in the cells as they are gives what typing the whole run in the cells at entry
-- gives (`run_turn`); cells past the end read as 0 and take no store, as in `typed_run`.
use native.Mathlib.Omega.{arith}
use Prim.Native.Nat.{◌+◌}
use mathlib.Core.Path.{sym, ◌∙◌}
use Rattle.elaborate.proofs.Turns.{run_turn, run_end}
use Rattle.elaborate.proofs.type_run.Goals as goal

pub loop-i-preserved : goal.loop-i-preserved
loop-i-preserved c =
    let m = run_turn c.args.table.now c.loop-i.arguments c.loop-i.i (c.args.first + c.args.count) (omega arith) in
    rw (c.put_cell.ensures, c.cell_at-ty.ensures, c.cell_at.ensures) (sym m ∙ c.loop-i.invariant)

pub returns : goal.returns
returns c =
    sym (run_end c.args.table.now c.loop-i.arguments c.loop-i.i (c.args.first + c.args.count) (omega arith))
    ∙ c.loop-i.invariant
