-- The items are only read, so each record is the one at entry; typing the calls that are left in the arguments as they
-- are gives what typing all of them gives (`calls_turn`).
use native.Mathlib.Omega.{arith}
use Prim.Native.Nat.{◌+◌}
use mathlib.Core.Path.{sym, ◌∙◌}
use Rattle.elaborate.proofs.Turns.{calls_turn, calls_end}
use Rattle.elaborate.proofs.elaborate_calls.Goals as goal

pub loop-i-preserved : goal.loop-i-preserved
loop-i-preserved c =
    let m = calls_turn c.args.table.now c.args.items.now c.loop-i.arguments c.loop-i.i (c.args.first + c.args.count)
    (omega arith) in
    rw (c.type_call.ensures, c.record_at.ensures) (sym m ∙ c.loop-i.invariant)

pub returns : goal.returns
returns c =
    sym (calls_end c.args.table.now c.args.items.now c.loop-i.arguments c.loop-i.i (c.args.first + c.args.count)
    (omega arith)) ∙ c.loop-i.invariant
