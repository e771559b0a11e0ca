-- A turn stores the record it read, with its types, at its own place, as `typed_items` does: so the items that are left,
-- typed in the cells as they are, give the whole (`items_turn`).
use native.Mathlib.Omega.{arith}
use Prim.Native.Nat.{◌+◌}
use mathlib.Core.Path.{sym, ◌∙◌}
use Rattle.elaborate.specs.Types.{callee_of}
use Rattle.elaborate.proofs.Turns.{items_turn, items_end}
use Rattle.elaborate.proofs.elaborate_items.Goals as goal

pub loop-i-preserved : goal.loop-i-preserved
loop-i-preserved c =
    let m = items_turn c.args.table.now (callee_of c.args.rows.now c.args.n) c.loop-i.items c.loop-i.i
    (c.args.first + c.args.count) (omega arith) in (
      c.put_record.auto.items ∙ c.loop-i.invariant.0,
      rw (c.put_record.ensures, c.typed_record.ensures, c.record_at-r.ensures) (sym m ∙ c.loop-i.invariant.1),
    )

pub returns : goal.returns
returns c =
    sym (items_end c.args.table.now (callee_of c.args.rows.now c.args.n) c.loop-i.items c.loop-i.i
    (c.args.first + c.args.count) (omega arith)) ∙ c.loop-i.invariant.1
