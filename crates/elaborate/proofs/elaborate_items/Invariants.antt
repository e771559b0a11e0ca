-- What each turn of a loop keeps.
use Rattle.elaborate.specs.Types.{callee_of, typed_items}
use Prim.Native.Nat.{◌+◌, ◌-◌}
use mathlib.Core.Path.{◌≡◌}
use lib.ListN.{length}
use Rattle.elaborate.proofs.elaborate_items.Given as goal

abbrev pub invariant-loop-i : goal.invariant-loop-i
invariant-loop-i l = (length l.items ≡ length l.initial.items)
    × (typed_items l.table (callee_of l.rows l.n) l.items l.i (l.first + l.count - l.i)
    ≡ typed_items l.table (callee_of l.rows l.n) l.initial.items l.first l.count)
