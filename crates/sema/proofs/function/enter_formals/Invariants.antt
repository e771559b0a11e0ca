-- What each turn of a loop keeps.
use Rattle.sema.specs.Blocks.{formals_from, enter_formals_d}
use Prim.Native.Nat.{◌+◌, ◌*◌, ◌-◌}
use mathlib.Core.Path.{◌≡◌}
use lib.ListN.{length}
use Rattle.sema.proofs.function.enter_formals.Given as goal

abbrev pub invariant-loop-i : goal.invariant-loop-i
invariant-loop-i l = (length l.table ≡ length l.initial.table)
    × (enter_formals_d l.table l.token (formals_from l.rows (l.first + l.i * 2) (l.count - l.i))
    ≡ enter_formals_d l.initial.table l.token (formals_from l.rows l.first l.count))
