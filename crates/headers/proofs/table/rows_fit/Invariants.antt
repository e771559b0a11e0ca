-- What each turn of a loop keeps.
use Prim.Native.Nat.{◌-◌}
use mathlib.Core.Path.{◌≡◌}
use Rattle.headers.specs.Table.{rows_fit}
use Rattle.headers.proofs.table.rows_fit.Given as goal

abbrev pub invariant-loop-i : goal.invariant-loop-i
invariant-loop-i l = rows_fit l.old l.rows l.i (l.n - l.i) ≡ rows_fit l.old l.rows 0 l.n
