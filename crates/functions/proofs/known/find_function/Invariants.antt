-- What each turn of a loop keeps.
use Rattle.functions.specs.Rows.{row_from}
use Prim.Native.Nat.{◌-◌}
use mathlib.Core.Path.{◌≡◌}
use Rattle.functions.proofs.known.find_function.Given as goal

abbrev pub invariant-loop-i : goal.invariant-loop-i
invariant-loop-i l = row_from l.rows l.i (l.n - l.i) l.name.0 ≡ row_from l.rows 0 l.n l.name.0
