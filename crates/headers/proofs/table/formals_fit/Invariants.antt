-- What each turn of a loop keeps.
use Prim.Native.Nat.{◌-◌}
use mathlib.Core.Path.{◌≡◌}
use Rattle.headers.specs.Table.{formals_fit}
use Rattle.headers.proofs.table.formals_fit.Given as goal

abbrev pub invariant-loop-k : goal.invariant-loop-k
invariant-loop-k l = formals_fit l.rows l.i l.k (l.n - l.k) ≡ formals_fit l.rows l.i 0 l.n
