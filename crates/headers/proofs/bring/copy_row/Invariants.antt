-- What each turn of a loop keeps.
use Prim.Native.Nat.{◌-◌, ◌+◌}
use mathlib.Core.Path.{◌≡◌}
use lib.Seq.{sets}
use Rattle.functions.specs.Columns.{row_at}
use Rattle.headers.specs.Brought.{cells_from}
use Rattle.headers.proofs.bring.copy_row.Given as goal

abbrev pub invariant-loop-k : goal.invariant-loop-k
invariant-loop-k l =
    sets l.out (row_at l.n + l.k) (cells_from l.rows (row_at l.i + l.k) (45 - l.k))
    ≡ sets l.initial.out (row_at l.n) (cells_from l.rows (row_at l.i) 45)
