-- What each turn of a loop keeps.
use Rattle.functions.specs.Rows.{types_at}
use Rattle.functions.specs.Columns.{formals_at}
use Rattle.utils.specs.Bytes.{same_bytes}
use Prim.Native.Nat.{◌+◌, ◌-◌, ◌*◌}
use mathlib.Core.Path.{◌≡◌}
use Rattle.functions.proofs.known.same_formals.Given as goal

abbrev pub invariant-loop-k : goal.invariant-loop-k
invariant-loop-k l =
    same_bytes (types_at l.rows (formals_at l.a + l.k * 2) (l.count - l.k))
    (types_at l.rows (formals_at l.b + l.k * 2) (l.count - l.k))
    ≡ same_bytes (types_at l.rows (formals_at l.a) l.count) (types_at l.rows (formals_at l.b) l.count)
