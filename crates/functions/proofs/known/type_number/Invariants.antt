-- What each turn of a loop keeps.
use Rattle.functions.specs.Rows.{known_from, types_at}
use Rattle.functions.specs.Columns.{formals_at}
use Rattle.functions.specs.Known.{type_number}
use Prim.Native.Nat.{◌-◌}
use mathlib.Core.Path.{◌≡◌}
use mathlib.Core.List.{◌∷◌}
use Rattle.functions.proofs.known.type_number.Given as goal

abbrev pub invariant-loop-i : goal.invariant-loop-i
invariant-loop-i l =
    let signed = l.ret ∷ l.count ∷ types_at l.rows (formals_at l.n) l.count in
    type_number (known_from l.rows l.i (l.n - l.i)) signed l.types
    ≡ type_number (known_from l.rows 0 l.n) signed l.types
