-- The names that are left, searched from here, give the whole answer.
use Prim.Native.Nat.{◌-◌}
use mathlib.Core.Path.{◌≡◌}
use Rattle.headers.specs.Spelled.{row_name, name_spelled}
use Rattle.headers.proofs.names.find_name.Given as goal

abbrev pub invariant-loop-x : goal.invariant-loop-x
invariant-loop-x l =
    name_spelled l.new l.names l.x (l.count - l.x) (row_name l.old l.rows l.i)
    ≡ name_spelled l.new l.names 0 l.count (row_name l.old l.rows l.i)
