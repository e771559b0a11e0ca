-- What each turn of a loop keeps.
use Rattle.elaborate.specs.Types.{typed_run}
use Prim.Native.Nat.{◌+◌, ◌-◌}
use mathlib.Core.Path.{◌≡◌}
use Rattle.elaborate.proofs.type_run.Given as goal

abbrev pub invariant-loop-i : goal.invariant-loop-i
invariant-loop-i l =
    typed_run l.table l.arguments l.i (l.first + l.count - l.i) ≡ typed_run l.table l.initial.arguments l.first l.count
