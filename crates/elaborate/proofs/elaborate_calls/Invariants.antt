-- What each turn of a loop keeps.
use Rattle.elaborate.specs.Types.{typed_calls}
use Prim.Native.Nat.{◌+◌, ◌-◌}
use mathlib.Core.Path.{◌≡◌}
use Rattle.elaborate.proofs.elaborate_calls.Given as goal

abbrev pub invariant-loop-i : goal.invariant-loop-i
invariant-loop-i l =
    typed_calls l.table l.items l.arguments l.i (l.first + l.count - l.i)
    ≡ typed_calls l.table l.items l.initial.arguments l.first l.count
