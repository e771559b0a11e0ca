-- What each turn of a loop keeps.
use Rattle.sema.specs.Items.{variables_at}
use Rattle.sema.specs.Typing.{present_d}
use Prim.Native.Nat.{◌+◌, ◌-◌}
use mathlib.Core.Path.{◌≡◌}
use Rattle.sema.proofs.calls.look_arguments.Given as goal

abbrev pub invariant-loop-i : goal.invariant-loop-i
invariant-loop-i l =
    present_d l.table l.token (variables_at l.arguments (l.run.first + l.i) (l.run.count - l.i))
    ≡ present_d l.table l.token (variables_at l.arguments l.run.first l.run.count)
