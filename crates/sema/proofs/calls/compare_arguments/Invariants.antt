-- What each turn of a loop keeps.
use Rattle.functions.specs.Rows.{types_at}
use Rattle.sema.specs.Items.{variables_at}
use Rattle.sema.specs.Typing.{types_of, same_all}
use Prim.Native.Nat.{◌+◌, ◌*◌, ◌-◌}
use mathlib.Core.Path.{◌≡◌}
use Rattle.sema.proofs.calls.compare_arguments.Given as goal

abbrev pub invariant-loop-i : goal.invariant-loop-i
invariant-loop-i l =
    same_all l.table l.token (types_of l.table (variables_at l.arguments (l.run.first + l.i) (l.run.count - l.i)))
    (types_at l.rows (l.formal + l.i * 2) (l.run.count - l.i))
    ≡ same_all l.table l.token (types_of l.table (variables_at l.arguments l.run.first l.run.count))
    (types_at l.rows l.formal l.run.count)
