-- What each turn of a loop keeps.
use Prim.Native.Nat.{◌+◌, ◌-◌}
use mathlib.Core.Path.{◌≡◌}
use Rattle.link.specs.Table.{leading}
use Rattle.body.specs.Records.{parts_at}
use Rattle.link.proofs.labels.leading_labels.Given as goal

abbrev pub invariant-loop-i : goal.invariant-loop-i
invariant-loop-i l =
    l.i + leading (parts_at l.items (l.first + l.i) (l.count - l.i)) ≡ leading (parts_at l.items l.first l.count)
