-- What each turn of a loop keeps.
use Prim.Native.Nat.{◌+◌, ◌-◌}
use mathlib.Core.Path.{◌≡◌}
use Rattle.link.specs.Steps.{run}
use Rattle.body.specs.Records.{parts_at}
use Rattle.link.proofs.close.block_end.Given as goal

abbrev pub invariant-loop-i : goal.invariant-loop-i
invariant-loop-i l =
    l.i + run (parts_at l.items l.i (l.end - l.i)) ≡ l.from + run (parts_at l.items l.from (l.end - l.from))
