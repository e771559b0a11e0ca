-- What each turn of a loop keeps.
use Prim.Native.Nat.{◌+◌, ◌-◌, ◌≤◌}
use mathlib.Core.Path.{◌≡◌}
use Rattle.headers.specs.Brought.{brought, brought_from}
use Rattle.headers.proofs.bring.bring_rows.Given as goal

abbrev pub invariant-loop-from : goal.invariant-loop-from
invariant-loop-from l =
    (l.n ≤ l.at) × (l.at + l.i ≤ l.n + l.from)
    × (brought_from l.old l.rows l.new l.names l.known l.from (l.i + l.left - l.from) (brought l.out l.at)
    ≡ brought_from l.old l.rows l.new l.names l.known l.i l.left (brought l.initial.out l.n))
