-- What each turn of a loop keeps.
use Prim.Native.Nat.{◌-◌, ◌*◌}
use mathlib.Core.Path.{◌≡◌}
use lib.Seq.{sets}
use Rattle.pitchsleet.specs.RecheckBytes.{cells_at}
use Rattle.pitchsleet.proofs.rechecks.get_cells.Given as goal

abbrev pub invariant-loop-i : goal.invariant-loop-i
invariant-loop-i l =
    sets l.cells l.i (cells_at l.bytes (l.i * 4) (l.n - l.i)) ≡ sets l.initial.cells 0 (cells_at l.bytes 0 l.n)
