-- What each turn of a loop keeps.
use lib.Seq.{sets}
use lib.ListN.{drop}
use Rattle.exports.specs.Bytes.{le32s}
use Prim.Native.Nat.{◌+◌, ◌*◌}
use mathlib.Core.Path.{◌≡◌}
use Rattle.exports.proofs.put_cells.Given as goal

abbrev pub invariant-loop-i : goal.invariant-loop-i
invariant-loop-i l = sets l.out (l.at + l.i * 4) (le32s (drop l.i l.cells)) ≡ sets l.initial.out l.at (le32s l.cells)
