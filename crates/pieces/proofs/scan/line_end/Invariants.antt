-- What each turn of a loop keeps.
use Prim.Native.Nat.{◌≤◌, max}
use mathlib.Core.Path.{◌≡◌}
use lib.ListN.{length, drop}
use Rattle.pieces.specs.Pieces.{line_end}
use Rattle.pieces.proofs.scan.line_end.Given as goal

abbrev pub invariant-loop-i : goal.invariant-loop-i
invariant-loop-i l =
    (l.i ≤ max l.at (length l.text)) × (line_end (drop l.i l.text) l.i ≡ line_end (drop l.at l.text) l.at)
