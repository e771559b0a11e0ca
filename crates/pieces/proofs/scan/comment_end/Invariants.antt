-- What each turn of a loop keeps.
use mathlib.Core.Bool.{false}
use mathlib.Core.Path.{◌≡◌}
use lib.ListN.{drop}
use Rattle.pieces.specs.Pieces.{comment_end}
use Rattle.pieces.proofs.scan.comment_end.Given as goal

abbrev pub invariant-loop-i : goal.invariant-loop-i
invariant-loop-i l = comment_end l.star (drop l.i l.text) l.i ≡ comment_end false (drop l.at l.text) l.at
