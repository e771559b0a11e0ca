-- What each turn of a loop keeps.
use Rattle.std.proofs.Common.{◌≡◌, ◌+◌, length}
use lib.ListN.{drop}
use Rattle.std.proofs.lemmas.List.Edits.{sets}
use Rattle.utils.proofs.put_cells.Given as goal

abbrev pub invariant-loop-i : goal.invariant-loop-i
invariant-loop-i g l =
    (length l.cells ≡ length l.initial.cells)
    × (sets l.cells (l.at + l.i) (drop l.i l.part) ≡ sets l.initial.cells l.at l.part)
