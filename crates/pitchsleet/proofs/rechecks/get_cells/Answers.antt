-- Storing the cells that are left from here on gives what storing all of them gives.
use mathlib.Core.Path.{◌∙◌}
use native.Mathlib.Omega.{arith}
use Rattle.pitchsleet.proofs.Tables.{cells-more, cells-none}
use Rattle.pitchsleet.proofs.rechecks.get_cells.Goals as goal

pub loop-i-preserved : goal.loop-i-preserved
loop-i-preserved c =
    rw c.get_cell.ensures
    (cells-more c.args.bytes.now c.loop-i.cells c.args.n c.loop-i.i (omega arith) ∙ c.loop-i.invariant)

pub returns : goal.returns
returns c =
    rw (cells-none c.args.bytes.now c.loop-i.cells c.args.n c.loop-i.i (omega arith)) at c.loop-i.invariant
