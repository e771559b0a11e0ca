-- Storing the cells from `i` on behind those before gives what storing all of them gives.
use lib.ListN.{drop_of_length-le}
use Rattle.exports.specs.Bytes.{le32s}
use Rattle.exports.proofs.Cells.{stored}
use native.Mathlib.Omega.{arith}
use mathlib.Core.Path.{◌∙◌}
use Rattle.exports.proofs.put_cells.Goals as goal

pub loop-i-preserved : goal.loop-i-preserved
loop-i-preserved c =
    rw c.put_cell.ensures (stored c.args.cells.now c.loop-i.out c.args.at c.loop-i.i (omega arith)) ∙ c.loop-i.invariant

pub returns : goal.returns
unfolding le32s
returns c = rw (drop_of_length-le c.args.cells.now {i = c.loop-i.i} (omega arith)) at c.loop-i.invariant
