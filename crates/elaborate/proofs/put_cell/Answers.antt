-- `set` changes nothing outside the list (`set_out`), so leaving out the store there is right.
use lib.Seq.{set_out}
use mathlib.Core.Path.{sym}
use Rattle.elaborate.proofs.put_cell.Goals as goal

pub returns-else-at-cells : goal.returns-else-at-cells
returns-else-at-cells c =
    sym (set_out c.args.cells.now c.args.at c.args.v c.if-at-cells.false)
