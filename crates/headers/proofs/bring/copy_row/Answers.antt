-- Storing the cells that are left from here on gives what storing all of them gives.
use Prim.Native.Nat.{◌+◌}
use native.Mathlib.Omega.{arith}
use native.Mathlib.Nat.{add-zero}
use Rattle.functions.specs.Columns.{row_at}
use Rattle.headers.proofs.Turns.{cells-more, cells-none}
use Rattle.headers.proofs.bring.copy_row.Goals as goal

pub loop-k-init : goal.loop-k-init
loop-k-init c = simp add-zero

pub loop-k-preserved : goal.loop-k-preserved
loop-k-preserved c =
    rw (
      ← c.loop-k.invariant,
      cells-more c.args.rows.now c.loop-k.out (row_at c.args.n) (row_at c.args.i) c.loop-k.k 45 (omega arith),
      ← c.cell_at.ensures,
    )

pub returns : goal.returns
returns c =
    rw (cells-none c.args.rows.now (row_at c.args.i + c.loop-k.k) c.loop-k.k 45 (omega arith)) at c.loop-k.invariant
