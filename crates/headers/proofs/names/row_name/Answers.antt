-- The two cells give a part of the old text, or lie outside it.
use borrow.Author.Tests.{le-leb, lt-leb}
use native.Mathlib.Omega.{arith}
use Prim.Native.Nat.{◌+◌, ◌-◌}
use mathlib.Core.Path.{◌≡◌}
use Rattle.utils.specs.Bytes.{pick}
use Rattle.pieces.proofs.Compare.{part_slice}
use Rattle.headers.specs.Spelled.{row_name}
use Rattle.headers.proofs.names.row_name.Goals as goal

pub returns-then-end-old : goal.returns-then-end-old
unfolding row_name pick
returns-then-end-old c =
    let e : c.cell_at-place.result + c.cell_at.result - c.cell_at-place.result ≡ c.cell_at.result = omega arith in
    rw (← c.cell_at-place.ensures, ← c.cell_at.ensures, le-leb _ _ c.if-end-old.true, e)
    (part_slice c.cell_at-place.result c.cell_at.result c.args.old.now)

pub returns : goal.returns
unfolding row_name pick
returns c =
    rw (← c.cell_at-place.ensures, ← c.cell_at.ensures, lt-leb _ _ c.if-end-old.false)
