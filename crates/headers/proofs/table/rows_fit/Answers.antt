-- What is left to test, tested from here, gives the whole answer.
use native.Mathlib.Omega.{arith}
use native.Mathlib.Nat.{sub-zero}
use Rattle.utils.specs.Bytes.{pick}
use Rattle.headers.proofs.Turns.{rows_more, rows_none}
use Rattle.headers.proofs.table.rows_fit.Goals as goal

pub loop-i-init : goal.loop-i-init
loop-i-init c = rw sub-zero

pub returns-then-not-row_fits : goal.returns-then-not-row_fits
unfolding pick
returns-then-not-row_fits c =
    rw (
      ← c.loop-i.invariant,
      rows_more c.args.old.now c.args.rows.now c.loop-i.i c.args.n (omega arith),
      ← c.row_fits.ensures,
      c.if-not-row_fits.true,
    )

pub loop-i-preserved : goal.loop-i-preserved
unfolding pick
loop-i-preserved c =
    rw (
      ← c.loop-i.invariant,
      rows_more c.args.old.now c.args.rows.now c.loop-i.i c.args.n (omega arith),
      ← c.row_fits.ensures,
      c.if-not-row_fits.false,
    )

pub returns : goal.returns
returns c =
    rw (← c.loop-i.invariant, rows_none c.args.old.now c.args.rows.now c.loop-i.i c.args.n (omega arith))
