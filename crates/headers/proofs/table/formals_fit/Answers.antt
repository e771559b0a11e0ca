-- What is left to test, tested from here, gives the whole answer.
use native.Mathlib.Omega.{arith}
use native.Mathlib.Nat.{sub-zero}
use Rattle.utils.specs.Bytes.{pick}
use Rattle.headers.proofs.Turns.{formals-more, formals-none}
use Rattle.headers.proofs.table.formals_fit.Goals as goal

pub loop-k-init : goal.loop-k-init
loop-k-init c = rw sub-zero

pub returns-then-not-is_between : goal.returns-then-not-is_between
unfolding pick
returns-then-not-is_between c =
    rw (
      ← c.loop-k.invariant,
      formals-more c.args.rows.now c.args.i c.loop-k.k c.args.n (omega arith),
      ← c.cell_at.ensures,
      ← c.is_between.ensures,
      c.if-not-is_between.true,
    )

pub loop-k-preserved : goal.loop-k-preserved
unfolding pick
loop-k-preserved c =
    rw (
      ← c.loop-k.invariant,
      formals-more c.args.rows.now c.args.i c.loop-k.k c.args.n (omega arith),
      ← c.cell_at.ensures,
      ← c.is_between.ensures,
      c.if-not-is_between.false,
    )

pub returns : goal.returns
returns c =
    rw (← c.loop-k.invariant, formals-none c.args.rows.now c.args.i c.loop-k.k c.args.n (omega arith))
