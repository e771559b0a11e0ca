-- The first k types are equal, so the rest of both runs compares as the whole does (`types_more`).
use native.Mathlib.Nat.{add-zero, sub-zero}
use Rattle.functions.proofs.Turns.{types_more, types-none}
use Rattle.utils.specs.Bytes.{pick, same_bytes}
use borrow.Author.Tests.{eq-eqb, ne_eqb}
use native.Mathlib.Omega.{arith}
use Rattle.functions.proofs.known.same_formals.Goals as goal

pub returns-then-rows-i : goal.returns-then-rows-i
unfolding same_bytes pick
returns-then-rows-i c =
    rw (
      ← c.loop-k.invariant,
      types_more c.args.rows.now c.args.a c.loop-k.k c.args.count (omega arith),
      types_more c.args.rows.now c.args.b c.loop-k.k c.args.count (omega arith),
      ne_eqb _ _ c.if-rows-i.true,
    )

pub loop-k-preserved : goal.loop-k-preserved
unfolding same_bytes pick
loop-k-preserved c =
    rw (
      ← c.loop-k.invariant,
      types_more c.args.rows.now c.args.a c.loop-k.k c.args.count (omega arith),
      types_more c.args.rows.now c.args.b c.loop-k.k c.args.count (omega arith),
      eq-eqb _ _ c.if-rows-i.false,
    )

pub returns : goal.returns
unfolding same_bytes
returns c =
    rw (
      ← c.loop-k.invariant,
      types-none c.args.rows.now c.args.a c.loop-k.k c.args.count (omega arith),
      types-none c.args.rows.now c.args.b c.loop-k.k c.args.count (omega arith),
    )

pub loop-k-init : goal.loop-k-init
loop-k-init c = rw (add-zero, add-zero, sub-zero)
