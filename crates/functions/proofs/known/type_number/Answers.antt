-- No row before i has this function type, so the rows from i on give the number that all of them give (`known_more`);
-- with none left (`known-none`) the type is new, and its number is the count so far.
use native.Mathlib.Nat.{sub-zero}
use Rattle.functions.proofs.Turns.{known_more, known-none}
use Rattle.functions.specs.Known.{type_number}
use Rattle.utils.specs.Bytes.{pick}
use native.Mathlib.Omega.{arith}
use Rattle.functions.proofs.known.type_number.Goals as goal

pub returns-then-same_type : goal.returns-then-same_type
unfolding type_number pick
returns-then-same_type c =
    rw (
      ← c.loop-i.invariant,
      known_more c.args.rows.now c.loop-i.i c.args.n (omega arith),
      ← c.same_type.ensures,
      c.if-same_type.true,
    )

pub loop-i-preserved : goal.loop-i-preserved
unfolding type_number pick
loop-i-preserved c =
    rw (
      ← c.loop-i.invariant,
      known_more c.args.rows.now c.loop-i.i c.args.n (omega arith),
      ← c.same_type.ensures,
      c.if-same_type.false,
    )

pub returns : goal.returns
unfolding type_number
returns c =
    rw (← c.loop-i.invariant, known-none c.args.rows.now c.loop-i.i c.args.n (omega arith))

pub loop-i-init : goal.loop-i-init
loop-i-init c = rw sub-zero
