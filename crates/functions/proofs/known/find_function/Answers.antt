-- No row before i has the name, so searching from row i on finds what searching all rows finds (`row-later`), and the
-- first row that has it is the answer (`row_here`).
use Rattle.functions.proofs.Turns.{row_here, row-later, row-none}
use Prim.Native.Nat.{◌<◌}
use native.Mathlib.Nat.{sub-zero}
use native.Mathlib.Omega.{arith}
use Rattle.functions.proofs.known.find_function.Goals as goal

pub returns-then-rows-i : goal.returns-then-rows-i
returns-then-rows-i c =
    let below : c.loop-i.i < c.args.n = omega arith in
    let here = row_here c.args.rows.now c.loop-i.i c.args.n c.args.name.0 below c.if-rows-i.true in
    record {
      value = rw (← c.loop-i.invariant, here);
      found_in = (below, (omega (arith, c.requires.0), c.requires.1));
    }

pub loop-i-preserved : goal.loop-i-preserved
loop-i-preserved c =
    rw (
      ← c.loop-i.invariant,
      row-later c.args.rows.now c.loop-i.i c.args.n c.args.name.0 (omega arith) c.if-rows-i.false,
    )

pub returns : goal.returns
returns c =
    record {
      value = rw (← c.loop-i.invariant, row-none c.args.rows.now c.loop-i.i c.args.n c.args.name.0 (omega arith));
      found_in = tt;
    }

pub loop-i-init : goal.loop-i-init
loop-i-init c = rw sub-zero
