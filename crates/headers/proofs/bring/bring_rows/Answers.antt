-- The rows that are left, brought behind those that are there, give the whole table.
use Prim.Native.Nat.{◌+◌, ◌-◌}
use mathlib.Core.Path.{◌≡◌, refl}
use native.Mathlib.Omega.{arith}
use Rattle.headers.specs.Brought.{brought}
use Rattle.headers.proofs.Turns.{brought-more, brought-none}
use Rattle.headers.proofs.bring.bring_rows.Goals as goal

pub loop-from-init : goal.loop-from-init
loop-from-init c =
    let all : c.args.i + c.args.left - c.args.i ≡ c.args.left = omega arith in
    (omega arith, omega arith, rw all refl)

pub loop-from-preserved : goal.loop-from-preserved
loop-from-preserved c = (
  omega arith,
  omega arith,
  rw (
    ← c.loop-from.invariant.2,
    brought-more c.args.old.now c.args.rows.now c.args.new.now c.args.names.now c.args.known c.loop-from.from
        (c.args.i + c.args.left) (brought c.loop-from.out c.loop-from.at) (omega arith),
    ← c.bring_row-at.ensures.result_after,
  ),
)

pub returns : goal.returns
returns c =
    record {
      result_after = rw (
        ← c.loop-from.invariant.2,
        brought-none c.args.old.now c.args.rows.now c.args.new.now c.args.names.now c.args.known c.loop-from.from
            (c.args.i + c.args.left) (brought c.loop-from.out c.loop-from.at) (omega arith),
      ) refl;
      lower_bound = (omega arith, omega arith);
    }
