-- One name more is looked at, or none is left.
use native.Mathlib.Omega.{arith}
use native.Mathlib.Nat.{sub-zero}
use Rattle.utils.specs.Bytes.{pick}
use Rattle.headers.proofs.Turns.{names_more, names-none}
use Rattle.headers.proofs.names.find_name.Goals as goal

pub loop-x-init : goal.loop-x-init
loop-x-init c = rw sub-zero

pub returns-then-is_spelled : goal.returns-then-is_spelled
unfolding pick
returns-then-is_spelled c =
    rw (
      ← c.loop-x.invariant,
      names_more c.args.new.now c.args.names.now c.loop-x.x c.args.count _ (omega arith),
      ← c.is_spelled.ensures,
      c.if-is_spelled.true,
    )

pub loop-x-preserved : goal.loop-x-preserved
unfolding pick
loop-x-preserved c =
    rw (
      ← c.loop-x.invariant,
      names_more c.args.new.now c.args.names.now c.loop-x.x c.args.count _ (omega arith),
      ← c.is_spelled.ensures,
      c.if-is_spelled.false,
    )

pub returns : goal.returns
returns c =
    rw (
      ← c.loop-x.invariant,
      names-none c.args.new.now c.args.names.now c.loop-x.x c.args.count _ (omega arith),
    )
