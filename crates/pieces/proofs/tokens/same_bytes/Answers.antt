-- The bytes before `k` decide as all of them do.
use borrow.Author.Tests.{eq-eqb, ne_eqb}
use native.Mathlib.Omega.{arith}
use native.Mathlib.Nat.{add-zero}
use mathlib.Core.Path.{◌≡◌, sym, ◌∙◌}
use Rattle.pieces.proofs.Compare.{same_back, same_end}
use Rattle.utils.specs.Bytes.{pick}
use Rattle.pieces.proofs.tokens.same_bytes.Goals as goal

pub returns-then-a-i : goal.returns-then-a-i
unfolding pick
returns-then-a-i c =
    rw (
      ← c.loop-k.invariant,
      same_back c.args.a.now c.args.b.now c.args.i c.args.j c.loop-k.k (omega arith) (omega arith) (omega arith),
      ne_eqb _ _ c.if-a-i.true,
    )

pub loop-k-preserved : goal.loop-k-preserved
unfolding pick
loop-k-preserved c =
    rw (
      ← c.loop-k.invariant,
      same_back c.args.a.now c.args.b.now c.args.i c.args.j c.loop-k.k (omega arith) (omega arith) (omega arith),
      eq-eqb _ _ c.if-a-i.false,
    )

pub returns : goal.returns
returns c =
    let a = c.args in
    let e : c.loop-k.k ≡ 0 = omega arith in
    sym (same_end a.a.now a.b.now a.i a.j) ∙ simp add-zero at (rw e at c.loop-k.invariant)
