-- `put_unmet` meets its contract: the blocks from k on whose flag is 0, stored from here, give the whole.
use mathlib.Core.List.{[]}
use native.Mathlib.Omega.{arith}
use Prim.Native.Nat.{◌≤◌, ◌<◌}
use mathlib.Core.Path.{◌≡◌, ◌∙◌}
use lib.ListN.{length, take, drop, drop_of_length-le}
use lib.Seq.{length-take-le}
use Rattle.graph.specs.Walk.{never_met}
use Rattle.graph.proofs.Placing.{unmet, met-before}
use Rattle.graph.proofs.place.put_unmet.Goals.{then-met-k-eq0, else-met-k-eq0}
use Rattle.graph.proofs.place.put_unmet.Goals as goal

pub bounds-out-at : goal.bounds-out-at
bounds-out-at c =
    let u = unmet c.args.met.now c.args.n c.loop-k.k (omega arith) (omega arith) c.if-met-k-eq0.true in
    omega (arith, u.0, c.loop-k.invariant.room)

pub loop-k-preserved : goal.loop-k-preserved
loop-k-preserved c =
    let less : c.loop-k.k < c.args.n = omega arith in
    let long : c.args.n ≤ length c.args.met.now = omega arith in
    elim c.if-met-k-eq0.branch [
      | then-met-k-eq0 w ↦
          let u = unmet c.args.met.now c.args.n c.loop-k.k less long w.if-met-k-eq0.true in
          record {
            room = omega (arith, u.0, w.at-is, c.loop-k.invariant.room);
            stored = rw (w.at-is, w.out-is) (u.1 _ _ ∙ c.loop-k.invariant.stored);
          }
      | else-met-k-eq0 w ↦
          let m = met-before c.args.met.now c.args.n c.loop-k.k less long w.if-met-k-eq0.false in
          record {
            room = omega (arith, m.0, w.at-is, c.loop-k.invariant.room);
            stored = rw (w.at-is, w.out-is, m.1) c.loop-k.invariant.stored;
          }
    ]

pub returns : goal.returns
unfolding never_met
returns c =
    let long : length (take c.args.n c.args.met.now) ≡ c.args.n = length-take-le c.args.n c.args.met.now (omega arith)
    in
    let none : drop c.loop-k.k (take c.args.n c.args.met.now) ≡ [] =
    drop_of_length-le (take c.args.n c.args.met.now) {i = c.loop-k.k} (rw long (omega arith)) in
    rw none at c.loop-k.invariant.stored
