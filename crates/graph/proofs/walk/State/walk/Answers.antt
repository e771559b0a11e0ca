-- `walk` meets its contract: the stack says to walk from block 0, each turn keeps what is to come, at the end nothing is
-- to be done, and the rows have the records' successors.
use native.Mathlib.Omega.{arith}
use Prim.Native.Nat.{ℕ}
use mathlib.Core.Path.{◌≡◌, ◌∙◌, subst}
use mathlib.Core.List.{List}
use lib.ListN.{replicate}
use Rattle.graph.specs.Records.{recorded, row_of}
use Rattle.graph.specs.Frames.{stack, push_one, SameWalk}
use Rattle.graph.specs.declared.walk.State.{State}
use Rattle.graph.proofs.Begin.{begun}
use Rattle.graph.proofs.Below.{walk_depends_below}
use Rattle.graph.proofs.Rows.{loaded_row}
use Rattle.graph.proofs.walk.State.walk.Goals as goal

pub loop-self-init : goal.loop-self-init
loop-self-init c =
    let g : ℕ → List ℕ = row_of c.load.new.succs c.load.new.counts in
    begun g c.args.n c.push.new.self c.requires.0
    (subst (λ (a : State). SameWalk a c.push.new.self) c.requires.1 c.push.ensures.others)
    (subst (λ (a : State). stack c.push.new.self.entries c.push.new.self.top ≡ push_one c.args.n 0 (stack a.entries a.top))
    c.requires.1 c.push.ensures.result_after)

pub loop-self-preserved : goal.loop-self-preserved
loop-self-preserved c = (c.turn.ensures.ready, c.turn.ensures.same ∙ c.loop-self.invariant.1)

pub loop-self-smaller : goal.loop-self-smaller
loop-self-smaller c = c.turn.ensures.less

pub returns : goal.returns
returns c =
    let none : c.loop-self.self.top ≡ 0 = omega arith in
    let rows : ℕ → List ℕ = row_of c.load.new.succs c.load.new.counts in
    let records : ℕ → List ℕ = recorded c.args.blocks.now c.args.first in
    let held =
    loaded_row c.args.blocks.now c.args.first c.args.n (replicate 256 (replicate 2 0)) c.load.new.succs
    (replicate 256 0) c.load.new.counts c.load.ensures in
    record {
      long_met = c.loop-self.invariant.0.long_met;
      long_left = c.loop-self.invariant.0.long_left;
      within = c.loop-self.invariant.0.within;
      same = rw none at c.loop-self.invariant.1 ∙ walk_depends_below rows records c.args.n held;
    }
