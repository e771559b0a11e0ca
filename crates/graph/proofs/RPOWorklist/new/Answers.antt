-- `RPOWorklist::new` meets its contract: the blocks left, and behind them the blocks never met, are the order.
use Prim.Native.Nat.{ℕ}
use mathlib.Core.Path.{ap, ◌∙◌}
use mathlib.Core.List.{List}
use lib.Seq.{sets}
use Rattle.graph.specs.Walk.{block_order}
use Rattle.graph.specs.Records.{recorded}
use Rattle.graph.specs.Worklist.{worklist}
use Rattle.graph.proofs.Placing.{room_unmet, order_placed}
use Rattle.graph.proofs.RPOWorklist.new.Goals as goal

pub put_unmet-requires : goal.put_unmet-requires
put_unmet-requires c =
    let g : ℕ → List ℕ = recorded c.args.blocks.now c.args.first in (
      room_unmet g c.at_most_256-n.result c.walk.new.self.met c.walk.new.self.left c.walk.new.self.at c.put_left-placed.result
          c.walk.ensures c.at_most_256-n.ensures.1 c.put_left-placed.ensures.0,
      c.at_most_256-n.ensures.1,
      c.walk.ensures.long_met,
    )

pub returns : goal.returns
returns c =
    let g : ℕ → List ℕ = recorded c.args.blocks.now c.args.first in
    record {
      value = ap (worklist 0) c.at_most_256-n.ensures.0;
      order_after = order_placed g c.at_most_256-n.result c.walk.new.self.met c.walk.new.self.left c.walk.new.self.at
          c.put_left-placed.result
          c.walk.ensures c.at_most_256-n.ensures.1 c.put_left-placed.ensures.0
          c.args.order.now c.put_left-placed.new.out c.put_unmet.new.out c.put_left-placed.ensures.1 c.put_unmet.ensures
          ∙ ap (λ (k : ℕ). sets c.args.order.now 0 (block_order g k)) c.at_most_256-n.ensures.0;
    }
