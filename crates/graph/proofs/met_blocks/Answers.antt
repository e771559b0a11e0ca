-- `met_blocks` meets its contract: the flags of a whole walk are copied out.
use Prim.Native.Nat.{ℕ}
use mathlib.Core.Path.{ap, ◌∙◌}
use mathlib.Core.List.{List}
use lib.Seq.{sets}
use Rattle.graph.specs.Walk.{met_blocks}
use Rattle.graph.specs.Records.{recorded}
use Rattle.graph.proofs.Placing.{flags_placed}
use Rattle.graph.proofs.met_blocks.Goals as goal

pub returns : goal.returns
returns c =
    let g : ℕ → List ℕ = recorded c.args.blocks.now c.args.first in
    flags_placed g c.at_most_256-n.result c.walk.new.self.met c.walk.new.self.left c.walk.new.self.at
    c.walk.ensures c.args.met.now c.put_flags.new.out c.put_flags.ensures
    ∙ ap (λ (k : ℕ). sets c.args.met.now 0 (met_blocks g k)) c.at_most_256-n.ensures.0
