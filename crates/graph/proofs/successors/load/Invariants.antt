-- What each turn of a loop keeps.
use mathlib.Core.Path.{◌≡◌}
use lib.ListN.{length}
use Rattle.graph.specs.Records.{Loaded}
use Rattle.graph.proofs.successors.load.Given as goal

abbrev pub invariant-loop-k : goal.invariant-loop-k
invariant-loop-k l = (length l.succs ≡ 256) × (length l.counts ≡ 256)
    × Loaded l.blocks l.first l.k l.initial.succs l.succs l.initial.counts l.counts
