-- What each turn of a loop keeps.
use mathlib.Core.Path.{◌≡◌}
use Rattle.graph.specs.Walk.{walked}
use Rattle.graph.specs.Records.{row_of}
use Rattle.graph.specs.Frames.{coming, size, Ready}
use Rattle.graph.proofs.walk.State.walk.Given as goal

abbrev pub invariant-loop-self : goal.invariant-loop-self
invariant-loop-self l =
    Ready l.n l.self
    × (coming (row_of l.succs l.counts) l.n l.self ≡ walked (row_of l.succs l.counts) l.n)

abbrev pub decreases-loop-self : goal.decreases-loop-self
decreases-loop-self l = size l.n l.self
