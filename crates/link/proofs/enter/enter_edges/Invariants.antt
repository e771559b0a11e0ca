-- What each turn of a loop keeps.
use Prim.Native.Nat.{◌-◌}
use Rattle.graph.specs.Records.{row_of}
use Rattle.link.specs.Edges.{predecessors}
use Rattle.link.specs.Steps.{links_from}
use Rattle.link.proofs.Entering.{Entered}
use Rattle.link.proofs.enter.enter_edges.Given as goal

abbrev pub invariant-loop-k : goal.invariant-loop-k
invariant-loop-k l =
    Entered (predecessors l.j.0 0 (links_from (row_of l.succs l.counts) 0 l.n))
    (predecessors l.j.0 l.k (links_from (row_of l.succs l.counts) l.k (l.n - l.k))) l.used l.here l.initial.sources
    l.sources
