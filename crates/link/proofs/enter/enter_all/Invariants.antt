-- What each turn of a loop keeps.
use Prim.Native.Nat.{◌+◌, ◌-◌}
use mathlib.Core.Path.{◌≡◌}
use lib.ListN.{length}
use Rattle.graph.specs.Records.{row_of}
use Rattle.link.specs.Steps.{links_from, entries_from, put_entered}
use Rattle.link.proofs.Entering.{Entered}
use Rattle.link.proofs.enter.enter_all.Given as goal

abbrev pub invariant-loop-j : goal.invariant-loop-j
invariant-loop-j l = (length l.blocks ≡ length l.initial.blocks)
    × Entered (entries_from 0 (links_from (row_of l.succs l.counts) 0 l.n) l.n)
    (entries_from l.j (links_from (row_of l.succs l.counts) 0 l.n) (l.n - l.j)) l.used l.here l.initial.sources
    l.sources
    × (put_entered l.j l.here (links_from (row_of l.succs l.counts) 0 l.n) l.blocks (l.base + l.j) (l.n - l.j)
    ≡ put_entered 0 l.used (links_from (row_of l.succs l.counts) 0 l.n) l.initial.blocks l.base l.n)
