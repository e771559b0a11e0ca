-- What each turn of a loop keeps.
use Prim.Native.Nat.{◌+◌, ◌-◌}
use Rattle.link.specs.Blocks.{blocks_of}
use Rattle.body.specs.Records.{parts_at}
use Rattle.link.proofs.Cutting.{Cutting}
use Rattle.link.proofs.close.link_blocks.Given as goal

abbrev pub invariant-loop-k : goal.invariant-loop-k
invariant-loop-k l =
    Cutting l.items (blocks_of (parts_at l.items l.first l.count)) l.name l.first (l.first + l.count) l.base
    l.initial.blocks l.blocks l.from l.k

abbrev pub decreases-loop-k : goal.decreases-loop-k
decreases-loop-k l = l.first + l.count - l.from
