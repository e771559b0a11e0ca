-- The low bytes of the cells from `i` on, stored from `i` on, give what storing them all gives.
use Rattle.std.proofs.Common.{◌≡◌, drop}
use lib.Seq.{sets}
use Rattle.replay.specs.Lists.{low_bytes}
use Rattle.replay.proofs.lists.narrow.Given as goal

abbrev pub invariant-loop-i : goal.invariant-loop-i
invariant-loop-i l = sets l.bytes l.i (low_bytes (drop l.i l.cells)) ≡ sets l.initial.bytes 0 (low_bytes l.cells)
