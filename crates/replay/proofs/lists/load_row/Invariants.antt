-- The cells that are left of the row, by the steps that are left, give what all of them give. The cells up to the row's
-- end are as they were.
use Rattle.std.proofs.Common.{◌≡◌, ◌+◌, ◌-◌, take}
use lib.Seq.{sets, slice}
use Rattle.replay.specs.Lists.{values_at, stepped}
use Rattle.replay.specs.declared.lists.Kind.TheVariants.{Numbers}
use Rattle.replay.proofs.lists.load_row.Given as goal

abbrev pub invariant-loop-here : goal.invariant-loop-here
invariant-loop-here l =
    let end = l.start + l.width in
    let all = values_at Numbers l.data l.width l.from in
    let left = values_at Numbers l.data (end - l.here) l.at in
    record {
      same : take end l.cells ≡ take end l.initial.cells;
      next : left.next ≡ all.next;
      stored : sets l.cells (l.here + l.width) (stepped (slice l.here end l.initial.cells) left.cells)
          ≡ sets l.initial.cells end (stepped (slice l.start end l.initial.cells) all.cells);
    }
