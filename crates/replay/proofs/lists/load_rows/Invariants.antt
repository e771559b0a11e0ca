-- The rows that are left, behind those that are stored, give what all of them give.
use Rattle.std.proofs.Common.{◌≡◌, ◌+◌, ◌-◌, ◌*◌, nat_lt, cond, take}
use lib.Seq.{sets, slice}
use Rattle.replay.specs.Lists.{values_at, stepped, repeated}
use Rattle.replay.specs.declared.lists.Kind.TheVariants.{Numbers}
use Rattle.replay.proofs.lists.load_rows.Given as goal

abbrev pub invariant-loop-row : goal.invariant-loop-row
invariant-loop-row l =
    let steps = values_at Numbers l.data l.width l.from in
    let start = l.row * l.width in
    record {
      next : l.next ≡ cond (nat_lt 0 l.row) steps.next l.from;
      stored : sets l.cells (start + l.width)
          (repeated (l.more - l.row) (stepped (slice start (start + l.width) l.cells) steps.cells) steps.cells)
          ≡ sets l.initial.cells l.width
          (repeated l.more (stepped (take l.width l.initial.cells) steps.cells) steps.cells);
    }
