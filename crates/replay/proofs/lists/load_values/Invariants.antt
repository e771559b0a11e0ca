-- The values that are left, read from `at` on, give with those that are stored what all of them give.
use Rattle.std.proofs.Common.{◌≡◌, ◌-◌, ◌++◌, length, take}
use Rattle.replay.specs.Lists.{values_at}
use Rattle.replay.proofs.lists.load_values.Given as goal

abbrev pub invariant-loop-cell : goal.invariant-loop-cell
invariant-loop-cell l =
    let all = values_at l.kind l.data (length l.initial.cells) l.from in
    let left = values_at l.kind l.data (length l.initial.cells - l.cell-index) l.at in
    record {
      next : left.next ≡ all.next;
      stored : take l.cell-index l.cells ++ left.cells ≡ all.cells;
    }
