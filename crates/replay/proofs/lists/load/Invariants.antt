-- What each turn of a loop keeps.
use Rattle.std.proofs.Common.{◌-◌}
use Rattle.replay.proofs.Runs.{Left}
use Rattle.replay.proofs.lists.load.Given as goal

abbrev pub invariant-loop-done : goal.invariant-loop-done
invariant-loop-done l = Left l.kind l.data l.from l.initial.cells l.cells (l._done-end - l._done) l.at l.count
