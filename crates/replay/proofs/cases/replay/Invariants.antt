-- Each turn takes one of the cases (`step`), with an outcome that `run` gives there.
use Rattle.replay.specs.Cases.{begun, Gives, Replayed}
use Rattle.replay.proofs.cases.replay.Given as goal

abbrev pub invariant-loop-list : goal.invariant-loop-list
invariant-loop-list g l = Replayed l.data (Gives g.F.Fn l.run l.data) (begun l.data l.from l.index) l.list

abbrev pub decreases-loop-list : goal.decreases-loop-list
decreases-loop-list g l = l.list.left
