-- The list begins with none of its cases, and each turn takes one more, with the outcome that the call gave.
use native.Mathlib.Omega.{arith}
use mathlib.Core.Path.{refl}
use Rattle.replay.specs.Cases.{Replayed}
use Rattle.replay.proofs.cases.replay.Goals as goal

pub loop-list-init : goal.loop-list-init
loop-list-init g c = rw c.begin-list.ensures Replayed.no_case

pub loop-list-preserved : goal.loop-list-preserved
loop-list-preserved g c =
    rw c.in_ok-list.ensures.value
    (Replayed.a_case c.loop-list.list c.run.result c.loop-list.invariant (omega (arith, c.loop-list-test.true))
    (record { file = c.args.data; shows = refl; says = record { met = c.run.ensures } }))
