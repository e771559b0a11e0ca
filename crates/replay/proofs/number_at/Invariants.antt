-- What each turn of a loop keeps.
use Rattle.replay.proofs.Digits.{Reading}
use Rattle.replay.proofs.number_at.Given as goal

abbrev pub invariant-loop-at : goal.invariant-loop-at
invariant-loop-at l = Reading l.data l.from l.at l.value
