-- What each turn of a loop keeps.
use Rattle.std.proofs.Common.{◌≡◌, false, drop}
use Rattle.replay.specs.Numbers.{to_digit}
use Rattle.replay.proofs.digit_from.Given as goal

abbrev pub invariant-loop-at : goal.invariant-loop-at
invariant-loop-at l = to_digit l.comment (drop l.at l.data) ≡ to_digit false (drop l.from l.data)
