-- std's test is the definition's.
use mathlib.Core.Path.{◌∙◌}
use Rattle.pieces.specs.Classes.{is_digit}
use Rattle.pieces.proofs.Digits.{and_pick}
use Rattle.pieces.proofs.scan.is_digit.Goals as goal

pub returns : goal.returns
unfolding is_digit
returns c = c.is_ascii_digit.ensures.value ∙ and_pick _ _
