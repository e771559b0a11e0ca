-- A sum that passes 2147483649 is kept there, as `capped` says.
use native.Mathlib.Omega.{arith}
use mathlib.Core.Path.{◌∙◌}
use Rattle.pieces.proofs.Digits.{digit_from}
use Rattle.pieces.proofs.Capping.{capped-min}
use Rattle.pieces.proofs.scan.grow.Goals as goal

pub overflow_sub-b : goal.overflow_sub-b
overflow_sub-b c = omega (arith, digit_from _ c.requires.1)

pub returns : goal.returns
returns c = rw (← c.from.ensures) (c.min.ensures ∙ capped-min _)
