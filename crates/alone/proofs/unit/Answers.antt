-- `build`, with a table of its own.
use native.Mathlib.Omega.{arith}
use Rattle.alone.proofs.unit.Goals as goal

pub build-requires : goal.build-requires
build-requires c =
    (c.requires.0, c.requires.1, c.requires.2, c.requires.3, c.requires.4, omega arith)
