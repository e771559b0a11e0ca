-- What each turn of a loop keeps.
use Prim.Native.Nat.{◌<◌}
use mathlib.Core.Path.{◌≡◌}
use lib.ListN.{drop}
use Rattle.lexer.specs.Steps.{print_from}
use Rattle.lexer.proofs.names.print_of.Given as goal

abbrev pub invariant-loop-b : goal.invariant-loop-b
invariant-loop-b l = (l.sum < 4294967296) × (print_from l.sum (drop l.b-index l.name) ≡ print_from 0 l.name)
