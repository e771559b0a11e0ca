-- What each turn of a loop keeps.
use Prim.Native.Nat.{◌-◌}
use Rattle.lexer.specs.Decoded.{tokens_of}
use Rattle.parser.proofs.Going.{Going}
use Rattle.parser.specs.Runs.{arguments_d}
use Rattle.parser.proofs.runs.parse_arguments.Given as goal

abbrev pub invariant-loop-t : goal.invariant-loop-t
invariant-loop-t l =
    Going (arguments_d (tokens_of l.tokens) 16 l.at) (arguments_d (tokens_of l.tokens) (16 - l.n) l.here) l.used
    l.initial.cells l.cells l.n

abbrev pub decreases-loop-t : goal.decreases-loop-t
decreases-loop-t l = 16 - l.n
