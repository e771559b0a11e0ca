-- What each turn of a loop keeps.
use Prim.Native.Nat.{◌-◌}
use Rattle.lexer.specs.Decoded.{tokens_of}
use Rattle.parser.proofs.Going.{Going}
use Rattle.parser.specs.Runs.{formals_from_d}
use Rattle.parser.proofs.runs.parse_formals_from.Given as goal

abbrev pub invariant-loop-v : goal.invariant-loop-v
invariant-loop-v l =
    Going (formals_from_d (tokens_of l.tokens) 16 l.at) (formals_from_d (tokens_of l.tokens) (16 - l.n) l.here) l.used
    l.initial.cells l.cells l.n

abbrev pub decreases-loop-v : goal.decreases-loop-v
decreases-loop-v l = 16 - l.n
