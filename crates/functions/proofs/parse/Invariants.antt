-- What each turn of a loop keeps.
use Rattle.functions.proofs.Program.{Going}
use Rattle.functions.specs.Answer.{held, SameSlices}
use Rattle.lexer.specs.Decoded.{tokens_of}
use Prim.Native.Nat.{◌-◌}
use Rattle.functions.proofs.parse.Given as goal

abbrev pub invariant-loop-unit : goal.invariant-loop-unit
invariant-loop-unit l =
    Going (tokens_of l.tokens) l.names (held l.initial.unit) l.at l.types l.n (held l.unit)
    × SameSlices l.initial.unit l.unit

abbrev pub decreases-loop-unit : goal.decreases-loop-unit
decreases-loop-unit l = 64 - l.n.functions
