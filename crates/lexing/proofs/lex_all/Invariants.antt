-- What each turn of a loop keeps.
use Prim.Native.Nat.{◌-◌}
use mathlib.Core.Path.{◌≡◌}
use lib.ListN.{length}
use Rattle.lexer.proofs.Turns.{Lexing}
use Rattle.lexer.specs.Steps.{Prints}
use Rattle.lexing.proofs.lex_all.Given as goal

abbrev pub invariant-loop-next : goal.invariant-loop-next
invariant-loop-next l =
    Lexing l.text l.line l.initial.tokens l.initial.names l.tokens l.names l.count l.known l.at × Prints l.text
    l.names l.known l.prints
    × (length l.prints ≡ 1024)

abbrev pub decreases-loop-next : goal.decreases-loop-next
decreases-loop-next l = length l.text - l.at.place
