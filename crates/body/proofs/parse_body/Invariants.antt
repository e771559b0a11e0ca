-- What each turn of a loop keeps.
use Prim.Native.Nat.{ℕ, ◌-◌}
use Rattle.lexer.specs.Decoded.{tokens_of}
use Rattle.body.specs.Answer.{function_body}
use Rattle.body.proofs.Reading.{Reading}
use Rattle.body.proofs.parse_body.Given as goal

abbrev pub invariant-loop-next : goal.invariant-loop-next
invariant-loop-next l = (room : ℕ) × (blocks : ℕ)
    × Reading (tokens_of l.tokens) l.void l.at l.first l.used (function_body (tokens_of l.tokens) l.at)
    l.initial.items l.initial.arguments l.initial.labels l.s l.items
    l.arguments l.labels room blocks

abbrev pub decreases-loop-next : goal.decreases-loop-next
decreases-loop-next l = 4096 - l.s.at
