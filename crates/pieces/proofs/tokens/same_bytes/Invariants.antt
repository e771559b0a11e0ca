-- What each turn of a loop keeps.
use Prim.Native.Nat.{◌+◌}
use mathlib.Core.Path.{◌≡◌}
use lib.Seq.{slice}
use Rattle.utils.specs.Bytes.{same_bytes}
use Rattle.pieces.proofs.tokens.same_bytes.Given as goal

abbrev pub invariant-loop-k : goal.invariant-loop-k
invariant-loop-k l =
    same_bytes (slice l.i (l.i + l.k) l.a) (slice l.j (l.j + l.k) l.b)
    ≡ same_bytes (slice l.i (l.i + l.n) l.a) (slice l.j (l.j + l.n) l.b)
