-- What each turn of a loop keeps.
use Prim.Native.Nat.{ℕ, ◌≤◌, max}
use mathlib.Core.Path.{◌≡◌}
use lib.ListN.{length, drop}
use Rattle.pieces.specs.Pieces.{digits_from, number_at}
use Rattle.pieces.specs.Capped.{capped}
use Rattle.pieces.proofs.scan.lex_number.Given as goal

abbrev pub invariant-loop-i : goal.invariant-loop-i
invariant-loop-i l =
    (n : ℕ) × (l.i ≤ max l.at (length l.text)) × (l.value ≡ capped n)
    × (digits_from (drop l.i l.text) l.i n ≡ number_at l.text l.at)
