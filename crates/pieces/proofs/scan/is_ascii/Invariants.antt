-- What each turn of a loop keeps.
use Prim.Native.Nat.{ℕ}
use mathlib.Core.Bool.{Bool, false}
use mathlib.Core.List.{List}
use mathlib.Core.Path.{◌≡◌}
use lib.Dec.{ltb}
use lib.ListN.{drop}
use Rattle.utils.specs.Bytes.{pick}
use Rattle.pieces.specs.Classes.{is_ascii}
use Rattle.pieces.proofs.scan.is_ascii.Given as goal

-- what is left of a text, where the bytes before it are no more than this
abbrev pub left : ℕ → List ℕ → ℕ → Bool
left most l i = pick (ltb 127 most) false (is_ascii l)

abbrev pub invariant-loop-b : goal.invariant-loop-b
invariant-loop-b l = left l.most (drop l.b-index l.text) l.b-index ≡ is_ascii l.text
