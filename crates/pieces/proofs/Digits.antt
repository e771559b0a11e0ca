-- A digit is a byte from 48 on.
use Prim.Native.Nat.{ℕ, ◌≤◌}
use mathlib.Core.Path.{◌≡◌, refl}
use mathlib.Core.Bool.{Bool, true, false, ◌&&◌}
use native.Mathlib.Omega.{arith}
use borrow.Author.Tests.{leb-true}
use lib.Dec.{leb}
use Rattle.utils.specs.Bytes.{pick}
use Rattle.pieces.specs.Classes.{is_digit}

-- a choice between a test and false is true where both are
pub pick-both : (t u : Bool) → pick t u false ≡ true → (t ≡ true) × (u ≡ true)
unfolding pick
pick-both true u e = (refl, e)
pick-both false u e = absurd (let z : ◌≡◌ {A = ℕ} 0 1 = cc in omega arith)

-- the same as a conjunction
pub and_pick : (t u : Bool) → (t && u) ≡ pick t u false
unfolding pick
and_pick true u = refl
and_pick false u = refl

pub digit_from : (b : ℕ) → is_digit b ≡ true → 48 ≤ b
unfolding is_digit
digit_from b e = leb-true 48 b (pick-both (leb 48 b) (leb b 57) e).0
