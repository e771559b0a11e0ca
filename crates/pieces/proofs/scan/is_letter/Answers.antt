-- std asks for the capitals first, the definition for the small letters.
use native.Mathlib.Omega.{arith}
use Prim.Native.Nat.{ℕ}
use mathlib.Core.Bool.{Bool, true, false, ◌&&◌, ◌||◌}
use mathlib.Core.Path.{◌≡◌, refl, ◌∙◌}
use borrow.Author.Tests.{leb-true}
use lib.Dec.{leb}
use Rattle.utils.specs.Bytes.{pick}
use Rattle.pieces.specs.Classes.{is_letter}
use Rattle.pieces.proofs.scan.is_letter.Goals as goal

letter : (b : ℕ) → ((leb 65 b && leb b 90) || (leb 97 b && leb b 122))
    ≡ pick (leb 97 b) (leb b 122) (pick (leb 65 b) (leb b 90) false)
unfolding pick
letter b = by (leb 97 b) (leb 65 b) (leb b 90) refl refl refl
  where
    by : (s t u : Bool) → leb 97 b ≡ s → leb 65 b ≡ t → leb b 90 ≡ u
        → ((t && u) || (s && leb b 122)) ≡ pick s (leb b 122) (pick t u false)
    by true true true e f g = absurd (omega (arith, leb-true 97 b e, leb-true b 90 g))
    by true true false e f g = refl
    by true false u e f g = refl
    by false true true e f g = refl
    by false true false e f g = refl
    by false false u e f g = refl

pub returns : goal.returns
unfolding is_letter
returns c = c.is_ascii_alphabetic.ensures.value ∙ letter c.args.b
