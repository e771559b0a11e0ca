-- The most of the bytes passed and what is left of the text decide as the whole text does.
use borrow.Author.Tests.{lt-ltb, le-ltb, ltb-true, ltb-false}
use native.Mathlib.Omega.{arith}
use Prim.Native.Nat.{ℕ, ◌+◌, max}
use mathlib.Core.Path.{◌≡◌, refl, ◌∙◌}
use mathlib.Core.Bool.{Bool, true, false}
use lib.Dec.{ltb}
use lib.ListN.{drop, get_or}
use Rattle.utils.specs.Bytes.{pick}
use Rattle.pieces.specs.Classes.{is_ascii}
use Rattle.pieces.proofs.Picked.{at_byte, at_end}
use Rattle.pieces.proofs.scan.is_ascii.Invariants.{left}
use Rattle.pieces.proofs.scan.is_ascii.Goals as goal

-- the larger of two is above 127 where one of them is
of_larger : (a b : ℕ) (x : Bool)
    → pick (ltb 127 (max a b)) false x ≡ pick (ltb 127 a) false (pick (ltb 127 b) false x)
unfolding pick
of_larger a b x = by (ltb 127 a) (ltb 127 b) refl refl
  where
    by : (s t : Bool) → ltb 127 a ≡ s → ltb 127 b ≡ t
        → pick (ltb 127 (max a b)) false x ≡ pick s false (pick t false x)
    by true t e f = rw (lt-ltb 127 (max a b) (omega (arith, ltb-true 127 a e)))
    by false true e f = rw (lt-ltb 127 (max a b) (omega (arith, ltb-true 127 b f)))
    by false false e f = rw (le-ltb 127 (max a b) (omega (arith, ltb-false 127 a e, ltb-false 127 b f)))

at_most : (n : ℕ) → ltb n 128 ≡ pick (ltb 127 n) false true
unfolding pick
at_most n = by (ltb 127 n) refl
  where
    by : (t : Bool) → ltb 127 n ≡ t → ltb n 128 ≡ pick t false true
    by true e = le-ltb n 128 (omega (arith, ltb-true 127 n e))
    by false e = lt-ltb n 128 (omega (arith, ltb-false 127 n e))

pub loop-b-init : goal.loop-b-init
unfolding pick
loop-b-init c = refl

pub loop-b-preserved : goal.loop-b-preserved
unfolding is_ascii
loop-b-preserved c =
    at_byte (left c.loop-b.most) c.args.text.now c.loop-b.b-index c.loop-b.invariant (omega arith)
    (rw c.max-most.ensures (of_larger c.loop-b.most (get_or c.args.text.now c.loop-b.b-index 0) (is_ascii (drop
    (c.loop-b.b-index + 1) c.args.text.now))))

pub returns : goal.returns
unfolding is_ascii
returns c =
    at_end (left c.loop-b.most) c.args.text.now c.loop-b.b-index c.loop-b.invariant (omega arith)
    (c.is_ascii.ensures ∙ at_most c.loop-b.most)
