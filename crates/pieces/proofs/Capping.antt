-- Counting a number no higher than 2147483649 changes no answer: a digit more keeps a number that is above it there,
-- and the tests against 2147483647 and 2147483648 come out the same.
use Prim.Native.Nat.{ℕ, ◌+◌, ◌*◌, ◌≤◌, ◌<◌, min}
use mathlib.Core.Path.{◌≡◌, refl, sym, ap, ◌∙◌}
use mathlib.Core.Bool.{Bool, true, false}
use mathlib.Core.Logic.{◌⊎◌, inl, inr, ⊎_elim}
use native.Mathlib.Omega.{arith}
use borrow.Author.Tests.{le-leb, lt-leb, leb-true, leb-false}
use lib.Dec.{leb}
use Rattle.utils.specs.Bytes.{pick}
use Rattle.pieces.specs.Capped.{capped, capped_number}
use Rattle.pieces.specs.Pieces.{number}
use Rattle.pieces.specs.declared.Number.{Number}

pub capped-low : (n : ℕ) → n ≤ 2147483649 → capped n ≡ n
unfolding capped pick
capped-low n h = rw (le-leb _ _ h)

pub capped_high : (n : ℕ) → 2147483649 < n → capped n ≡ 2147483649
unfolding capped pick
capped_high n h = rw (lt-leb _ _ h)

pub capped-min : (n : ℕ) → min n 2147483649 ≡ capped n
capped-min n = by (leb n 2147483649) refl
  where
    by : (t : Bool) → leb n 2147483649 ≡ t → min n 2147483649 ≡ capped n
    by true e = omega (arith, leb-true _ _ e, capped-low n (leb-true _ _ e))
    by false e = omega (arith, leb-false _ _ e, capped_high n (leb-false _ _ e))

low_or_high : (n : ℕ) → (n ≤ 2147483649) ⊎ (2147483649 < n)
low_or_high n = by (leb n 2147483649) refl
  where
    by : (t : Bool) → leb n 2147483649 ≡ t → (n ≤ 2147483649) ⊎ (2147483649 < n)
    by true e = inl (leb-true _ _ e)
    by false e = inr (leb-false _ _ e)

pub capped_most : (n : ℕ) → capped n ≤ 2147483649
capped_most n =
    ⊎_elim (λ h. rw (capped-low n h) h) (λ h. rw (capped_high n h) (omega arith)) (low_or_high n)

-- one digit more
pub capped_grow : (n d : ℕ) → capped (capped n * 10 + d) ≡ capped (n * 10 + d)
capped_grow n d =
    ⊎_elim (λ h. rw (capped-low n h))
    (λ h. rw (
      capped_high n h,
      capped_high (2147483649 * 10 + d) (omega arith),
      capped_high (n * 10 + d) (omega arith),
    ))
    (low_or_high n)

-- a test against a number below
pub capped-leb : (n m : ℕ) → m < 2147483649 → leb (capped n) m ≡ leb n m
capped-leb n m g =
    ⊎_elim (λ h. rw (capped-low n h))
    (λ h. rw (capped_high n h, lt-leb 2147483649 m g, lt-leb n m (omega arith)))
    (low_or_high n)

-- a number that is counted low is counted right
pub capped_small : (n m : ℕ) → m < 2147483649 → capped n ≤ m → capped n ≡ n
capped_small n m g h =
    ⊎_elim (λ l. capped-low n l) (λ l. absurd (omega (arith, capped_high n l))) (low_or_high n)

-- what a caller of lex_number needs: its test is the number's own, and a number that passes is the number
pub number-low : (r n : Number) (m : ℕ) → m < 2147483649 → r ≡ capped_number n → r.value ≤ m
    → (leb n.value m ≡ true) × (r ≡ n)
number-low r n m g e h =
    let v : r.value ≡ capped n.value = ap (λ (x : Number). x.value) e in
    let small : capped n.value ≤ m = omega arith in
    let same = capped_small n.value m g small in
    (sym (capped-leb n.value m g) ∙ le-leb _ _ small, e ∙ ap (λ (k : ℕ). number k n.end) same)

pub number_high : (r n : Number) (m : ℕ) → m < 2147483649 → r ≡ capped_number n → m < r.value
    → leb n.value m ≡ false
number_high r n m g e h =
    let v : r.value ≡ capped n.value = ap (λ (x : Number). x.value) e in
    sym (capped-leb n.value m g) ∙ lt-leb (capped n.value) m (omega arith)
