-- A return has made the tests that lead to it in the definition, in their order: one lemma for each way a test can go,
-- from what the code's test or call has told. `search tests` puts them together, and `search picked` where a test is a
-- call's answer.
use Prim.Native.Nat.{ℕ, ◌+◌, ◌<◌, ◌≤◌}
use mathlib.Core.Path.{◌≡◌, ◌∙◌}
use mathlib.Core.List.{List, [], ◌∷◌}
use mathlib.Core.Bool.{Bool, true, false}
use native.Mathlib.Numerals.{add-one}
use borrow.Author.Tests.{lt-ltb, le-ltb, le-leb, lt-leb, eq-eqb, ne_eqb, not-true, not-false}
use lib.ListN.{length, drop, get_or, drop_of_length-le}
use lib.Seq.{drop-cons}
use Rattle.utils.specs.Bytes.{pick}

module _ {A : Type 0} {a : A} (x y : A) (q : Bool) where
  pub pick_first : q ≡ true → a ≡ x → a ≡ pick q x y
  unfolding pick
  pick_first e r = rw e r

  pub pick_second : q ≡ false → a ≡ y → a ≡ pick q x y
  unfolding pick
  pick_second e r = rw e r

-- a test by the call that made it
pub told : (q : Bool) {b v : Bool} → b ≡ q → b ≡ v → q ≡ v
told q t e = rw (← t) e

pub ruleset tests = (pick_first, pick_second, lt-ltb, le-ltb, le-leb, lt-leb, eq-eqb, ne_eqb)

pub ruleset picked = (tests, told, not-true, not-false)

-- One turn of a scan, and its end: where the scan from here on gives w, so does the byte that stands here with what is
-- behind it.
module _ {A : Type 0} (f : List ℕ → ℕ → A) (s : List ℕ) (i : ℕ) {a w : A} (here : f (drop i s) i ≡ w) where
  pub at_byte : i < length s → a ≡ f (get_or s i 0 ∷ drop (i + 1) s) i → a ≡ w
  at_byte h r = rw (add-one i) at r ∙ rw (drop-cons s i 0 h) at here

  pub at_end : length s ≤ i → a ≡ f [] i → a ≡ w
  at_end h r = r ∙ rw (drop_of_length-le s {i = i} h) at here

-- the same for a scan that knows something of the byte before
module _ {X A : Type 0} (f : X → List ℕ → ℕ → A) (x : X) (s : List ℕ) (i : ℕ) {a w : A} (here : f x (drop i s) i ≡ w)
  where
    pub with_byte : i < length s → a ≡ f x (get_or s i 0 ∷ drop (i + 1) s) i → a ≡ w
    with_byte h r = at_byte (f x) s i here h r

    pub with_end : length s ≤ i → a ≡ f x [] i → a ≡ w
    with_end h r = at_end (f x) s i here h r
