-- What follows a comparison or an entry, by what it answered.
use Rattle.std.specs.Prelude.{Err, Ok, Result}
use Prim.Native.Nat.{ℕ}
use mathlib.Core.Path.{◌≡◌, refl}
use mathlib.Core.List.{List}
use mathlib.Core.Bool.{Bool, true, false}
use lib.Dec.{eqb}
use lib.ListN.{get_or}
use Rattle.utils.specs.Bytes.{pick}
use Rattle.parser.specs.declared.Refusal.{Refusal}
use Rattle.pieces.specs.declared.Identifier.{Identifier}
use Rattle.sema.specs.Symbols.{Typed, typed, stop, then_end, then_typed, facts, no_name, looked_d, then_look}
use Rattle.sema.specs.Symbols.{same_d, then_same}

-- a comparison that refused, whatever would follow it, and one that was fine
module _ (t : List ℕ) (token found wanted : ℕ) (next : Typed) where
  pub same-refused : {e : Refusal} → same_d token found wanted ≡ Err e
      → typed t (Err e) ≡ then_same t token found wanted next
  unfolding same_d then_same pick
  same-refused {e} = by (eqb found wanted)
    where
      by : (b : Bool) → pick {A = Result Unit Refusal} b (Ok tt) (Err (facts 17 token wanted found no_name)) ≡ Err e
          → typed t (Err e) ≡ pick b next (stop t (facts 17 token wanted found no_name))
      by true q = cc
      by false q = cc

  pub same-fine : same_d token found wanted ≡ Ok tt → next ≡ then_same t token found wanted next
  unfolding same_d then_same pick
  same-fine = by (eqb found wanted)
    where
      by : (b : Bool) → pick {A = Result Unit Refusal} b (Ok tt) (Err (facts 17 token wanted found no_name)) ≡ Ok tt
          → next ≡ pick b next (stop t (facts 17 token wanted found no_name))
      by true q = refl
      by false q = cc

-- the same of a name that is looked up
module _ (t : List ℕ) (token : ℕ) (x : Identifier) (k : ℕ → Typed) where
  pub look-refused : {e : Refusal} → looked_d t token x ≡ Err e → typed t (Err e) ≡ then_look t token x k
  unfolding looked_d then_look pick
  look-refused {e} = by (eqb (get_or t x.0 0) 0)
    where
      by : (b : Bool) → pick b (Err (facts 16 token 0 0 x)) (Ok (get_or t x.0 0)) ≡ Err e
          → typed t (Err e) ≡ pick b (stop t (facts 16 token 0 0 x)) (k (get_or t x.0 0))
      by true q = cc
      by false q = cc

  pub look-fine : {n : ℕ} → looked_d t token x ≡ Ok n → k n ≡ then_look t token x k
  unfolding looked_d then_look pick
  look-fine {n} = by (eqb (get_or t x.0 0) 0)
    where
      by : (b : Bool) → pick b (Err (facts 16 token 0 0 x)) (Ok (get_or t x.0 0)) ≡ Ok n
          → k n ≡ pick b (stop t (facts 16 token 0 0 x)) (k (get_or t x.0 0))
      by true q = cc
      by false q = cc

-- a step that changes the table
pub typed-refused : (t : List ℕ) (this : Typed) (k : List ℕ → Typed) {r : Result Unit Refusal} {e : Refusal}
    → typed t r ≡ this → r ≡ Err e → typed t (Err e) ≡ then_typed this k
unfolding then_typed then_end
typed-refused t this k h g = rw (← h, g)

pub typed-fine : (t : List ℕ) (this : Typed) (k : List ℕ → Typed) {r : Result Unit Refusal}
    → typed t r ≡ this → r ≡ Ok tt → k t ≡ then_typed this k
unfolding then_typed then_end
typed-fine t this k h g = rw (← h, g)
