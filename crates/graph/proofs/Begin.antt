-- Why the whole walk is right: at the start the stack says to walk from block 0, where there is one, and no block is
-- met; and what comes of the things to do then is the walk.
use Prim.Native.Nat.{ℕ, zero, suc, ◌≤◌, ◌<◌}
use mathlib.Core.Path.{◌≡◌, refl, sym, ap, ◌∙◌, subst}
use mathlib.Core.Bool.{Bool, true, false}
use mathlib.Core.List.{List, ◌∷◌}
use native.Mathlib.Omega.{arith}
use native.Mathlib.Nat.{not-suc-le-zero, le_of_suc-le-suc}
use borrow.Author.Tests.{ltb-true, ltb-false}
use lib.Dec.{ltb}
use lib.ListN.{length, get_or, set, take, replicate, length-set, length-replicate, drop_of_length-le}
use lib.Seq.{get_or-set_same}
use Rattle.utils.specs.Bytes.{pick}
use Rattle.graph.specs.Walk.{fresh, walk_from, walked}
use Rattle.graph.specs.Frames.{Stack, stack, push_one, state, here, coming, resume, marks, waiting, Ready, SameWalk}
use Rattle.graph.specs.declared.walk.State.{State}
use Rattle.graph.proofs.Counts.{waiting-fresh}

take-replicate : (n m a : ℕ) → n ≤ m → take n (replicate m a) ≡ replicate n a
take-replicate zero m a h = refl
take-replicate (suc n) zero a h = absurd (not-suc-le-zero h)
take-replicate (suc n) (suc m) a h = ap (λ (l : List ℕ). a ∷ l) (take-replicate n m a (le_of_suc-le-suc h))

module _ (n : ℕ) (met left entries₀ : List ℕ) (few : n ≤ 256) (none : met ≡ replicate 256 0)
    (long : length left ≡ 256) (deep : length entries₀ ≡ 513) where
  unmet : take n met ≡ replicate n 0
  unmet = rw none (take-replicate n 256 0 few)

  begin : here n met left 256 ≡ fresh n
  begin = λ i. record { met = unmet i; left = drop_of_length-le left {i = 256} (omega arith) i }

  one : (entries : List ℕ) (top : ℕ) → top ≤ 1 → length entries ≡ 513 → (0 < top → (get_or entries 0 0 ≡ 0) × (0 < n))
      → marks entries top ≡ 0 → Ready n (state met left entries top 256)
  one entries top l d p m =
      let w : waiting (take n met) ≡ n = ap waiting unmet ∙ waiting-fresh n in
      record {
        few = few;
        long_met = rw none (length-replicate {A = ℕ} 256 0);
        long_left = long;
        deep = d;
        small = λ k h. let q = at k h in omega arith;
        blocks = λ k h b. let q = at k h in omega (arith, (p (omega arith)).1);
        room = omega arith;
        front = omega arith;
        within = omega arith;
      }
    where
      at : (k : ℕ) → k < top → get_or entries k 0 ≡ 0
      at k h = let e : k ≡ 0 = omega arith in rw e (p (omega arith)).0

  module _ (entries : List ℕ) (top : ℕ) (pushed : stack entries top ≡ push_one n 0 (stack entries₀ 0)) where
    first : get_or (set entries₀ 0 0) 0 0 ≡ 0
    first = get_or-set_same entries₀ 0 0 0 (omega arith)

    abbrev only : Bool → Stack
    only b = pick b (stack (set entries₀ 0 0) 1) (stack entries₀ 0)

    pushed-is : stack entries top ≡ only (ltb 0 n)
    unfolding push_one
    pushed-is = pushed

    by : (b : Bool) → ltb 0 n ≡ b → Ready n (state met left (only b).entries (only b).top 256)
    unfolding pick
    by true e =
        one (set entries₀ 0 0) 1 (omega arith) (length-set entries₀ 0 0 ∙ deep) (λ h. (first, ltb-true 0 n e))
        (rw first refl)
    by false e = one entries₀ 0 (omega arith) deep (λ h. absurd (not-suc-le-zero h)) refl

    ready : Ready n (state met left entries top 256)
    ready =
        subst (λ (p : Stack). Ready n (state met left p.entries p.top 256)) (sym pushed-is) (by (ltb 0 n) refl)

    comes : (g : ℕ → List ℕ) (b : Bool) → ltb 0 n ≡ b
        → resume g n (only b).entries (only b).top (fresh n) ≡ walk_from g n 0 (fresh n)
    unfolding walk_from pick
    comes g true e = rw first
    comes g false e = let z : n ≡ 0 = omega (arith, ltb-false 0 n e) in rw z

    whole : (g : ℕ → List ℕ) → coming g n (state met left entries top 256) ≡ walked g n
    unfolding walked
    whole g =
        ap (resume g n entries top) begin
        ∙ ap (λ (p : Stack). resume g n p.entries p.top (fresh n)) pushed-is
        ∙ comes g (ltb 0 n) refl

-- the stack of a new walk once block 0 was pushed
pub begun : (g : ℕ → List ℕ) (n : ℕ) (a : State) → n ≤ 256
    → SameWalk (state (replicate 256 0) (replicate 256 0) (replicate 513 0) 0 256) a
    → stack a.entries a.top ≡ push_one n 0 (stack (replicate 513 0) 0) → Ready n a × (coming g n a ≡ walked g n)
begun g n a few s p =
    let left : length a.left ≡ 256 = rw s.left refl in
    subst
    (λ (at : ℕ). Ready n (state a.met a.left a.entries a.top at)
    × (coming g n (state a.met a.left a.entries a.top at) ≡ walked g n))
    (sym s.at) (
      ready n a.met a.left (replicate 513 0) few s.met left refl a.entries a.top p,
      whole n a.met a.left (replicate 513 0) few s.met left refl a.entries a.top p g,
    )
