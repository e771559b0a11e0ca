-- The order is a permutation of the blocks: a block is left exactly when it stops being new, once, and the blocks that
-- are still new when the walk ends are those that follow. Block 0 is the last that the walk leaves.
use Prim.Native.Nat.{ℕ, zero, suc, ◌+◌, ◌<◌}
use mathlib.Core.Path.{◌≡◌, refl, sym, ap, ◌∙◌}
use mathlib.Core.Bool.{Bool, true, false}
use mathlib.Core.List.{List, [], ◌∷◌, ◌++◌}
use native.Mathlib.Omega.{arith}
use native.Mathlib.Decide.{ℕ_discrete, dec_lt}
use native.Mathlib.Nat.{not-suc-le-zero, le_of_suc-le-suc}
use borrow.Author.Tests.{eq-eqb, ne_eqb}
use lib.Dec.{eqb}
use lib.ListN.{length, get_or, length-append, length-replicate}
use Rattle.utils.specs.Bytes.{pick}
use Rattle.graph.specs.Walk.{Walk, fresh, is_new, meet, last_first, walk_from, walked}
use Rattle.graph.specs.Walk.{met_blocks, never_met, block_order}
use Rattle.graph.specs.Reach.{times, Permutation}
use Rattle.graph.proofs.Steps.{New, is_new_lem, absent_old, meet_self, meet-other, fresh-new, walk_ind}
use Rattle.graph.proofs.Counts.{walked_sum, length_never}

-- 1 where block k is new
abbrev white : ℕ → Walk → ℕ
white k s = pick (is_new k s) 1 0

white_meet : (v k : ℕ) (s : Walk) → New v s.met → pick (eqb v k) 1 0 + white k (meet v s) ≡ white k s
unfolding pick
white_meet v k s p = go (ℕ_discrete k v)
  where
    go : Dec (k ≡ v) → pick (eqb v k) 1 0 + white k (meet v s) ≡ white k s
    go (yes e) = rw (e, eq-eqb v v refl, meet_self v s, is_new_lem v s p) refl
    go (no f) = rw (ne_eqb v k (λ e. f (sym e)), meet-other v k s f) (omega arith)

-- Each block is left once, when it stops being new.
abbrev Once : Walk → Walk → Type 0
Once s t = (k : ℕ) → times k t.left + white k t ≡ times k s.left + white k s

walk_once : (g : ℕ → List ℕ) (d v : ℕ) (s : Walk) → Once s (walk_from g d v s)
walk_once g =
    walk_ind g Once (λ s k. refl) (λ s t u p q k. q k ∙ p k)
    (λ v s t p o k. omega (arith, o k, white_meet v k s p))

-- Each block that is still new is among those that follow, once.
times_append : (k : ℕ) (xs ys : List ℕ) → times k (xs ++ ys) ≡ times k xs + times k ys
times_append k [] ys = omega arith
times_append k (x ∷ xs) ys = let r = times_append k xs ys in omega arith

times-pick : (b : Bool) (i k : ℕ) (l : List ℕ) → times k (pick b (i ∷ l) l) ≡ pick b (pick (eqb i k) 1 0) 0 + times k l
unfolding pick
times-pick true i k l = refl
times-pick false i k l = omega arith

never_low : (i k : ℕ) (flags : List ℕ) → k < i → times k (never_met i flags) ≡ 0
unfolding never_met pick
never_low i k [] h = refl
never_low i k (flag ∷ flags) h =
    let r = never_low (i + 1) k flags (omega arith) in
    times-pick (eqb flag 0) i k (never_met (i + 1) flags) ∙ rw (ne_eqb i k (λ e. omega arith), r) (none (eqb flag 0))
  where
    none : (b : Bool) → ◌≡◌ {A = ℕ} (pick b 0 0 + 0) 0
    none true = refl
    none false = refl

never_once : (i k : ℕ) (flags : List ℕ) → times (i + k) (never_met i flags) ≡ pick (eqb (get_or flags k 1) 0) 1 0
unfolding never_met pick
never_once i k [] = refl
never_once i zero (flag ∷ flags) =
    let low = never_low (i + 1) (i + 0) flags (omega arith) in
    times-pick (eqb flag 0) i (i + 0) (never_met (i + 1) flags) ∙ rw (eq-eqb i (i + 0) (omega arith), low) (omega arith)
never_once i (suc k) (flag ∷ flags) =
    let e : i + suc k ≡ i + 1 + k = omega arith in
    times-pick (eqb flag 0) i (i + suc k) (never_met (i + 1) flags)
    ∙ rw (ne_eqb i (i + suc k) (λ q. omega arith), e, never_once (i + 1) k flags) (none (eqb flag 0))
  where
    none : (b : Bool) → pick b 0 0 + pick (eqb (get_or flags k 1) 0) 1 0 ≡ pick (eqb (get_or flags k 1) 0) 1 0
    none true = omega arith
    none false = omega arith

module _ (g : ℕ → List ℕ) (n : ℕ) where
  order-times : (k : ℕ) → times k (block_order g n) ≡ white k (fresh n)
  unfolding block_order met_blocks walked
  order-times k =
      let once = walk_once g n 0 (fresh n) k in
      let rest : times k (never_met 0 (walked g n).met) ≡ white k (walked g n) =
      ap (λ (j : ℕ). times j (never_met 0 (walked g n).met)) (omega arith) ∙ never_once 0 k (walked g n).met in
      omega (arith, times_append k (walked g n).left (never_met 0 (walked g n).met), once, rest)

  pub order_permutation : Permutation n (block_order g n)
  unfolding block_order met_blocks pick
  order_permutation =
      record {
        long =
            let both = length-append (walked g n).left (never_met 0 (walked g n).met) in
            omega (arith, both, length_never 0 (walked g n).met, walked_sum g n);
        once = λ k h. order-times k ∙ rw (fresh-new n k h);
        no_other = λ k h. order-times k ∙ rw (absent_old k (fresh n) (omega (arith, length-replicate {A = ℕ} n 0)));
      }

-- Where there is a block, block 0 stands first.
pub block_0_first : (g : ℕ → List ℕ) (n : ℕ) → 0 < n → (l : List ℕ) × (block_order g n ≡ 0 ∷ l)
unfolding block_order walked walk_from pick
block_0_first g zero h = absurd (not-suc-le-zero h)
block_0_first g (suc n) h =
    ((last_first (walk_from g n) (g 0) (meet 0 (fresh (suc n)))).left ++ never_met 0 (met_blocks g (suc n)), refl)

-- Each number in the order is a block.
times_in : (l : List ℕ) (k : ℕ) → k < length l → 0 < times (get_or l k 0) l
unfolding pick
times_in [] k h = absurd (not-suc-le-zero h)
times_in (x ∷ xs) zero h = rw (eq-eqb x x refl) (omega arith)
times_in (x ∷ xs) (suc k) h = let r = times_in xs k (le_of_suc-le-suc h) in omega arith

pub order_below : (g : ℕ → List ℕ) (n k : ℕ) → k < n → get_or (block_order g n) k 0 < n
order_below g n k h = go (dec_lt (get_or (block_order g n) k 0) n)
  where
    p : Permutation n (block_order g n)
    p = order_permutation g n

    go : Dec (get_or (block_order g n) k 0 < n) → get_or (block_order g n) k 0 < n
    go (yes l) = l
    go (no f) =
        let none = p.no_other (get_or (block_order g n) k 0) (omega arith) in
        absurd (omega (arith, none, times_in (block_order g n) k (rw p.long h)))
