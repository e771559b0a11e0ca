-- Why the walk ends and has room: a block that is met is one fewer to meet, and a block is left only once it was met.
-- So the blocks left and those still to be met are together always as many.
use Prim.Native.Nat.{ℕ, zero, suc, ◌+◌, ◌≤◌}
use mathlib.Core.Path.{◌≡◌, refl, ◌∙◌}
use mathlib.Core.Bool.{Bool, true, false}
use mathlib.Core.List.{List, [], ◌∷◌}
use native.Mathlib.Omega.{arith}
use native.Mathlib.Nat.{not-suc-le-zero, le_of_suc-le-suc}
use lib.Dec.{eqb}
use lib.ListN.{length, set, replicate, length-set, length-replicate}
use Rattle.utils.specs.Bytes.{pick}
use Rattle.graph.specs.Walk.{Walk, fresh, meet, leave, last_first, walk_from, walked, never_met}
use Rattle.graph.specs.Frames.{waiting}
use Rattle.graph.proofs.Steps.{New, each_ind, walk_ind}

pub waiting-set : (met : List ℕ) (v : ℕ) → New v met → waiting (set met v 1) + 1 ≡ waiting met
unfolding pick
waiting-set [] v p = absurd (not-suc-le-zero p.there)
waiting-set (x ∷ xs) zero p = rw p.flag (omega arith)
waiting-set (x ∷ xs) (suc v) p =
    let r = waiting-set xs v (record { there = le_of_suc-le-suc p.there; flag = p.flag }) in
    omega arith

-- what a walk keeps: how many blocks there are, and how many are left or still to be met
pub record Kept (s t : Walk) : Type 0 where
  pub long : length t.met ≡ length s.met
  pub sum : length t.left + waiting t.met ≡ length s.left + waiting s.met
  pub fewer : waiting t.met ≤ waiting s.met

kept_step : (v : ℕ) (s t : Walk) → New v s.met → Kept (meet v s) t → Kept s (leave v t)
kept_step v s t p k =
    let w = waiting-set s.met v p in
    record {
      long = k.long ∙ length-set s.met v 1;
      sum = omega (arith, k.sum, w);
      fewer = omega (arith, k.fewer, w);
    }

kept_same : (s : Walk) → Kept s s
kept_same s = record { long = refl; sum = refl; fewer = omega arith }

kept_after : (s t u : Walk) → Kept s t → Kept t u → Kept s u
kept_after s t u p q =
    record { long = q.long ∙ p.long; sum = q.sum ∙ p.sum; fewer = omega (arith, p.fewer, q.fewer) }

pub walk_kept : (g : ℕ → List ℕ) (d v : ℕ) (s : Walk) → Kept s (walk_from g d v s)
walk_kept g = walk_ind g Kept kept_same kept_after kept_step

pub each-kept : (g : ℕ → List ℕ) (d : ℕ) (vs : List ℕ) (s : Walk) → Kept s (last_first (walk_from g d) vs s)
each-kept g d = each_ind g Kept kept_same kept_after kept_step (walk_from g d) (walk_kept g d)

pub waiting-fresh : (n : ℕ) → waiting (replicate n 0) ≡ n
unfolding pick
waiting-fresh zero = refl
waiting-fresh (suc n) = let r = waiting-fresh n in omega arith

-- of the whole walk
pub walked-long : (g : ℕ → List ℕ) (n : ℕ) → length (walked g n).met ≡ n
unfolding walked
walked-long g n = (walk_kept g n 0 (fresh n)).long ∙ length-replicate n 0

pub walked_sum : (g : ℕ → List ℕ) (n : ℕ) → length (walked g n).left + waiting (walked g n).met ≡ n
unfolding walked
walked_sum g n = omega (arith, (walk_kept g n 0 (fresh n)).sum, waiting-fresh n)

pub length_never : (k : ℕ) (flags : List ℕ) → length (never_met k flags) ≡ waiting flags
unfolding never_met pick
length_never k [] = refl
length_never k (flag ∷ flags) =
    let r = length_never (k + 1) flags in
    pick-length (eqb flag 0) (k ∷ never_met (k + 1) flags) (never_met (k + 1) flags) ∙ by r (eqb flag 0)
  where
    pick-length : (b : Bool) (xs ys : List ℕ) → length (pick b xs ys) ≡ pick b (length xs) (length ys)
    pick-length true xs ys = refl
    pick-length false xs ys = refl

    by : length (never_met (k + 1) flags) ≡ waiting flags → (b : Bool)
        → pick b (suc (length (never_met (k + 1) flags))) (length (never_met (k + 1) flags)) ≡ pick b 1 0 + waiting flags
    by r true = omega arith
    by r false = omega arith
