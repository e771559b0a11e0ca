-- One step of the walk, and induction over a whole walk: what holds of no step, of two walks one after the other, and
-- of a new block that is met, walked from and left, holds of every walk.
use Prim.Native.Nat.{ℕ, zero, suc, ◌≤◌, ◌<◌}
use mathlib.Core.Path.{◌≡◌, refl, sym, ◌∙◌}
use mathlib.Core.Logic.{◌⊎◌, inl, inr}
use mathlib.Core.Bool.{Bool, true, false}
use mathlib.Core.List.{List, [], ◌∷◌}
use native.Mathlib.Omega.{arith}
use native.Mathlib.Decide.{ℕ_discrete, dec_lt}
use native.Mathlib.Nat.{not-suc-le-zero, le_of_suc-le-suc}
use borrow.Author.Tests.{eqb-true, eq-eqb}
use lib.ListN.{length, get_or, length-set, get_or-replicate, get_or-eq_default}
use lib.Seq.{get_or-set_same, get_or-set_other}
use Rattle.utils.specs.Bytes.{pick}
use Rattle.graph.specs.Walk.{Walk, fresh, is_new, meet, leave, last_first, walk_from}

-- A new block is there and has the flag 0. --------------------------------------------------------------------------

pub record New (v : ℕ) (met : List ℕ) : Type 0 where
  pub there : v < length met
  pub flag : get_or met v 0 ≡ 0

pub get_d_any : {A : Type 0} (l : List A) (i : ℕ) (a b : A) → i < length l → get_or l i a ≡ get_or l i b
get_d_any [] i a b h = absurd (not-suc-le-zero h)
get_d_any (x ∷ xs) zero a b h = refl
get_d_any (x ∷ xs) (suc i) a b h = get_d_any xs i a b (le_of_suc-le-suc h)

pub new : (v : ℕ) (s : Walk) → is_new v s ≡ true → New v s.met
new v s e = go (dec_lt v (length s.met))
  where
    z : get_or s.met v 1 ≡ 0
    z = eqb-true (get_or s.met v 1) 0 e

    go : Dec (v < length s.met) → New v s.met
    go (yes h) = record { there = h; flag = get_d_any s.met v 0 1 h ∙ z }
    go (no f) = absurd (omega (arith, sym (get_or-eq_default s.met 1 {n = v} (omega arith)) ∙ z))

pub is_new_lem : (v : ℕ) (s : Walk) → New v s.met → is_new v s ≡ true
is_new_lem v s p = eq-eqb (get_or s.met v 1) 0 (get_d_any s.met v 1 0 p.there ∙ p.flag)

-- a block that is not there is not new
pub absent_old : (v : ℕ) (s : Walk) → length s.met ≤ v → is_new v s ≡ false
absent_old v s h = rw (get_or-eq_default s.met 1 {n = v} h)

-- a block that is met is not new, and the others are as they were
pub meet_self : (v : ℕ) (s : Walk) → is_new v (meet v s) ≡ false
meet_self v s = go (dec_lt v (length s.met))
  where
    go : Dec (v < length s.met) → is_new v (meet v s) ≡ false
    go (yes h) = rw (get_or-set_same s.met v 1 1 h)
    go (no f) = absent_old v (meet v s) (rw (length-set s.met v 1) (omega arith))

pub meet-other : (v k : ℕ) (s : Walk) → (k ≡ v → ⊥) → is_new k (meet v s) ≡ is_new k s
meet-other v k s f = rw (get_or-set_other s.met v k 1 1 f)

pub meet_old : (v k : ℕ) (s : Walk) → is_new k s ≡ false → is_new k (meet v s) ≡ false
meet_old v k s e = go (ℕ_discrete k v)
  where
    go : Dec (k ≡ v) → is_new k (meet v s) ≡ false
    go (yes p) = rw p (meet_self v s)
    go (no f) = meet-other v k s f ∙ e

pub old_meet : (v k : ℕ) (s : Walk) → is_new k (meet v s) ≡ false → (k ≡ v) ⊎ (is_new k s ≡ false)
old_meet v k s e = go (ℕ_discrete k v)
  where
    go : Dec (k ≡ v) → (k ≡ v) ⊎ (is_new k s ≡ false)
    go (yes p) = inl p
    go (no f) = inr (sym (meet-other v k s f) ∙ e)

-- at the start every block is new
pub fresh-new : (n v : ℕ) → v < n → is_new v (fresh n) ≡ true
fresh-new n v h = rw (get_or-replicate {A = ℕ} n v 0 1 h)

-- One step. ---------------------------------------------------------------------------------------------------------

module _ (g : ℕ → List ℕ) where
  pub walk_again : (d v : ℕ) (s : Walk) → is_new v s ≡ false → walk_from g d v s ≡ s
  unfolding walk_from pick
  walk_again zero v s e = refl
  walk_again (suc d) v s e = rw e

  pub walk_on : (d v : ℕ) (s : Walk) → is_new v s ≡ true
      → walk_from g (suc d) v s ≡ leave v (last_first (walk_from g d) (g v) (meet v s))
  unfolding walk_from pick
  walk_on d v s e = rw e

-- A whole walk. -----------------------------------------------------------------------------------------------------

module _ (g : ℕ → List ℕ) (P : Walk → Walk → Type 0)
    (same : (s : Walk) → P s s)
    (after : (s t u : Walk) → P s t → P t u → P s u)
    (step : (v : ℕ) (s t : Walk) → New v s.met → P (meet v s) t → P s (leave v t)) where
  pub each_ind : (from : ℕ → Walk → Walk) → ((v : ℕ) (s : Walk) → P s (from v s))
      → (vs : List ℕ) (s : Walk) → P s (last_first from vs s)
  each_ind from p [] s = same s
  each_ind from p (v ∷ vs) s =
      let t = last_first from vs s in
      after s t (from v t) (each_ind from p vs s) (p v t)

  step_ind : (d : ℕ) → ((v : ℕ) (s : Walk) → P s (walk_from g d v s)) → (v : ℕ) (s : Walk) (b : Bool) → is_new v s ≡ b
      → P s (walk_from g (suc d) v s)
  step_ind d ih v s true e =
      rw (walk_on g d v s e)
      (step v s (last_first (walk_from g d) (g v) (meet v s)) (new v s e) (each_ind (walk_from g d) ih (g v) (meet v s)))
  step_ind d ih v s false e = rw (walk_again g (suc d) v s e) (same s)

  pub walk_ind : (d v : ℕ) (s : Walk) → P s (walk_from g d v s)
  unfolding walk_from
  walk_ind zero v s = same s
  walk_ind (suc d) v s = step_ind d (walk_ind d) v s (is_new v s) refl
