-- A block is met exactly if a path of edges leads to it from block 0. Forth: the walk goes only along edges. Back: when
-- a walk that may go deep enough ends, no successor of a block that it met is new, so the blocks met are closed under
-- edges.
use Prim.Native.Nat.{ℕ, zero, suc, ◌≤◌, ◌<◌}
use mathlib.Core.Path.{◌≡◌, refl, sym, ◌∙◌, subst}
use mathlib.Core.Logic.{⊎_elim, ◌⊎◌, inl, inr}
use mathlib.Core.Bool.{Bool, true, false, true≢false}
use mathlib.Core.List.{List, [], ◌∷◌}
use native.Mathlib.Omega.{arith}
use native.Mathlib.Decide.{ℕ_discrete, dec_lt}
use borrow.Author.Tests.{eqb-false}
use lib.ListN.{length, get_or, set, length-set, length-replicate, get_or-replicate, get_or-eq_default}
use lib.Seq.{get_or-set_same, get_or-set_other}
use Rattle.graph.specs.Walk.{Walk, fresh, is_new, meet, last_first, walk_from, walked, met_blocks, Met}
use Rattle.graph.specs.Reach.{In, front, later, PathFrom, start, on}
use Rattle.graph.specs.Frames.{waiting}
use Rattle.graph.proofs.Steps.{New, new, get_d_any, meet_self, meet_old, old_meet, fresh-new}
use Rattle.graph.proofs.Steps.{walk_again, walk_on, walk_ind, each_ind}
use Rattle.graph.proofs.Counts.{waiting-set, waiting-fresh, each-kept, walked-long}

abbrev Old : Walk → ℕ → Type 0
Old s v = is_new v s ≡ false

-- Forth. ------------------------------------------------------------------------------------------------------------

-- Where R goes along every edge, each block that a walk meets from a block that has R has R.
module _ (g : ℕ → List ℕ) (n : ℕ) (R : ℕ → Type 0) (closed : (u w : ℕ) → u < n → R u → In w (g u) → w < n → R w) where
  abbrev Sound : (ℕ → Walk → Walk) → Type 0
  Sound from = (v : ℕ) (s : Walk) → length s.met ≡ n → (v < n → R v)
      → (k : ℕ) → k < n → Old (from v s) k → Old s k ⊎ R k

  each_sound : (d : ℕ) → Sound (walk_from g d) → (vs : List ℕ) (s : Walk) → length s.met ≡ n
      → ((w : ℕ) → In w vs → w < n → R w)
      → (k : ℕ) → k < n → Old (last_first (walk_from g d) vs s) k → Old s k ⊎ R k
  each_sound d p [] s l r k h o = inl o
  each_sound d p (v ∷ vs) s l r k h o =
      ⊎_elim (λ a. each_sound d p vs s l (λ w i. r w (later i)) k h a) (λ a. inr a)
      (p v (last_first (walk_from g d) vs s) ((each-kept g d vs s).long ∙ l) (r v front) k h o)

  step_sound : (d : ℕ) → Sound (walk_from g d) → (v : ℕ) (s : Walk) → length s.met ≡ n → (v < n → R v)
      → (b : Bool) → is_new v s ≡ b → (k : ℕ) → k < n → Old (walk_from g (suc d) v s) k → Old s k ⊎ R k
  step_sound d p v s l r true e k h o =
      let hv : v < n = rw l at (new v s e).there in
      let o' = rw (walk_on g d v s e) at o in
      ⊎_elim (λ a. ⊎_elim (λ q. inr (subst R (sym q) (r hv))) (λ q. inl q) (old_meet v k s a)) (λ a. inr a)
      (each_sound d p (g v) (meet v s) (length-set s.met v 1 ∙ l) (λ w i. closed v w hv (r hv) i) k h o')
  step_sound d p v s l r false e k h o = inl (rw (walk_again g (suc d) v s e) at o)

  walk_sound : (d : ℕ) → Sound (walk_from g d)
  unfolding walk_from
  walk_sound zero v s l r k h o = inl o
  walk_sound (suc d) v s l r k h o = step_sound d (walk_sound d) v s l r (is_new v s) refl k h o

-- Back. -------------------------------------------------------------------------------------------------------------

abbrev AllOld : Walk → List ℕ → Type 0
AllOld s vs = (w : ℕ) → In w vs → Old s w

both : (v : ℕ) (vs : List ℕ) (s : Walk) → Old s v → AllOld s vs → (w : ℕ) → In w (v ∷ vs) → Old s w
both v vs s a b w (front) = a
both v vs s a b w (later i) = b w i

-- what is no longer new stays so
abbrev Older : Walk → Walk → Type 0
Older s t = (k : ℕ) → Old s k → Old t k

walk_older : (g : ℕ → List ℕ) (d v : ℕ) (s : Walk) → Older s (walk_from g d v s)
walk_older g = walk_ind g Older (λ s k o. o) (λ s t u p q k o. q k (p k o)) (λ v s t p q k o. q k (meet_old v k s o))

each_older : (g : ℕ → List ℕ) (d : ℕ) (vs : List ℕ) (s : Walk) → Older s (last_first (walk_from g d) vs s)
each_older g d =
    each_ind g Older (λ s k o. o) (λ s t u p q k o. q k (p k o)) (λ v s t p q k o. q k (meet_old v k s o))
    (walk_from g d) (walk_older g d)

module _ (g : ℕ → List ℕ) where
  -- no successor is new of a block that a walk from s to t met
  abbrev Closed : Walk → Walk → Type 0
  Closed s t = (u : ℕ) → Old t u → Old s u ⊎ AllOld t (g u)

  abbrev Whole : ℕ → Type 0
  Whole d = (v : ℕ) (s : Walk) → waiting s.met ≤ d → Closed s (walk_from g d v s) × Old (walk_from g d v s) v

  each-whole : (d : ℕ) → Whole d → (vs : List ℕ) (s : Walk) → waiting s.met ≤ d
      → Closed s (last_first (walk_from g d) vs s) × AllOld (last_first (walk_from g d) vs s) vs
  each-whole d p [] s h = (λ u o. inl o, λ w i. elim i [ ])
  each-whole d p (v ∷ vs) s h =
      let t = last_first (walk_from g d) vs s in
      let r = each-whole d p vs s h in
      let q = p v t (omega (arith, (each-kept g d vs s).fewer)) in (
        λ u o. ⊎_elim
            (λ a. ⊎_elim (λ b. inl b) (λ b. inr (λ w i. walk_older g d v t w (b w i))) (r.0 u a))
            (λ a. inr a) (q.0 u o),
        both v vs (walk_from g d v t) q.1 (λ w i. walk_older g d v t w (r.1 w i)),
      )

  step_whole : (d : ℕ) → Whole d → (v : ℕ) (s : Walk) → waiting s.met ≤ suc d → (b : Bool) → is_new v s ≡ b
      → Closed s (walk_from g (suc d) v s) × Old (walk_from g (suc d) v s) v
  step_whole d p v s h true e =
      let r = each-whole d p (g v) (meet v s) (omega (arith, waiting-set s.met v (new v s e))) in
      let t = last_first (walk_from g d) (g v) (meet v s) in
      rw (walk_on g d v s e) (
        λ u o. ⊎_elim
            (λ a. ⊎_elim (λ q. inr (subst (λ (x : ℕ). AllOld t (g x)) (sym q) r.1)) (λ q. inl q) (old_meet v u s a))
            (λ a. inr a) (r.0 u o),
        each_older g d (g v) (meet v s) v (meet_self v s),
      )
  step_whole d p v s h false e = rw (walk_again g (suc d) v s e) (λ u o. inl o, e)

  none-whole : (v : ℕ) (s : Walk) → waiting s.met ≤ 0 → (b : Bool) → is_new v s ≡ b → Old s v
  none-whole v s h true e = absurd (omega (arith, waiting-set s.met v (new v s e)))
  none-whole v s h false e = e

  walk_whole : (d : ℕ) → Whole d
  unfolding walk_from
  walk_whole zero v s h = (λ u o. inl o, none-whole v s h (is_new v s) refl)
  walk_whole (suc d) v s h = step_whole d (walk_whole d) v s h (is_new v s) refl

-- Both. -------------------------------------------------------------------------------------------------------------

-- flags are 0 and 1
abbrev Flags : Walk → Walk → Type 0
Flags s t = ((k : ℕ) → get_or s.met k 0 ≤ 1) → (k : ℕ) → get_or t.met k 0 ≤ 1

flag_meet : (met : List ℕ) (v : ℕ) → New v met → ((k : ℕ) → get_or met k 0 ≤ 1) → (k : ℕ) → get_or (set met v 1) k 0 ≤ 1
flag_meet met v p f k = go (ℕ_discrete k v)
  where
    go : Dec (k ≡ v) → get_or (set met v 1) k 0 ≤ 1
    go (yes e) = rw (e, get_or-set_same met v 1 0 p.there) (omega arith)
    go (no q) = rw (get_or-set_other met v k 1 0 q) (f k)

flag_fresh : (n k : ℕ) → get_or (fresh n).met k 0 ≤ 1
flag_fresh n k = go (dec_lt k n)
  where
    go : Dec (k < n) → get_or (fresh n).met k 0 ≤ 1
    go (yes h) = rw (get_or-replicate {A = ℕ} n k 0 0 h) (omega arith)
    go (no f) =
        let l = length-replicate {A = ℕ} n 0 in
        rw (get_or-eq_default (fresh n).met 0 {n = k} (omega arith)) (omega arith)

module _ (g : ℕ → List ℕ) (n : ℕ) where
  flag_walked : (k : ℕ) → get_or (walked g n).met k 0 ≤ 1
  unfolding walked
  flag_walked =
      walk_ind g Flags (λ s f. f) (λ s t u p q f. q (p f)) (λ v s t p q f. q (flag_meet s.met v p f)) n 0 (fresh n)
      (flag_fresh n)

  fresh-not_old : (k : ℕ) → k < n → Old (fresh n) k → ⊥
  fresh-not_old k h o = true≢false (sym (fresh-new n k h) ∙ o)

  met_there : (v : ℕ) → Met g n v → v < n
  unfolding met_blocks
  met_there v m = go (dec_lt v n)
    where
      go : Dec (v < n) → v < n
      go (yes h) = h
      go (no f) =
          let none = get_or-eq_default (walked g n).met 0 {n = v} (rw (walked-long g n) (omega arith)) in
          absurd (omega (arith, sym none ∙ m))

  met_old : (v : ℕ) → Met g n v → Old (walked g n) v
  unfolding met_blocks
  met_old v m = rw (get_d_any (walked g n).met v 1 0 (rw (walked-long g n) (met_there v m)), m)

  old_met : (v : ℕ) → v < n → Old (walked g n) v → Met g n v
  unfolding met_blocks
  old_met v h o =
      let e = get_d_any (walked g n).met v 1 0 (rw (walked-long g n) h) in
      let f : get_or (walked g n).met v 0 ≡ 0 → ⊥ = λ z. eqb-false (get_or (walked g n).met v 1) 0 o (e ∙ z) in
      omega (arith, flag_walked v, f)

  met_path : (v : ℕ) → Met g n v → PathFrom g n 0 v
  unfolding walked
  met_path v m =
      ⊎_elim (λ a. absurd (fresh-not_old v (met_there v m) a)) (λ a. a)
      (walk_sound g n (PathFrom g n 0) (λ u w hu r i hw. on r (record { from = hu; to = hw; along = i })) n 0 (fresh n)
      (length-replicate n 0) start v (met_there v m) (met_old v m))

  path_there : (v : ℕ) → PathFrom g n 0 v → v < n
  path_there v (start h) = h
  path_there v (on p e) = e.to

  path_old : (v : ℕ) → PathFrom g n 0 v → Old (walked g n) v
  unfolding walked
  path_old v (start h) = (walk_whole g n 0 (fresh n) (omega (arith, waiting-fresh n))).1
  path_old v (on {v = u} p e) =
      ⊎_elim (λ a. absurd (fresh-not_old u e.from a)) (λ a. a v e.along)
      ((walk_whole g n 0 (fresh n) (omega (arith, waiting-fresh n))).0 u (path_old u p))

  pub met_iff_path : (v : ℕ) → (Met g n v → PathFrom g n 0 v) × (PathFrom g n 0 v → Met g n v)
  met_iff_path v = (met_path v, λ p. old_met v (path_there v p) (path_old v p))
