-- The bound on the walk's depth is never felt: each step down meets a block, so a walk that may go as deep as there are
-- blocks still to be met goes no deeper if it may.
use Prim.Native.Nat.{ℕ, zero, suc, ◌+◌, ◌≤◌}
use mathlib.Core.Path.{◌≡◌, refl, sym, ap, ◌∙◌}
use mathlib.Core.Bool.{Bool, true, false}
use mathlib.Core.List.{List, [], ◌∷◌}
use native.Mathlib.Omega.{arith}
use Rattle.graph.specs.Walk.{Walk, fresh, is_new, meet, leave, last_first, walk_from, walked}
use Rattle.graph.specs.Frames.{waiting}
use Rattle.graph.proofs.Steps.{new, walk_again, walk_on}
use Rattle.graph.proofs.Counts.{waiting-set, waiting-fresh, each-kept}

module _ (g : ℕ → List ℕ) where
  abbrev Enough : ℕ → Type 0
  Enough d = (v : ℕ) (s : Walk) → waiting s.met ≤ d → walk_from g d v s ≡ walk_from g (suc d) v s

  each_enough : (d : ℕ) → Enough d → (vs : List ℕ) (s : Walk) → waiting s.met ≤ d
      → last_first (walk_from g d) vs s ≡ last_first (walk_from g (suc d)) vs s
  each_enough d p [] s h = refl
  each_enough d p (v ∷ vs) s h =
      p v (last_first (walk_from g d) vs s) (omega (arith, (each-kept g d vs s).fewer))
      ∙ ap (walk_from g (suc d) v) (each_enough d p vs s h)

  step_enough : (d : ℕ) → Enough d → (v : ℕ) (s : Walk) → waiting s.met ≤ suc d → (b : Bool) → is_new v s ≡ b
      → walk_from g (suc d) v s ≡ walk_from g (suc (suc d)) v s
  step_enough d p v s h true e =
      walk_on g d v s e
      ∙ ap (leave v) (each_enough d p (g v) (meet v s) (omega (arith, waiting-set s.met v (new v s e))))
      ∙ sym (walk_on g (suc d) v s e)
  step_enough d p v s h false e = walk_again g (suc d) v s e ∙ sym (walk_again g (suc (suc d)) v s e)

  none_enough : (v : ℕ) (s : Walk) → waiting s.met ≤ 0 → (b : Bool) → is_new v s ≡ b
      → walk_from g 0 v s ≡ walk_from g 1 v s
  none_enough v s h true e = absurd (omega (arith, waiting-set s.met v (new v s e)))
  none_enough v s h false e = walk_again g 0 v s e ∙ sym (walk_again g 1 v s e)

  pub enough : (d : ℕ) → Enough d
  enough zero v s h = none_enough v s h (is_new v s) refl
  enough (suc d) v s h = step_enough d (enough d) v s h (is_new v s) refl

  more_enough : (d m v : ℕ) (s : Walk) → waiting s.met ≤ d → walk_from g (d + m) v s ≡ walk_from g d v s
  more_enough d zero v s h = ap (λ (k : ℕ). walk_from g k v s) (omega arith)
  more_enough d (suc m) v s h =
      let e : d + suc m ≡ suc (d + m) = omega arith in
      ap (λ (k : ℕ). walk_from g k v s) e ∙ sym (enough (d + m) v s (omega arith)) ∙ more_enough d m v s h

  -- A walk of n blocks that may go deeper than n goes no further.
  pub depth_enough : (n m : ℕ) → walk_from g (n + m) 0 (fresh n) ≡ walked g n
  unfolding walked
  depth_enough n m = more_enough n m 0 (fresh n) (omega (arith, waiting-fresh n))

  -- One step of a walk that may go deep enough, which may go as deep below.
  pub enough_on : (d v : ℕ) (s : Walk) → waiting s.met ≤ d → is_new v s ≡ true
      → walk_from g d v s ≡ leave v (last_first (walk_from g d) (g v) (meet v s))
  enough_on zero v s h e = absurd (omega (arith, waiting-set s.met v (new v s e)))
  enough_on (suc d) v s h e =
      let w = waiting-set s.met v (new v s e) in
      walk_on g d v s e ∙ ap (leave v) (each_enough d (enough d) (g v) (meet v s) (omega (arith, w)))
