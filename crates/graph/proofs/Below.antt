-- The order depends only on the successors of the blocks below the count: the walk asks for a block's successors only
-- where that block is new, and only a block that is there is new.
use Prim.Native.Nat.{ℕ, zero, suc, ◌<◌}
use mathlib.Core.Path.{◌≡◌, refl, sym, ap, ◌∙◌}
use mathlib.Core.Bool.{Bool, true, false}
use mathlib.Core.List.{List, [], ◌∷◌, ◌++◌}
use lib.ListN.{length, length-set, length-replicate}
use Rattle.graph.specs.Walk.{Walk, fresh, is_new, meet, leave, last_first, walk_from, walked}
use Rattle.graph.specs.Walk.{met_blocks, never_met, block_order}
use Rattle.graph.proofs.Steps.{new, walk_again, walk_on}
use Rattle.graph.proofs.Counts.{each-kept}

module _ (g h : ℕ → List ℕ) (n : ℕ) (same : (v : ℕ) → v < n → g v ≡ h v) where
  abbrev Alike : ℕ → Type 0
  Alike d = (v : ℕ) (s : Walk) → length s.met ≡ n → walk_from g d v s ≡ walk_from h d v s

  each-alike : (d : ℕ) → Alike d → (vs : List ℕ) (s : Walk) → length s.met ≡ n
      → last_first (walk_from g d) vs s ≡ last_first (walk_from h d) vs s
  each-alike d p [] s l = refl
  each-alike d p (v ∷ vs) s l =
      p v (last_first (walk_from g d) vs s) ((each-kept g d vs s).long ∙ l)
      ∙ ap (walk_from h d v) (each-alike d p vs s l)

  step_alike : (d : ℕ) → Alike d → (v : ℕ) (s : Walk) → length s.met ≡ n → (b : Bool) → is_new v s ≡ b
      → walk_from g (suc d) v s ≡ walk_from h (suc d) v s
  step_alike d p v s l true e =
      walk_on g d v s e
      ∙ ap (λ (vs : List ℕ). leave v (last_first (walk_from g d) vs (meet v s))) (same v (rw l at (new v s e).there))
      ∙ ap (leave v) (each-alike d p (h v) (meet v s) (length-set s.met v 1 ∙ l))
      ∙ sym (walk_on h d v s e)
  step_alike d p v s l false e = walk_again g (suc d) v s e ∙ sym (walk_again h (suc d) v s e)

  walk_alike : (d : ℕ) → Alike d
  unfolding walk_from
  walk_alike zero v s l = refl
  walk_alike (suc d) v s l = step_alike d (walk_alike d) v s l (is_new v s) refl

  pub walk_depends_below : walked g n ≡ walked h n
  unfolding walked
  walk_depends_below = walk_alike n 0 (fresh n) (length-replicate n 0)

  pub met_depends_below : met_blocks g n ≡ met_blocks h n
  unfolding met_blocks
  met_depends_below = ap (λ (s : Walk). s.met) walk_depends_below

  pub order_depends_below : block_order g n ≡ block_order h n
  unfolding block_order met_blocks
  order_depends_below = ap (λ (s : Walk). s.left ++ never_met 0 s.met) walk_depends_below
