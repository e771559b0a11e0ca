-- Why the order is put in place: what is still to be stored, stored from here, gives the whole.
use Prim.Native.Nat.{ℕ, ◌+◌, ◌≤◌, ◌<◌}
use mathlib.Core.Path.{◌≡◌, refl, sym, ap, ◌∙◌}
use mathlib.Core.List.{List, ◌∷◌}
use native.Mathlib.Omega.{arith}
use borrow.Author.Tests.{ne_eqb}
use native.Mathlib.Numerals.{add-one}
use native.Mathlib.Nat.{zero-add}
use lib.ListN.{length, get_or, set, take, drop, length-drop}
use lib.Seq.{sets, drop-cons, get_or-take, length-take-le}
use Rattle.utils.specs.Bytes.{pick}
use Rattle.utils.proofs.Runs.{sets_append}
use Rattle.graph.specs.Walk.{Walk, walked, met_blocks, never_met, block_order}
use Rattle.graph.specs.Frames.{waiting, Holds}
use Rattle.graph.proofs.Counts.{walked_sum}

-- Block k is stored if its flag, the first of those from k on, is 0.
module _ (met : List ℕ) (n k : ℕ) (less : k < n) (long : n ≤ length met) where
  abbrev flags : ℕ → List ℕ
  flags k = drop k (take n met)

  first : flags k ≡ get_or met k 0 ∷ flags (k + 1)
  first =
      let h : k < length (take n met) = rw (length-take-le n met long) less in
      rw (add-one k) (drop-cons (take n met) k 0 h ∙ rw (get_or-take n met k 0 less))

  pub unmet : get_or met k 0 ≡ 0 → (waiting (flags k) ≡ 1 + waiting (flags (k + 1)))
      × ((out : List ℕ) (at : ℕ)
      → sets (set out at k) (at + 1) (never_met (k + 1) (flags (k + 1))) ≡ sets out at (never_met k (flags k)))
  unfolding never_met pick
  unmet z = rw (first, z) (refl, λ out at. rw (add-one at) refl)

  pub met-before : (get_or met k 0 ≡ 0 → ⊥) → (waiting (flags k) ≡ waiting (flags (k + 1)))
      × (never_met (k + 1) (flags (k + 1)) ≡ never_met k (flags k))
  unfolding never_met pick
  met-before f = rw (first, ne_eqb _ _ f) (zero-add _, refl)

-- From a walk to the order. -----------------------------------------------------------------------------------------

module _ (g : ℕ → List ℕ) (n : ℕ) (met left : List ℕ) (at placed : ℕ)
    (walk : Holds (walked g n) n met left at) (few : n ≤ 256) (all : placed + at ≡ 256) where
  met-is : take n met ≡ (walked g n).met
  met-is = ap (λ (s : Walk). s.met) walk.same

  left_is : drop at left ≡ (walked g n).left
  left_is = ap (λ (s : Walk). s.left) walk.same

  placed_is : placed ≡ length (drop at left)
  placed_is = omega (arith, length-drop at left, walk.long_left, walk.within)

  -- there is room for the blocks never met
  pub room_unmet : placed + waiting (take n met) ≤ 256
  room_unmet = omega (arith, placed_is, ap length left_is, ap waiting met-is, walked_sum g n)

  pub order_placed : (out₀ out₁ out₂ : List ℕ) → out₁ ≡ sets out₀ 0 (drop at left)
      → out₂ ≡ sets out₁ placed (never_met 0 (take n met)) → out₂ ≡ sets out₀ 0 (block_order g n)
  unfolding block_order met_blocks
  order_placed out₀ out₁ out₂ p q =
      let here : placed ≡ 0 + length (walked g n).left = omega (arith, placed_is, ap length left_is) in
      q ∙ rw (p, met-is, left_is, here) (sym (sets_append (walked g n).left (never_met 0 (walked g n).met) out₀ 0))

pub flags_placed : (g : ℕ → List ℕ) (n : ℕ) (met left : List ℕ) (at : ℕ) → Holds (walked g n) n met left at
    → (out₀ out₁ : List ℕ) → out₁ ≡ sets out₀ 0 (take n met) → out₁ ≡ sets out₀ 0 (met_blocks g n)
unfolding met_blocks
flags_placed g n met left at walk out₀ out₁ p = p ∙ ap (λ (s : Walk). sets out₀ 0 s.met) walk.same
