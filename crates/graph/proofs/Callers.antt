-- For callers: what the arrays hold that `new` and `met_blocks` fill, what `pop` hands out, and what `is_met` says. A
-- list stored from the front of an array that is long enough is read back.
use Prim.Native.Nat.{ℕ, ◌+◌, ◌≤◌, ◌<◌}
use mathlib.Core.Path.{◌≡◌, refl, sym, ap, ◌∙◌}
use mathlib.Core.Bool.{Bool, true, false}
use mathlib.Core.List.{List, [], ◌∷◌}
use native.Mathlib.Omega.{arith}
use native.Mathlib.Numerals.{add-one}
use native.Mathlib.Decide.{dec_lt}
use borrow.Author.Tests.{lt-ltb, le-ltb, ltb-false, eq-eqb, eqb-true}
use lib.Dec.{ltb, eqb}
use lib.ListN.{length, get_or, take, drop, get_or-append, drop_of_length-le}
use lib.Seq.{sets, sets-eq, slice-cons, take_at, length-take-le}
use Rattle.utils.specs.Bytes.{pick}
use Rattle.graph.specs.Walk.{walked, met_blocks, block_order}
use Rattle.graph.specs.Records.{at_most256}
use Rattle.graph.specs.Reach.{PathFrom}
use Rattle.graph.specs.Worklist.{worklist, remaining, popped, flagged}
use Rattle.graph.specs.declared.BlockId.{BlockId}
use Rattle.graph.specs.declared.RPOWorklist.{RPOWorklist}
use Rattle.std.specs.Prelude.{Option, Some, None}
use Rattle.graph.proofs.Counts.{walked-long}
use Rattle.graph.proofs.Once.{order_permutation}
use Rattle.graph.proofs.Paths.{met_iff_path}

pub blocks_few : (count : ℕ) → count ≤ 256 → at_most256 count ≡ count
unfolding at_most256 pick
blocks_few count h = rw (le-ltb 256 count h)

pub blocks_most : (count : ℕ) → at_most256 count ≤ 256
unfolding at_most256 pick
blocks_most count = by (ltb 256 count) refl
  where
    by : (b : Bool) → ltb 256 count ≡ b → pick b 256 count ≤ 256
    by true e = omega arith
    by false e = ltb-false 256 count e

pub stored_at : (out l : List ℕ) (k : ℕ) → length l ≤ length out → k < length l → get_or (sets out 0 l) k 0 ≡ get_or l k 0
stored_at out l k h i = rw (sets-eq l out 0 (omega arith)) (get_or-append l (drop (0 + length l) out) 0 k i)

-- Taking the blocks. ------------------------------------------------------------------------------------------------

-- At first the whole order is to be taken.
pub new-remaining : (g : ℕ → List ℕ) (n : ℕ) (out : List ℕ) → n ≤ length out
    → remaining (sets out 0 (block_order g n)) (worklist 0 n) ≡ block_order g n
new-remaining g n out h =
    let l = (order_permutation g n).long in
    let behind = drop (0 + length (block_order g n)) out in
    rw (sets-eq (block_order g n) out 0 (omega arith)) (take_at (block_order g n) behind n l)

module _ (order : List ℕ) (k n : ℕ) (few : n ≤ 256) (long : n ≤ length order) where
  next : k < n → popped order (worklist k n) ≡ Some (record { 0 = get_or order k 0 }, worklist (k + 1) n)
  unfolding popped pick
  next h = rw (lt-ltb k n h, lt-ltb k 256 (omega arith))

  none : n ≤ k → popped order (worklist k n) ≡ None
  unfolding popped pick
  none h = rw (le-ltb k n h)

  -- A block handed out is the next to be taken, and the worklist after it goes on behind it.
  abbrev Next : BlockId → RPOWorklist → Type 0
  Next b w =
      (remaining order (worklist k n) ≡ b.0 ∷ remaining order (worklist (k + 1) n))
      × (w ≡ worklist (k + 1) n) × (k < n)

  pub popped-block : (b : BlockId) (w : RPOWorklist) → popped order (worklist k n) ≡ Some (b, w) → Next b w
  popped-block b w e = by (dec_lt k n)
    where
      by : Dec (k < n) → Next b w
      by (yes h) =
          let q : ◌≡◌ {A = Option (BlockId × RPOWorklist)} (Some (record { 0 = get_or order k 0 }, worklist (k + 1) n))
          (Some (b, w)) = sym (next h) ∙ e in
          let both : ◌≡◌ {A = BlockId × RPOWorklist} (record { 0 = get_or order k 0 }, worklist (k + 1) n) (b, w) = cc in
          let x : get_or order k 0 ≡ b.0 = ap (λ (p : BlockId × RPOWorklist). p.0.0) both in
          (rw (add-one k, slice-cons k n order 0 h long, x) refl, sym (ap (λ (p : BlockId × RPOWorklist). p.1) both), h)
      by (no f) = let z : ◌≡◌ {A = ℕ} 0 1 = cc (none (omega arith)) in absurd (omega arith)

  -- The worklist is empty once every block was handed out.
  pub popped_empty : popped order (worklist k n) ≡ None → remaining order (worklist k n) ≡ []
  popped_empty e = by (dec_lt k n)
    where
      by : Dec (k < n) → remaining order (worklist k n) ≡ []
      by (yes h) = let z : ◌≡◌ {A = ℕ} 0 1 = cc (next h) in absurd (omega arith)
      by (no f) = drop_of_length-le (take n order) {i = k} (omega (arith, length-take-le n order long))

-- Asking whether a block is met. ------------------------------------------------------------------------------------

module _ (g : ℕ → List ℕ) (n : ℕ) (out : List ℕ) (few : n ≤ 256) (long : length out ≡ 256) (v : ℕ) (there : v < n) where
  flag : flagged (sets out 0 (met_blocks g n)) v ≡ eqb (get_or (met_blocks g n) v 0) 1
  unfolding flagged pick met_blocks
  flag =
      let l = walked-long g n in
      rw (lt-ltb v 256 (omega arith), stored_at out (walked g n).met v (omega arith) (omega arith))

  pub flagged_iff_path : (flagged (sets out 0 (met_blocks g n)) v ≡ true → PathFrom g n 0 v)
      × (PathFrom g n 0 v → flagged (sets out 0 (met_blocks g n)) v ≡ true)
  flagged_iff_path =
      let m = met_iff_path g n v in
      let cell = get_or (met_blocks g n) v 0 in
      (λ e. m.0 (eqb-true cell 1 (sym flag ∙ e)), λ p. flag ∙ eq-eqb cell 1 (m.1 p))
