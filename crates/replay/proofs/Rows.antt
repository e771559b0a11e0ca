-- The values of a run, and the rows that repeat them, as stores into a slice.
use Rattle.std.proofs.Common.{◌≡◌, ℕ, zero, suc, ◌+◌, ◌-◌, ◌*◌, ◌%◌, ◌<◌, ◌≤◌, List, [], ◌∷◌, ◌++◌, length, get_or, take, drop, set, sym, refl, ap, ◌∙◌, add-one, arith, append_assoc, append-nil, length-drop, length-append, length-take-le, get_or-take, take_at, drop_at, mul-le-mul, le_refl}
use Rattle.std.proofs.lemmas.List.{take_more_set, drop_all}
use borrow.Rule.Slice.PartMut.{put_mid}
use lib.Seq.{sets, sets-eq, slice, slice-cons, slice_empty, length-slice, set_out}
use Rattle.utils.proofs.Runs.{sets_append}
use Rattle.replay.specs.Numbers.{number_at}
use Rattle.replay.specs.Lists.{values, value_at, values_at, stepped, repeated}
use Rattle.replay.specs.declared.Number.{Number}
use Rattle.replay.specs.declared.lists.Kind.{Kind}
use Rattle.replay.specs.declared.lists.Kind.TheVariants.{Numbers}

pub values-more : (kind : Kind) (s : List ℕ) (n m at : ℕ) (one : Number) → n ≡ m + 1 → one ≡ value_at kind s at
    → values_at kind s n at
    ≡ values (one.value ∷ (values_at kind s m one.next).cells) (values_at kind s m one.next).next
unfolding values_at
values-more kind s n m at one h e = rw (h, add-one m, e)

pub values-none : (kind : Kind) (s : List ℕ) (n at : ℕ) → n ≡ 0 → values_at kind s n at ≡ values [] at
unfolding values_at
values-none kind s n at h = rw h

pub values_length : (kind : Kind) (s : List ℕ) (n at : ℕ) → length (values_at kind s n at).cells ≡ n
unfolding values_at
values_length kind s zero at = refl
values_length kind s (suc n) at = ap suc (values_length kind s n (value_at kind s at).next)

-- one more value stored
pub value-stored : (cells more : List ℕ) (i v : ℕ) → i < length cells
    → take (i + 1) (set cells i v) ++ more ≡ take i cells ++ v ∷ more
value-stored cells more i v h = rw (take_more_set cells i v h) (append_assoc (take i cells) (v ∷ []) more)

pub stepped-length : (xs ds : List ℕ) → length xs ≡ length ds → length (stepped xs ds) ≡ length xs
unfolding stepped
stepped-length [] ds e = refl
stepped-length (x ∷ xs) [] e = absurd (omega arith)
stepped-length (x ∷ xs) (d ∷ ds) e = ap suc (stepped-length xs ds (omega arith))

pub repeated-more : (n m : ℕ) (xs ds : List ℕ) → n ≡ m + 1 → repeated n xs ds ≡ xs ++ repeated m (stepped xs ds) ds
unfolding repeated
repeated-more n m xs ds h = rw (h, add-one m)

pub repeated-none : (n : ℕ) (xs ds : List ℕ) → n ≡ 0 → repeated n xs ds ≡ []
unfolding repeated
repeated-none n xs ds h = rw h

pub repeated-length : (n : ℕ) (xs ds : List ℕ) → length xs ≡ length ds → length (repeated n xs ds) ≡ n * length xs
unfolding repeated
repeated-length zero xs ds e = omega arith
repeated-length (suc n) xs ds e =
    let l = stepped-length xs ds e in
    let more : length (repeated n (stepped xs ds) ds) ≡ n * length xs =
    repeated-length n (stepped xs ds) ds (l ∙ e) ∙ ap (λ (k : ℕ). n * k) l in
    length-append xs (repeated n (stepped xs ds) ds) ∙ rw more (omega arith)

-- a store behind the end stores nothing
pub sets-out : (l vs : List ℕ) (i : ℕ) → length l ≤ i → sets l i vs ≡ l
sets-out l [] i h = refl
sets-out l (a ∷ vs) i h = rw (set_out l i a h) (sets-out l vs (suc i) (omega arith))

sets_nil : (vs : List ℕ) (i : ℕ) → sets [] i vs ≡ []
sets_nil [] i = refl
sets_nil (a ∷ vs) i = sets_nil vs (suc i)

sets_cons : (x : ℕ) (xs vs : List ℕ) (i : ℕ) → sets (x ∷ xs) (suc i) vs ≡ x ∷ sets xs i vs
sets_cons x xs [] i = refl
sets_cons x xs (a ∷ vs) i = sets_cons x (set xs i a) vs (suc i)

-- what is stored first in the part from a place on, is stored there
pub sets-behind : (l vs : List ℕ) (i : ℕ) → take i l ++ sets (drop i l) 0 vs ≡ sets l i vs
sets-behind l vs zero = refl
sets-behind [] vs (suc i) = sets_nil vs 0 ∙ sym (sets_nil vs (suc i))
sets-behind (x ∷ xs) vs (suc i) = ap (λ (l : List ℕ). x ∷ l) (sets-behind xs vs i) ∙ sym (sets_cons x xs vs i)

-- a slice after a write to its part from a place on
pub put-last : (l part : List ℕ) (i : ℕ) → put_mid i (length l - i) l part ≡ take i l ++ part
put-last l part i =
    let rest = drop i l in
    let none : drop (length l - i) rest ≡ [] = drop_all (length l - i) rest (omega (arith, length-drop i l)) in
    rw none (ap (λ (p : List ℕ). take i l ++ p) (append-nil part))

-- what was stored stands there
pub slice-stored : (l vs : List ℕ) (i w : ℕ) → length vs ≡ w → i + w ≤ length l → slice i (i + w) (sets l i vs) ≡ vs
slice-stored l vs i w e h =
    let h' : i + length vs ≤ length l = omega arith in
    let front : length (take i l) ≡ i = length-take-le i l (omega arith) in
    let both : length (take i l ++ vs) ≡ i + w = length-append (take i l) vs ∙ omega arith in
    rw (
      sets-eq vs l i h',
      take_at (take i l ++ vs) (drop (i + length vs) l) (i + w) both,
      drop_at (take i l) vs i
          front,
    )

-- one more cell of a row stored
module _ (s b₀ cells : List ℕ) (at start width here n m : ℕ) (step : Number) (x : ℕ) (some : n ≡ m + 1)
    (sum : here + n ≡ start + width) (room : start + width ≤ length b₀)
    (same : take (start + width) cells ≡ take (start + width) b₀) (read : step ≡ number_at s at)
    (grown : x ≡ (get_or cells here 0 + step.value) % 4294967296) where
  old_cell : get_or cells here 0 ≡ get_or b₀ here 0
  old_cell =
      let h : here < start + width = omega arith in
      sym (get_or-take (start + width) cells here 0 h) ∙ (rw same (get_or-take (start + width) b₀ here 0 h))

  pub cell_stored : sets (set cells (here + width) x) (here + 1 + width)
      (stepped (slice (here + 1) (start + width) b₀) (values_at Numbers s m step.next).cells)
      ≡ sets cells (here + width) (stepped (slice here (start + width) b₀) (values_at Numbers s n at).cells)
  unfolding stepped
  cell_stored =
      let h : here < start + width = omega arith in
      let e : here + 1 + width ≡ suc (here + width) = omega arith in
      rw (
        values-more Numbers s n m at step some read,
        slice-cons here (start + width) b₀ 0 h room,
        e,
        grown,
        old_cell,
        add-one here,
      )

pub next-row : (i w : ℕ) → (i + 1) * w ≡ i * w + w
next-row i w = rw (add-one i) (omega arith)

pub row_fits : (i n w : ℕ) → i < n → i * w + w + w ≤ w + n * w
row_fits i n w h =
    let e : (i + 1) * w ≤ n * w = mul-le-mul (omega arith) (le_refl w) in
    omega (arith, next-row i w)

-- one more row stored
pub row-stored : (cells cells' steps : List ℕ) (row next width n m : ℕ) → n ≡ m + 1 → next ≡ row + width
    → length steps ≡ width
    → row + width + width ≤ length cells
    → cells' ≡ sets cells (row + width) (stepped (slice row (row + width) cells) steps)
    → sets cells' (next + width) (repeated m (stepped (slice next (next + width) cells') steps) steps)
    ≡ sets cells (row + width) (repeated n (stepped (slice row (row + width) cells) steps) steps)
row-stored cells cells' steps row next width n m some q l room e =
    let old = slice row (row + width) cells in
    let new = stepped old steps in
    let f : length old ≡ width = length-slice row (row + width) cells (omega arith) ∙ omega arith in
    let g : length new ≡ width = stepped-length old steps (f ∙ sym l) ∙ f in
    let stands : slice (row + width) (row + width + width) cells' ≡ new =
    rw e (slice-stored cells new (row + width) width g room) in
    let more = repeated m (stepped new steps) steps in
    let seam : sets cells (row + width) (new ++ more) ≡ sets cells' (row + width + width) more =
    sets_append new more cells (row + width) ∙ rw (g, ← e) in
    rw (q, stands, repeated-more n m new steps some) (sym seam)

-- a row that is stored whole
pub row_done : (b₀ cells xs : List ℕ) (here t width : ℕ) → here ≡ t
    → sets cells (here + width) (stepped (slice here t b₀) xs) ≡ cells
unfolding stepped
row_done b₀ cells xs here t width e = rw (e, slice_empty t b₀)
