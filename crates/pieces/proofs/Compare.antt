-- Bytes compared from the back: one byte more, none left, and lists of two lengths. Parts by length and by ends.
use Prim.Native.Nat.{ℕ, zero, suc, ◌+◌, ◌-◌, ◌≤◌, ◌<◌}
use mathlib.Core.Path.{◌≡◌, refl, sym, ap, ◌∙◌}
use mathlib.Core.List.{List, [], ◌∷◌, ◌++◌}
use mathlib.Core.Bool.{Bool, true, false}
use native.Mathlib.Omega.{arith}
use lib.Dec.{eqb}
use native.Mathlib.Nat.{zero-add, suc-add, suc_inj}
use lib.ListN.{length, get_or, take, drop, length-drop}
use lib.Seq.{slice, slice_empty, length-slice, take-nil, drop-nil, take_all, take-length, take-suc, get_or-drop}
use Rattle.utils.specs.Bytes.{pick, same_bytes}

-- a part by its length, and by its ends
pub part_slice : (a n : ℕ) (l : List ℕ) → take n (drop a l) ≡ slice a (a + n) l
part_slice zero n l = rw zero-add
part_slice (suc a) n [] = take-nil n ∙ rw (take-nil (suc a + n), drop-nil (suc a))
part_slice (suc a) n (x ∷ l) = rw suc-add (part_slice a n l)

pub part-between : (a e : ℕ) (l : List ℕ) → a ≤ e → take (e - a) (drop a l) ≡ slice a e l
part-between a e l h =
    let whole : a + (e - a) ≡ e = omega arith in
    part_slice a (e - a) l ∙ rw whole

-- lists as long as each other, with one byte more behind each
same_snoc : (xs ys : List ℕ) (x y : ℕ) → length xs ≡ length ys
    → same_bytes (xs ++ (x ∷ [])) (ys ++ (y ∷ [])) ≡ pick (eqb x y) (same_bytes xs ys) false
unfolding same_bytes pick
same_snoc [] [] x y e = refl
same_snoc [] (b ∷ ys) x y e = absurd (omega (arith, e))
same_snoc (a ∷ xs) [] x y e = absurd (omega (arith, e))
same_snoc (a ∷ xs) (b ∷ ys) x y e =
    rw (same_snoc xs ys x y (suc_inj e)) (swapped (eqb a b) (eqb x y) (same_bytes xs ys))
  where
    swapped : (s t q : Bool) → pick s (pick t q false) false ≡ pick t (pick s q false) false
    swapped true true q = refl
    swapped true false q = refl
    swapped false true q = refl
    swapped false false q = refl

part_snoc : (i k : ℕ) (l : List ℕ) → 0 < k → i + k ≤ length l
    → slice i (i + k) l ≡ slice i (i + (k - 1)) l ++ (get_or l (i + (k - 1)) 0 ∷ [])
part_snoc i k l h within =
    let d : k - 1 < length (drop i l) = rw length-drop (omega arith) in
    let e : k ≡ suc (k - 1) = omega arith in
    sym (part_slice i k l) ∙ ap (λ (n : ℕ). take n (drop i l)) e
    ∙ rw (← part_slice i (k - 1) l, ← get_or-drop i l (k - 1) 0) (take-suc (drop i l) (k - 1) 0 d)

-- the last bytes of two parts as long as each other decide, or else what stands before them
pub same_back : (a b : List ℕ) (i j k : ℕ) → 0 < k → i + k ≤ length a → j + k ≤ length b
    → same_bytes (slice i (i + k) a) (slice j (j + k) b)
    ≡ pick (eqb (get_or a (i + (k - 1)) 0) (get_or b (j + (k - 1)) 0))
    (same_bytes (slice i (i + (k - 1)) a) (slice j (j + (k - 1)) b))
    false
same_back a b i j k h ha hb =
    let la : length (slice i (i + (k - 1)) a) ≡ i + (k - 1) - i = length-slice i (i + (k - 1)) a (omega arith) in
    let lb : length (slice j (j + (k - 1)) b) ≡ j + (k - 1) - j = length-slice j (j + (k - 1)) b (omega arith) in
    let e : length (slice i (i + (k - 1)) a) ≡ length (slice j (j + (k - 1)) b) = omega (arith, la, lb) in
    rw (part_snoc i k a h ha, part_snoc j k b h hb)
    (same_snoc (slice i (i + (k - 1)) a) (slice j (j + (k - 1)) b) (get_or a (i + (k - 1)) 0)
    (get_or b (j + (k - 1)) 0) e)

pub same_end : (a b : List ℕ) (i j : ℕ) → same_bytes (slice i i a) (slice j j b) ≡ true
unfolding same_bytes
same_end a b i j = rw (slice_empty i a, slice_empty j b)

-- lists of two lengths differ
pub other_length : (x y : List ℕ) → (length x ≡ length y → ⊥) → same_bytes x y ≡ false
unfolding same_bytes pick
other_length [] [] h = absurd (h refl)
other_length [] (y ∷ ys) h = refl
other_length (x ∷ xs) [] h = refl
other_length (x ∷ xs) (y ∷ ys) h = rw (other_length xs ys (λ e. h (ap suc e))) (either (eqb x y))
  where
    either : (t : Bool) → pick t false false ≡ false
    either true = refl
    either false = refl

-- and so do parts of two lengths
pub other-part : (a b : List ℕ) (i m j n : ℕ) → i + m ≤ length a → j + n ≤ length b → (m ≡ n → ⊥)
    → false ≡ same_bytes (slice i (i + m) a) (slice j (j + n) b)
other-part a b i m j n ha hb h =
    let la : length (slice i (i + m) a) ≡ i + m - i = length-slice i (i + m) a ha in
    let lb : length (slice j (j + n) b) ≡ j + n - j = length-slice j (j + n) b hb in
    sym (other_length _ _ (λ e. h (omega (arith, e, la, lb))))

-- of one length the bytes decide
pub same-part : (a b : List ℕ) (i m j n : ℕ) {q : Bool} → m ≡ n
    → q ≡ same_bytes (slice i (i + n) a) (slice j (j + n) b) → q ≡ same_bytes (slice i (i + m) a) (slice j (j + n) b)
same-part a b i m j n e h = rw e h

-- two lists, each as a part of itself
pub same_whole : (x y : List ℕ) {q : Bool} → length x ≡ length y
    → q ≡ same_bytes (slice 0 (0 + length y) x) (slice 0 (0 + length y) y) → q ≡ same_bytes x y
same_whole x y e h = rw (zero-add, take_all (length y) x (omega (arith, e)), take-length y) at h
