-- Runs of stores, one after the other.
use Prim.Native.Nat.{ℕ, zero, suc, ◌+◌, ◌-◌, ◌≤◌, ◌<◌, ◌/◌, ◌%◌}
use mathlib.Core.List.{List, [], ◌∷◌, ◌++◌, append-nil, append_assoc}
use mathlib.Core.Path.{◌≡◌, refl, sym, ap, ◌∙◌}
use native.Mathlib.Omega.{arith}
use native.Mathlib.Nat.{add-zero, zero-add, add-sub_of_le, sub-zero, zero-sub, suc-sub-suc}
use lib.ListN.{length, set, take, drop, length-append, length-drop, replicate, length-replicate, replicate-append-replicate}
use borrow.Rule.Slice.PartMut.{put_mid}
use Rattle.std.proofs.lemmas.Slice.{put_mid-paste}
use Rattle.std.proofs.lemmas.List.Edits.{paste_all}
use lib.Seq.{sets, sets-eq, drop_at, drop-drop, take_all, take-append_seam, drop-append-add}
use borrow.Author.Tests.{lt-ltb, le-ltb}
use Rattle.utils.specs.Message.{digits}
use Rattle.utils.specs.Bytes.{pick, pad_to, over}

pub sets_append : (xs ys l : List ℕ) (i : ℕ) → sets l i (xs ++ ys) ≡ sets (sets l i xs) (i + length xs) ys
sets_append [] ys l i = rw add-zero
sets_append (x ∷ xs) ys l i =
    let e : i + suc (length xs) ≡ suc i + length xs = omega arith in
    rw e (sets_append xs ys (set l i x) (suc i))

-- what a part of a slice now holds was stored there
pub stored : {X : Type 0} (at k : ℕ) (xs ys zs : List X) → ys ≡ zs → k ≡ length zs → at + k ≤ length xs
    → put_mid at k xs ys ≡ sets xs at zs
stored at k xs ys zs e n h =
    put_mid-paste at k xs ys zs (length zs) e (sym n) refl ∙ paste_all xs at zs (length zs) refl
    ∙ sym (sets-eq zs xs at (omega arith) ∙ append_assoc (take at xs) zs _)

-- the three ways of put_digits
pub none : (most n : ℕ) → most ≡ 0 → digits most n ≡ []
unfolding digits
none most n z = rw z

pub one : (most n : ℕ) → (most ≡ 0 → ⊥) → n < 10 → digits most n ≡ (48 + n) ∷ []
unfolding digits pick
one zero n z h = absurd (z refl)
one (suc most) n z h = rw (lt-ltb _ _ h)

pub more : (most n : ℕ) → (most ≡ 0 → ⊥) → 10 ≤ n → digits most n ≡ digits (most - 1) (n / 10) ++ ((48 + n % 10) ∷ [])
unfolding digits pick
more zero n z h = absurd (z refl)
more (suc most) n z h =
    let e : suc most - 1 ≡ most = omega arith in
    rw (le-ltb _ _ h, e)

-- one write after another
pub both : (b₀ b₁ b₂ xs ys : List ℕ) (at k r : ℕ) → k ≡ at + length xs → b₁ ≡ sets b₀ at xs → r ≡ k + length ys
    → b₂ ≡ sets b₁ k ys
    → (r ≡ at + length (xs ++ ys)) × (b₂ ≡ sets b₀ at (xs ++ ys))
both b₀ b₁ b₂ xs ys at k r p q u v =
    (omega (arith, length-append xs ys), v ∙ rw (p, q, sets_append xs ys b₀ at))

-- a run at the start of zeros
abbrev pub zeros : ℕ → List ℕ
zeros n = replicate n 0

pub on_zeros : (n : ℕ) (m : List ℕ) → length m ≤ n → sets (zeros n) 0 m ≡ m ++ zeros (n - length m)
on_zeros n m h =
    let l : 0 + length m ≤ length (zeros n) = simp (length-replicate, zero-add) h in
    let s : zeros (length m) ++ zeros (n - length m) ≡ zeros n =
    replicate-append-replicate (length m) (n - length m) 0 ∙ ap zeros (add-sub_of_le h) in
    sets-eq m (zeros n) 0 l ∙ rw (
      zero-add,
      ← s,
      drop_at (zeros (length m)) (zeros (n - length m)) (length m) (length-replicate (length m) 0),
    )

drop-replicate : (k m : ℕ) → drop k (replicate m 0) ≡ replicate {A = ℕ} (m - k) 0
drop-replicate zero m = rw sub-zero
drop-replicate (suc k) zero = rw zero-sub
drop-replicate (suc k) (suc m) = rw suc-sub-suc (drop-replicate k m)

-- a run of stores behind a padded list makes it longer
pub sets_pad : (n i : ℕ) (l vs : List ℕ) → length l ≡ i → i + length vs ≤ n
    → sets (pad_to n l) i vs ≡ pad_to n (l ++ vs)
sets_pad n i l vs e h =
    let q : n - length l - length vs ≡ n - (length l + length vs) = omega arith in
    let h' : length l + length vs ≤ length (pad_to n l) = simp (length-append, length-replicate) (omega arith) in
    rw (← e) (sets-eq vs (pad_to n l) (length l) h' ∙ rw (
      take-append_seam,
      drop-append-add,
      drop-replicate,
      length-append,
      q,
    ))

-- a run of stores behind a list that stands over another makes it longer
pub sets_over : (s l vs : List ℕ) (i : ℕ) → length l ≡ i → i + length vs ≤ length s
    → sets (over s l) i vs ≡ over s (l ++ vs)
sets_over s l vs i e h =
    let long : length l + length vs ≤ length (over s l) = simp (length-append, length-drop) (omega arith) in
    rw (← e) (sets-eq vs (over s l) (length l) long ∙ rw (
      take-append_seam,
      drop-append-add,
      drop-drop,
      length-append,
    ))

pub length_over : (s l : List ℕ) → length l ≤ length s → length (over s l) ≡ length s
length_over s l h = simp (length-append, length-drop) (omega arith)

-- behind the end nothing is zeroed
pub none-behind : (s : List ℕ) (i : ℕ) → length s ≤ i → s ≡ pad_to (length s) (take i s)
none-behind s i h =
    let all : take i s ≡ s = take_all i s h in
    let e : length s - length s ≡ 0 = omega arith in
    sym (rw (all, e) (append-nil s))
