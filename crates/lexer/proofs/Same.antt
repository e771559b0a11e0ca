-- Lists by their elements: what `same_bytes` and `index_of` say, by recursion on the lists. What holds of each element,
-- or of every two, holds with one more behind them: an index is below the old length, or is that length.
use Rattle.std.specs.Prelude.{Option, Some, None}
use Prim.Native.Nat.{ℕ, zero, suc, ◌+◌, ◌<◌}
use mathlib.Core.Path.{◌≡◌, refl, sym, ap}
use mathlib.Core.Bool.{Bool, true, false}
use mathlib.Core.List.{List, [], ◌∷◌, ◌++◌}
use native.Mathlib.Omega.{arith}
use borrow.Author.Tests.{ltb-true, ltb-false, eqb-true, eq-eqb}
use lib.Dec.{ltb, eqb}
use lib.ListN.{length, get_or, length-append, get_or-append}
use lib.Seq.{get_or_at}
use Rattle.utils.specs.Bytes.{pick, same_bytes}
use Rattle.lexer.specs.Numbered.{Part, spellings, index_of}
use Rattle.lexer.specs.Sound.{Each, Pairs, no_part, spelling}
use Rattle.pieces.proofs.Progress.{pick_either}
use Rattle.pieces.specs.declared.Identifier.{Identifier}

-- Bytes that are the same. ------------------------------------------------------------------------------------------

pub same_bytes-true : (a b : List ℕ) → same_bytes a b ≡ true → a ≡ b
unfolding same_bytes
same_bytes-true [] [] e = refl
same_bytes-true [] (y ∷ ys) e = absurd (let z : ◌≡◌ {A = ℕ} 0 1 = cc in omega arith)
same_bytes-true (x ∷ xs) [] e = absurd (let z : ◌≡◌ {A = ℕ} 0 1 = cc in omega arith)
same_bytes-true (x ∷ xs) (y ∷ ys) e =
    pick_either (λ (t : Bool). t ≡ true → x ∷ xs ≡ y ∷ ys) (eqb x y) (same_bytes xs ys) false
    (λ q r. rw (eqb-true x y q, same_bytes-true xs ys r))
    (λ _ r. absurd (let z : ◌≡◌ {A = ℕ} 0 1 = cc in omega arith)) e

pub same_bytes-refl : (a : List ℕ) → same_bytes a a ≡ true
unfolding same_bytes pick
same_bytes-refl [] = refl
same_bytes-refl (x ∷ xs) = rw (eq-eqb x x refl) (same_bytes-refl xs)

pub same_bytes-false : (a b : List ℕ) → same_bytes a b ≡ false → a ≡ b → ⊥
same_bytes-false a b e q =
    let r : same_bytes a b ≡ true = rw q (same_bytes-refl b) in
    let z : ◌≡◌ {A = ℕ} 0 1 = cc in
    omega arith

-- The names' table. -------------------------------------------------------------------------------------------------

pub length-spellings : (s : List ℕ) (ns : List Part) → length (spellings s ns) ≡ length ns
unfolding spellings
length-spellings s [] = refl
length-spellings s (p ∷ ps) = ap suc (length-spellings s ps)

pub spelling-at : (s : List ℕ) (ns : List Part) (i : ℕ) → i < length ns
    → get_or (spellings s ns) i [] ≡ spelling s (get_or ns i no_part)
unfolding spellings
spelling-at s [] i h = absurd (omega arith)
spelling-at s (p ∷ ps) zero h = refl
spelling-at s (p ∷ ps) (suc i) h = spelling-at s ps i (omega arith)

-- the first of the words is number k
abbrev pub FoundIn : List ℕ → List (List ℕ) → ℕ → Option Identifier → Type 0
FoundIn w ws k (Some n) = (i : ℕ) × (n.0 ≡ k + i) × (i < length ws) × (get_or ws i [] ≡ w)
FoundIn w ws k None = Each [] (λ x. x ≡ w → ⊥) ws

each_cons : {A : Type 0} (d x : A) (l : List A) (P : A → Type 0) → P x → Each d P l → Each d P (x ∷ l)
each_cons d x l P p f zero h = p
each_cons d x l P p f (suc i) h = f i (omega arith)

found-later : (w x : List ℕ) (ws : List (List ℕ)) (k : ℕ) (f : Option Identifier)
    → same_bytes x w ≡ false → FoundIn w ws (k + 1) f → FoundIn w (x ∷ ws) k f
found-later w x ws k (Some n) e h = (suc h.0, omega arith, omega arith, h.3)
found-later w x ws k None e h = each_cons [] x ws (λ y. y ≡ w → ⊥) (same_bytes-false x w e) h

pub index_of-found : (w : List ℕ) (ws : List (List ℕ)) (k : ℕ) → FoundIn w ws k (index_of w ws k)
unfolding index_of
index_of-found w [] k = λ i h. absurd (omega arith)
index_of-found w (x ∷ ws) k =
    let more = index_of w ws (k + 1) in
    pick_either (FoundIn w (x ∷ ws) k) (same_bytes x w) _ more
    (λ e. (zero, omega arith, omega arith, same_bytes-true x w e))
    (λ e. found-later w x ws k more e (index_of-found w ws (k + 1)))

-- One element more. -------------------------------------------------------------------------------------------------

module _ {A : Type 0} (d : A) (l : List A) (x : A) where
  length_snoc : length (l ++ (x ∷ [])) ≡ length l + 1
  length_snoc = length-append l (x ∷ [])

  -- an element is one of those before, or the last
  snoc_at : (P : A → Type 0) (i : ℕ) → (i < length l → P (get_or l i d)) → (i ≡ length l → P x)
      → i < length (l ++ (x ∷ [])) → P (get_or (l ++ (x ∷ [])) i d)
  snoc_at P i f g h = at (ltb i (length l)) refl
    where
      at : (t : Bool) → ltb i (length l) ≡ t → P (get_or (l ++ (x ∷ [])) i d)
      at true e =
          let k : i < length l = ltb-true _ _ e in
          rw (get_or-append l (x ∷ []) d i k) (f k)
      at false e =
          let k : i ≡ length l = omega (arith, ltb-false i (length l) e, length_snoc) in
          rw (get_or_at l x [] d i (sym k)) (g k)

  pub each_snoc : (P : A → Type 0) → Each d P l → P x → Each d P (l ++ (x ∷ []))
  each_snoc P f p i h = snoc_at P i (f i) (λ _. p) h

  pub pairs_snoc : (R : A → A → Type 0) → Pairs d R l → Each d (λ y. R y x) l → Pairs d R (l ++ (x ∷ []))
  pairs_snoc R f g i j h k =
      let m = length_snoc in
      let before : get_or (l ++ (x ∷ [])) i d ≡ get_or l i d = get_or-append l (x ∷ []) d i (omega arith) in
      rw before (snoc_at (λ y. R (get_or l i d) y) j (λ b. f i j h b) (λ e. g i (omega arith)) k)
