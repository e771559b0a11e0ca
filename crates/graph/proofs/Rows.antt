-- Why the rows hold what the records say: a row is stored with its count, and the rows stored before stay. A row has
-- two successors at most.
use Prim.Native.Nat.{ℕ, zero, suc, ◌≤◌, ◌<◌}
use mathlib.Core.Path.{◌≡◌, refl}
use mathlib.Core.List.{List, [], ◌∷◌}
use native.Mathlib.Omega.{arith}
use lib.ListN.{length, get_or}
use Rattle.graph.specs.Records.{counted, recorded, row_of, Loaded}

-- The rows have the records' successors.
pub loaded_row : (cells : List ℕ) (first n : ℕ) (rows₀ rows : List (List ℕ)) (counts₀ counts : List ℕ)
    → Loaded cells first n rows₀ rows counts₀ counts → (v : ℕ) → v < n → row_of rows counts v ≡ recorded cells first v
loaded_row cells first n rows₀ rows counts₀ counts p v h = rw (p.counted_so v h, p.pairs v h)

counted-short : (k a b : ℕ) → length (counted k a b) ≤ 2
counted-short zero a b = omega arith
counted-short (suc zero) a b = omega arith
counted-short (suc (suc k)) a b = omega arith

pub row-short : (rows : List (List ℕ)) (counts : List ℕ) (v : ℕ) → length (row_of rows counts v) ≤ 2
row-short rows counts v =
    counted-short (get_or counts v 0) (get_or (get_or rows v []) 0 0) (get_or (get_or rows v []) 1 0)

-- a list of two at most, by its length and its first two
pub counted_is : (s : List ℕ) → length s ≤ 2 → counted (length s) (get_or s 0 0) (get_or s 1 0) ≡ s
counted_is [] h = refl
counted_is (x ∷ []) h = refl
counted_is (x ∷ y ∷ []) h = refl
counted_is (x ∷ y ∷ z ∷ s) h = absurd (omega arith)

pub counted_two : (k a b : ℕ) → (k ≡ 0 → ⊥) → (k ≡ 1 → ⊥) → counted k a b ≡ a ∷ b ∷ []
counted_two zero a b f g = absurd (f refl)
counted_two (suc zero) a b f g = absurd (g refl)
counted_two (suc (suc k)) a b f g = refl
