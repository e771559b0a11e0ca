-- The code's table of words: each is shorter than twelve bytes, and what is read at a kind is the word of that kind.
use Prim.Native.Nat.{ℕ, zero, suc, ◌≤◌}
use mathlib.Core.Path.{◌≡◌, refl}
use mathlib.Core.List.{List, [], ◌∷◌, map}
use mathlib.Core.Bool.{Bool, true, false}
use native.Mathlib.Omega.{arith}
use borrow.Author.Tests.{leb-true}
use denote.Bor.{Bor}
use lib.Dec.{leb}
use lib.ListN.{length, get_or}
use Rattle.utils.specs.Bytes.{pick}
use Rattle.pieces.proofs.Digits.{pick-both}
use Rattle.messages.specs.Messages.{words, word_of}

-- what stands behind a reference of a list, and nothing past its end
pub behind : (xs : List (Bor (List ℕ))) (k : ℕ)
    → (get_or xs k (record { ref_ptr = (0, 0); now = [] })).now ≡ get_or (map (λ b. b.now) xs) k []
behind [] k = refl
behind (x ∷ xs) zero = refl
behind (x ∷ xs) (suc k) = behind xs k

all_short : List (List ℕ) → Bool
all_short [] = true
all_short (w ∷ ws) = pick (leb (length w) 11) (all_short ws) false

each_short : (ws : List (List ℕ)) (k : ℕ) → all_short ws ≡ true → length (get_or ws k []) ≤ 11
unfolding all_short
each_short [] k e = omega arith
each_short (w ∷ ws) zero e = leb-true _ _ (pick-both (leb (length w) 11) (all_short ws) e).0
each_short (w ∷ ws) (suc k) e = each_short ws k (pick-both (leb (length w) 11) (all_short ws) e).1

pub word-short : (kind : ℕ) → length (word_of kind) ≤ 11
unfolding words all_short pick
word-short kind = each_short words kind refl
