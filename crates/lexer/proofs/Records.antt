-- The tokens that cells hold: how many there are, and the one at an index.
use Prim.Native.Nat.{ℕ, zero, suc, ◌+◌, ◌*◌, ◌/◌, ◌<◌}
use mathlib.Core.Path.{◌≡◌, refl}
use mathlib.Core.List.{List, [], ◌∷◌}
use native.Mathlib.Omega.{arith}
use lib.ListN.{length, get_or}
use Rattle.lexer.specs.Decoded.{Tok, tok, past, tokens_of}

pub tokens-count : (s : List ℕ) → length (tokens_of s) ≡ length s / 4
unfolding tokens_of
tokens-count (k ∷ v ∷ l ∷ p ∷ s) = omega (arith, tokens-count s)
tokens-count (k ∷ v ∷ l ∷ []) = refl
tokens-count (k ∷ v ∷ []) = refl
tokens-count (k ∷ []) = refl
tokens-count [] = refl

-- the record whose first cell is at i
abbrev pub record_at : List ℕ → ℕ → Tok
record_at s i = tok (get_or s i 0) (get_or s (i + 1) 0) (get_or s (i + 2) 0) (get_or s (i + 3) 0)

one_on : (n i : ℕ) → suc n + i ≡ suc (n + i)
one_on n i = omega arith

four_on : (n : ℕ) → suc n * 4 ≡ suc (suc (suc (suc (n * 4))))
four_on n = omega arith

pub token_record : (s : List ℕ) (n : ℕ) → n < length s / 4 → get_or (tokens_of s) n past ≡ record_at s (n * 4)
unfolding tokens_of
token_record (k ∷ v ∷ l ∷ p ∷ s) zero h = refl
token_record (k ∷ v ∷ l ∷ p ∷ s) (suc n) h = simp (four_on, one_on) (token_record s n (omega arith))
token_record (k ∷ v ∷ l ∷ []) n h = absurd (omega arith)
token_record (k ∷ v ∷ []) n h = absurd (omega arith)
token_record (k ∷ []) n h = absurd (omega arith)
token_record [] n h = absurd (omega arith)
