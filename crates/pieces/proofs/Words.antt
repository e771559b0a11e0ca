-- The words by their lengths and by their first letters: a part as long as no word is none, and none of the words that
-- begin with another letter is the part. Both by computation over the 25 words.
use Rattle.std.specs.Prelude.{Option, None}
use Prim.Native.Nat.{ℕ, ◌≤◌}
use mathlib.Core.Path.{◌≡◌, refl, sym, ◌∙◌}
use mathlib.Core.List.{List, [], ◌∷◌}
use mathlib.Core.Bool.{Bool, true, false}
use native.Mathlib.Omega.{arith}
use borrow.Author.Tests.{leb-true, ne_eqb}
use lib.Dec.{leb, eqb}
use lib.ListN.{length, get_or, drop}
use lib.Seq.{drop-cons}
use Rattle.utils.specs.Bytes.{pick, same_bytes}
use Rattle.pieces.specs.Tokens.{Word, words, word_in}
use Rattle.pieces.proofs.Compare.{other_length}
use Rattle.pieces.proofs.Digits.{pick-both}
use Rattle.pieces.specs.declared.TokenValue.{TokenValue}

-- whether every word has two to five bytes
unfoldable sized : List Word → Bool
sized [] = true
sized (w ∷ ws) =
    let more = sized ws in
    pick (leb 2 (length w.spelling)) (pick (leb (length w.spelling) 5) more false) false

words-sized : sized words ≡ true
unfolding sized words pick
words-sized = refl

no_word_in : (ws : List Word) (s : List ℕ) → sized ws ≡ true → ((n : ℕ) → 2 ≤ n → n ≤ 5 → n ≡ length s → ⊥)
    → None ≡ word_in ws s
unfolding sized word_in pick
no_word_in [] s e h = refl
no_word_in (w ∷ ws) s e h =
    let low = pick-both (leb 2 (length w.spelling)) _ e in
    let high = pick-both (leb (length w.spelling) 5) _ low.1 in
    rw (other_length w.spelling s (h (length w.spelling) (leb-true _ _ low.0) (leb-true _ _ high.0)))
    (no_word_in ws s high.1 h)

-- To unfold this is to unfold the words and the test of a part against them.
unfoldable pub opened : ℕ
unfolding words word_in same_bytes pick
opened = 0

-- a part as long as no word
pub no_word : (s : List ℕ) → ((n : ℕ) → 2 ≤ n → n ≤ 5 → n ≡ length s → ⊥) → None ≡ word_in words s
no_word s h = no_word_in words s words-sized h

-- a part's first byte: some words give what all words give of any part that begins with it
pub by_letter : (s : List ℕ) (ws : List Word) {b : ℕ} {a : Option TokenValue} → get_or s 0 0 ≡ b → 2 ≤ length s
    → ((r : List ℕ) → word_in ws (b ∷ r) ≡ word_in words (b ∷ r)) → a ≡ word_in ws s → a ≡ word_in words s
by_letter [] ws e h same r = absurd (omega arith)
by_letter (x ∷ s) ws e h same r = rw e (rw e at r ∙ same s)

-- a part that begins with no word's first letter
module _ (s : List ℕ) where
  abbrev Not : ℕ → Type 0
  Not n = get_or s 0 0 ≡ n → ⊥

  other : (n : ℕ) → Not n → eqb n (get_or s 0 0) ≡ false
  other n h = ne_eqb n (get_or s 0 0) (λ e. h (sym e))

  pub no_letter : 2 ≤ length s
      → Not 97 → Not 98 → Not 99 → Not 100 → Not 101 → Not 102 → Not 103 → Not 105 → Not 106
      → Not 108 → Not 109 → Not 110 → Not 111 → Not 112 → Not 114 → Not 115 → Not 116
      → None ≡ word_in words s
  unfolding word_in words same_bytes pick
  no_letter long a b c d e f g i j l m n o p r z t =
      let cons : s ≡ get_or s 0 0 ∷ drop 1 s = drop-cons s 0 0 (omega arith) in
      rw (
        cons,
        other 97 a,
        other 98 b,
        other 99 c,
        other 100 d,
        other 101 e,
        other 102 f,
        other 103 g,
        other 105 i,
        other 106 j,
        other 108 l,
        other 109 m,
        other 110 n,
        other 111 o,
        other 112 p,
        other 114 r,
        other 115 z,
        other 116 t,
      )
