-- From the cells that `read` leaves to tokens and names: decoding undoes the laying out, whatever zeros follow.
-- By recursion on the tokens and the names, four cells and two cells a step.
use Prim.Native.Nat.{ℕ, zero, suc, ◌+◌, ◌-◌, ◌*◌, ◌≤◌, ◌<◌}
use mathlib.Core.Path.{◌≡◌, refl, ap, ◌∙◌}
use mathlib.Core.List.{List, [], ◌∷◌, ◌++◌}
use native.Mathlib.Omega.{arith}
use borrow.Author.Tests.{lt-ltb, le-leb, ne_eqb}
use lib.Dec.{eqb}
use lib.ListN.{length, get_or, take, replicate, length-append, get_or-append, drop}
use lib.Seq.{take_at}
use Rattle.utils.specs.Bytes.{pick, pad_to, over}
use Rattle.pieces.specs.Tokens.{kind_of, carried}
use Rattle.lexer.specs.Numbered.{Part, tokens_cells, names_cells}
use Rattle.lexer.specs.Steps.{parts_of}
use Rattle.lexer.specs.Decoded.{Tok, tok, past, tokens_of, with_next, token_at, name_of}
use Rattle.lexer.specs.Sound.{Each, no_token, no_part, spelling, InText, Sound}
use Rattle.pieces.specs.declared.Token.{Token}
use Rattle.lexer.proofs.Sound.{end-last, end-only-last}

-- The tokens' cells. ------------------------------------------------------------------------------------------------

-- a token as its cells hold it
abbrev pub tok_of : Token → Tok
tok_of t = tok (kind_of t.value) (carried t.value) t.line.0 t.place

abbrev toks : List Token → List Tok
toks [] = []
toks (t ∷ ts) = tok_of t ∷ toks ts

length-toks : (ts : List Token) → length (toks ts) ≡ length ts
length-toks [] = refl
length-toks (t ∷ ts) = ap suc (length-toks ts)

toks-at : (ts : List Token) (i : ℕ) → i < length ts → get_or (toks ts) i past ≡ tok_of (get_or ts i no_token)
toks-at [] i h = absurd (omega arith)
toks-at (t ∷ ts) zero h = refl
toks-at (t ∷ ts) (suc i) h = toks-at ts i (omega arith)

pub length-tokens_cells : (ts : List Token) → length (tokens_cells ts) ≡ length ts * 4
unfolding tokens_cells
length-tokens_cells [] = refl
length-tokens_cells (t ∷ ts) = omega (arith, length-tokens_cells ts)

tokens_of-cells : (ts : List Token) (r : List ℕ) → tokens_of (tokens_cells ts ++ r) ≡ toks ts ++ tokens_of r
unfolding tokens_of tokens_cells
tokens_of-cells [] r = refl
tokens_of-cells (t ∷ ts) r = ap (λ (l : List Tok). tok_of t ∷ l) (tokens_of-cells ts r)

pub cells-token : (n : ℕ) (ts : List Token) (i : ℕ) → i < length ts
    → get_or (tokens_of (pad_to n (tokens_cells ts))) i past ≡ tok_of (get_or ts i no_token)
cells-token n ts i h =
    let l = length-toks ts in
    rw (tokens_of-cells ts (replicate (n - length (tokens_cells ts)) 0))
    (get_or-append (toks ts) _ past i (omega arith) ∙ toks-at ts i h)

-- at least as many as there are tokens
pub cells_count : (n : ℕ) (ts : List Token) → length ts ≤ length (tokens_of (pad_to n (tokens_cells ts)))
cells_count n ts =
    let r = tokens_of (replicate (n - length (tokens_cells ts)) 0) in
    rw (tokens_of-cells ts (replicate (n - length (tokens_cells ts)) 0))
    (omega (arith, length-toks ts, length-append (toks ts) r))

-- what `token_at` answers, of cells that `read` left
pub cells-token_at : (n : ℕ) (ts : List Token) (i : ℕ) → i < length ts
    → token_at (tokens_of (pad_to n (tokens_cells ts))) i
    ≡ with_next (tok_of (get_or ts i no_token)) (pick (eqb (kind_of (get_or ts i no_token).value) 38) i (i + 1))
unfolding token_at pick
cells-token_at n ts i h =
    let l : i < length (tokens_of (pad_to n (tokens_cells ts))) = omega (arith, cells_count n ts) in
    rw (lt-ltb i (length (tokens_of (pad_to n (tokens_cells ts)))) l, cells-token n ts i h)

-- A sound reading's tokens: each is followed by the next, and the last by itself.
module _ (n : ℕ) {s : List ℕ} {line : ℕ} {ts : List Token} {ns : List Part} (v : Sound s line ts ns) where
  pub cells-token-next : (i : ℕ) → i + 1 < length ts
      → token_at (tokens_of (pad_to n (tokens_cells ts))) i ≡ with_next (tok_of (get_or ts i no_token)) (i + 1)
  unfolding pick
  cells-token-next i h =
      let k = end-only-last v i h in
      cells-token_at n ts i (omega arith) ∙ rw (ne_eqb (kind_of (get_or ts i no_token).value) 38 (λ e. omega arith))

  pub cells-token-last : token_at (tokens_of (pad_to n (tokens_cells ts))) (length ts - 1)
      ≡ with_next (tok 38 0 v.last_line (length s)) (length ts - 1)
  unfolding pick
  cells-token-last = cells-token_at n ts (length ts - 1) (omega (arith, v.some)) ∙ rw (end-last v)

-- The names' cells. -------------------------------------------------------------------------------------------------

pub length-names_cells : (ns : List Part) → length (names_cells ns) ≡ length ns * 2
unfolding names_cells
length-names_cells [] = refl
length-names_cells (p ∷ ps) = omega (arith, length-names_cells ps)

pub cells_parts : (ns : List Part) → parts_of (names_cells ns) ≡ ns
unfolding parts_of names_cells
cells_parts [] = refl
cells_parts (p ∷ ps) = ap (λ (l : List Part). p ∷ l) (cells_parts ps)

pub cells_parts_over : (s : List ℕ) (ns : List Part) → parts_of (take (length ns * 2) (over s (names_cells ns))) ≡ ns
cells_parts_over s ns =
    let r : List ℕ = drop (length (names_cells ns)) s in
    rw (take_at (names_cells ns) r (length ns * 2) (length-names_cells ns)) (cells_parts ns)

-- a name's place and its length
pub names_cell : (ns : List Part) (r : List ℕ) (i : ℕ) → i < length ns
    → (get_or (names_cells ns ++ r) (i * 2) 0 ≡ (get_or ns i no_part).place)
    × (get_or (names_cells ns ++ r) (i * 2 + 1) 0 ≡ (get_or ns i no_part).len)
unfolding names_cells
names_cell [] r i h = absurd (omega arith)
names_cell (p ∷ ps) r zero h = (refl, refl)
names_cell (p ∷ ps) r (suc i) h =
    let e : suc i * 2 ≡ suc (suc (i * 2)) = omega arith in
    let f : suc (suc (i * 2)) + 1 ≡ suc (suc (i * 2 + 1)) = omega arith in
    rw (e, f) (names_cell ps r i (omega arith))

-- what `get_name` answers, of cells that `read` left
pub cells-name : (s : List ℕ) (n : ℕ) (ns : List Part) (i : ℕ) → i < length ns → Each no_part (InText s) ns
    → name_of s (pad_to n (names_cells ns)) i ≡ spelling s (get_or ns i no_part)
unfolding name_of pick
cells-name s n ns i h w =
    let c = names_cell ns (replicate (n - length (names_cells ns)) 0) i h in
    rw (c.0, c.1, le-leb _ _ (w i h).2)
