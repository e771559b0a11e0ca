-- The names that cells hold: the first of a run and how many there are; and the cells of one token or name more.
use Rattle.std.specs.Prelude.{Option, Some}
use Prim.Native.Nat.{ℕ, zero, suc, ◌+◌, ◌-◌, ◌*◌, ◌≤◌, ◌<◌}
use mathlib.Core.Path.{◌≡◌, refl, sym, ap, ◌∙◌}
use mathlib.Core.List.{List, [], ◌∷◌, ◌++◌}
use mathlib.Core.Bool.{Bool, true, false}
use native.Mathlib.Omega.{arith}
use lib.ListN.{length, take, drop, get_or}
use lib.Seq.{slice, drop-cons, get_or-take, length-take-le}
use Rattle.utils.specs.Bytes.{pick, same_bytes}
use Rattle.pieces.specs.Tokens.{token_cells}
use Rattle.lexer.specs.Numbered.{Part, part, spellings, index_of, tokens_cells, names_cells}
use Rattle.lexer.specs.Steps.{parts_of, Within, Table}
use Rattle.pieces.specs.declared.Token.{Token}
use Rattle.pieces.specs.declared.Identifier.{Identifier}

pub parts_step : (ns : List ℕ) (k count : ℕ) → k < count → count * 2 ≤ length ns
    → parts_of (drop (k * 2) (take (count * 2) ns))
    ≡ part (get_or ns (k * 2) 0) (get_or ns (k * 2 + 1) 0) ∷ parts_of (drop ((k + 1) * 2) (take (count * 2) ns))
unfolding parts_of
parts_step ns k count h hn =
    let t = take (count * 2) ns in
    let l : length t ≡ count * 2 = length-take-le (count * 2) ns hn in
    let e1 : k * 2 + 1 ≡ suc (k * 2) = omega arith in
    let e2 : (k + 1) * 2 ≡ suc (suc (k * 2)) = omega arith in
    let g0 = get_or-take (count * 2) ns (k * 2) 0 (omega arith) in
    let g1 = get_or-take (count * 2) ns (suc (k * 2)) 0 (omega arith) in
    rw (drop-cons t (k * 2) 0 (omega arith), drop-cons t (suc (k * 2)) 0 (omega arith), e1, e2, g0, g1)

pub parts_count : (cells : List ℕ) (n : ℕ) → length cells ≡ n * 2 → length (parts_of cells) ≡ n
unfolding parts_of
parts_count [] n e = omega arith
parts_count (a ∷ []) n e = absurd (omega arith)
parts_count (a ∷ b ∷ r) n e = omega (arith, parts_count r (n - 1) (omega arith))

-- One turn of the look-up of a spelling w among the first `count` names, by whether the name that stands there is it.
module _ (text names : List ℕ) (count k : ℕ) (below : k < count) (table : Table text names count) where
  step : parts_of (drop (k * 2) (take (count * 2) names))
      ≡ part (get_or names (k * 2) 0) (get_or names (k * 2 + 1) 0) ∷ parts_of (drop ((k + 1) * 2) (take (count * 2) names))
  step = parts_step names k count below (omega (arith, table.few, table.room))

  module _ (inside : Within (length text) (parts_of (drop (k * 2) (take (count * 2) names)))) where
    pub name-within : get_or names (k * 2) 0 + get_or names (k * 2 + 1) 0 ≤ length text
    name-within = (rw step at inside).0

    pub names-within : Within (length text) (parts_of (drop ((k + 1) * 2) (take (count * 2) names)))
    names-within = (rw step at inside).1

  module _ (w : List ℕ) {f : Option Identifier} {q : Bool}
      (here : index_of w (spellings text (parts_of (drop (k * 2) (take (count * 2) names)))) k ≡ f)
      (same : q ≡ same_bytes (slice (get_or names (k * 2) 0) (get_or names (k * 2) 0 + get_or names (k * 2 + 1) 0) text) w)
    where
      pub name-here : q ≡ true → Some (record { 0 = k }) ≡ f
      unfolding index_of spellings pick
      name-here e = sym (sym here ∙ rw (step, ← same, e))

      pub name-later : q ≡ false
          → index_of w (spellings text (parts_of (drop ((k + 1) * 2) (take (count * 2) names)))) (k + 1) ≡ f
      unfolding index_of spellings pick
      name-later e = sym (sym here ∙ rw (step, ← same, e))

-- a name of the table lies in the text
pub record_within : (text names : List ℕ) (count k : ℕ) → k < count → Table text names count
    → get_or names (k * 2) 0 + get_or names (k * 2 + 1) 0 ≤ length text
record_within text names count k below table = name-within text names count k below table (all k (omega arith))
  where
    all : (j : ℕ) → j ≤ count → Within (length text) (parts_of (drop (j * 2) (take (count * 2) names)))
    all zero h = table.within
    all (suc j) h =
        let e : suc j ≡ j + 1 = omega arith in
        rw e (names-within text names count j (omega arith) table (all j (omega arith)))

-- One token or name more.

pub tokens_cells_snoc : (ts : List Token) (t : Token) → tokens_cells (ts ++ (t ∷ [])) ≡ tokens_cells ts ++ token_cells t
unfolding tokens_cells
tokens_cells_snoc [] t = refl
tokens_cells_snoc (u ∷ ts) t = ap (λ (l : List ℕ). token_cells u ++ l) (tokens_cells_snoc ts t)

pub names_cells_snoc : (ps : List Part) (p : Part)
    → names_cells (ps ++ (p ∷ [])) ≡ names_cells ps ++ (p.place ∷ p.len ∷ [])
unfolding names_cells
names_cells_snoc [] p = refl
names_cells_snoc (q ∷ ps) p = ap (λ (l : List ℕ). q.place ∷ q.len ∷ l) (names_cells_snoc ps p)

pub within_snoc : (n : ℕ) (ps : List Part) (p : Part) → Within n ps → p.place + p.len ≤ n
    → Within n (ps ++ (p ∷ []))
within_snoc n [] p w h = (h, tt)
within_snoc n (q ∷ ps) p w h = (w.0, within_snoc n ps p w.1 h)
