-- Two readings of one function that a move relates are the same reading, with lines as they are where none is moved,
-- and with lines counted from the function's own in any case.
use Prim.Native.Nat.{ℕ, ◌+◌, ◌-◌, ◌≤◌, ◌<◌}
use mathlib.Core.Path.{◌≡◌}
use mathlib.Core.List.{List}
use native.Mathlib.Omega.{arith}
use lib.ListN.{get_or}
use Rattle.lexer.specs.Numbered.{tokens_cells}
use Rattle.lexer.specs.Decoded.{tokens_of, token_at}
use Rattle.pieces.specs.declared.Token.{Token}
use Rattle.parser.specs.Moved.{Move, Sim}
use Rattle.functions.specs.Functions.{Function}
use Rattle.functions.specs.declared.Counts.{Counts}
use Rattle.related.specs.Written.{Written, SimWritten}
use Rattle.edited.specs.Reading.{Seen, ReadingOf, firsts_of, seen_own}
use Rattle.edited.specs.Standing.{own_written}
use Rattle.edited.proofs.Alike.{Laid, row_meets, meets, row_same, items-same, arguments-same}
use Rattle.edited.proofs.Alike.{blocks-same, predecessors-same}
use Rattle.edited.proofs.TokensAlike.{tokens-alike}

reading-same : {r r' : List Seen} {t t' i i' a a' b b' p p' : List (List Seen)} → r ≡ r' → t ≡ t' → i ≡ i' → a ≡ a'
    → b ≡ b' → p ≡ p'
    → ◌≡◌ {A = ReadingOf} (record { row = r; tokens = t; items = i; arguments = a; blocks = b; predecessors = p })
    (record { row = r'; tokens = t'; items = i'; arguments = a'; blocks = b'; predecessors = p' })
reading-same e₁ e₂ e₃ e₄ e₅ e₆ = rw (e₁, e₂, e₃, e₄, e₅, e₆)

-- one reading of a function, by what is written for it: its names spelled so, its lines counted from `first`
abbrev pub read : (ℕ → List ℕ) → ℕ → List ℕ → Function → Written → ReadingOf
read spells first tokens f w = seen_own (firsts_of spells first (own_written tokens f w)) (own_written tokens f w)

-- the line of its name
abbrev pub own_line : List ℕ → Function → Written → ℕ
own_line tokens f w = get_or (own_written tokens f w).row 5 0

module _ {m : Move} {n : Counts} {w w' : Written} (s : SimWritten m n w w') {f f' : Function} (d : Laid f w)
    (d' : Laid f' w') {l : ℕ} (ts ts' : List Token)
    (t : Sim m l (tokens_of (tokens_cells ts)) (tokens_of (tokens_cells ts')))
    (on : f'.token < f'.next) (within : f'.next ≤ l)
    (closed : (token_at (tokens_of (tokens_cells ts')) (f'.next - 1)).kind ≡ 38 → ⊥) (spells spells' : ℕ → List ℕ)
    (alike : (x : ℕ) → x < m.names → spells (m.name x) ≡ spells' x) where
  -- with lines counted from a line and the moved one
  pub same-reading : (first first' : ℕ) → first ≡ m.down + first'
      → read spells first (tokens_cells ts) f w ≡ read spells' first' (tokens_cells ts') f' w'
  same-reading first first' lines =
      let cells : List ℕ = tokens_cells ts in
      let cells' : List ℕ = tokens_cells ts' in
      let rows = row_meets s.rows in
      let e : f.token ≡ m.by + f'.token = omega (arith, rows.token, d.token, d'.token) in
      let c : f.next - 1 ≡ m.by + (f'.next - 1) = omega (arith, rows.last, d.last, d'.last) in
      reading-same
      (row_same s d d' spells spells' alike first first' lines cells cells')
      (tokens-alike (meets s d d' spells spells' alike first first' lines cells cells') ts ts' t
      f.token (f.next - 1) f'.token (f'.next - 1) e c (omega arith) (omega arith) closed)
      (items-same s d d' spells spells' alike first first' lines cells cells')
      (arguments-same s d d' spells spells' alike first first' lines cells cells')
      (blocks-same s d d' spells spells' alike first first' lines cells cells')
      (predecessors-same s d d' spells spells' alike first first' lines cells cells')

  -- with lines as they are
  pub same_lines : m.down ≡ 0 → read spells 0 (tokens_cells ts) f w ≡ read spells' 0 (tokens_cells ts') f' w'
  same_lines h = same-reading 0 0 (omega arith)

  -- with lines counted from the function's own
  pub same-moved : read spells (own_line (tokens_cells ts) f w) (tokens_cells ts) f w
      ≡ read spells' (own_line (tokens_cells ts') f' w') (tokens_cells ts') f' w'
  same-moved =
      same-reading (own_line (tokens_cells ts) f w) (own_line (tokens_cells ts') f' w') (row_meets s.rows).line
