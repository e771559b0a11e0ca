-- The tokens of a function in two readings that a move relates (`Sim`, crates/parser/specs/Moved.antt) are seen alike.
use Prim.Native.Nat.{ℕ, zero, suc, ◌+◌, ◌*◌, ◌-◌, ◌≤◌, ◌<◌}
use mathlib.Core.Path.{◌≡◌, refl, sym, ap, subst, ◌∙◌}
use mathlib.Core.List.{List, [], ◌∷◌, ◌++◌}
use mathlib.Core.Bool.{Bool, true, false}
use native.Mathlib.Omega.{arith}
use borrow.Author.Tests.{ltb-true}
use lib.Dec.{eqb, ltb}
use lib.ListN.{length, get_or, drop}
use Rattle.utils.specs.Bytes.{pick}
use Rattle.pieces.specs.Tokens.{kind_of, carried, token_cells}
use Rattle.pieces.specs.declared.Token.{Token}
use Rattle.pieces.specs.declared.TokenValue.{TokenValue}
use Rattle.pieces.specs.declared.TokenValue.TheVariants as T
use Rattle.lexer.specs.Numbered.{tokens_cells}
use Rattle.lexer.specs.Decoded.{tokens_of, is_name, name_in, integer_in, with_next, token_at}
use Rattle.lexer.specs.Sound.{no_token}
use Rattle.lexer.specs.declared.TokenAt.{TokenAt}
use Rattle.lexer.proofs.Cells.{tok_of, cells-token_at}
use Rattle.parser.specs.Moved.{Move, Sim, move_t}
use Rattle.checker.proofs.Lexed.{unpadded}
use Rattle.edited.specs.Reading.{Firsts, spelled, plain, number, word, seen_as, seen, seen_each, token_columns}
use Rattle.edited.specs.Reading.{records, records_from}
use Rattle.edited.proofs.Alike.{Meets, moved}

-- A token's value. --------------------------------------------------------------------------------------------------

-- what is neither a name nor an integer carries nothing
nothing-carried : (v : TokenValue) → is_name (kind_of v) ≡ false → eqb (kind_of v) 4 ≡ false → carried v ≡ 0
unfolding is_name pick
nothing-carried (T.Local i) h g = absurd (let z : ◌≡◌ {A = ℕ} 0 1 = cc in omega arith)
nothing-carried (T.Global i) h g = absurd (let z : ◌≡◌ {A = ℕ} 0 1 = cc in omega arith)
nothing-carried (T.Label i) h g = absurd (let z : ◌≡◌ {A = ℕ} 0 1 = cc in omega arith)
nothing-carried (T.Integer n) h g = absurd (let z : ◌≡◌ {A = ℕ} 0 1 = cc in omega arith)
nothing-carried T.Add h g = refl
nothing-carried T.Mul h g = refl
nothing-carried T.Sub h g = refl
nothing-carried T.Div h g = refl
nothing-carried T.Mod h g = refl
nothing-carried T.True h g = refl
nothing-carried T.False h g = refl
nothing-carried T.Equal h g = refl
nothing-carried T.LessThan h g = refl
nothing-carried T.GreaterThan h g = refl
nothing-carried T.LessThanOrEq h g = refl
nothing-carried T.GreaterThanOrEq h g = refl
nothing-carried T.Not h g = refl
nothing-carried T.And h g = refl
nothing-carried T.Or h g = refl
nothing-carried T.Jump h g = refl
nothing-carried T.Branch h g = refl
nothing-carried T.Call h g = refl
nothing-carried T.Return h g = refl
nothing-carried T.Define h g = refl
nothing-carried T.LeftParen h g = refl
nothing-carried T.RightParen h g = refl
nothing-carried T.LeftBrace h g = refl
nothing-carried T.RightBrace h g = refl
nothing-carried T.Colon h g = refl
nothing-carried T.Semicolon h g = refl
nothing-carried T.Comma h g = refl
nothing-carried T.Int h g = refl
nothing-carried T.Bool h g = refl
nothing-carried T.Const h g = refl
nothing-carried T.Print h g = refl
nothing-carried T.Nop h g = refl
nothing-carried T.Identity h g = refl
nothing-carried T.EndOfFile h g = refl

name_is : (f : ℕ → ℕ) (b : Bool) (x x' : ℕ) → pick b x 0 ≡ pick b (f (pick b x' 0)) (pick b x' 0) → b ≡ true → x ≡ f x'
unfolding pick
name_is f true x x' n e = n
name_is f false x x' n e = absurd (let z : ◌≡◌ {A = ℕ} 0 1 = cc in omega arith)

integer-is : (c : Bool) (x x' : ℕ) → pick c x 0 ≡ pick c x' 0 → (c ≡ false → x ≡ x') → x ≡ x'
unfolding pick
integer-is true x x' i h = i
integer-is false x x' i h = h refl

small_is : (b : Bool) (x n : ℕ) → (b ≡ true → pick b x 0 < n) → b ≡ true → x < n
unfolding pick
small_is true x n h e = h e
small_is false x n h e = absurd (let z : ◌≡◌ {A = ℕ} 0 1 = cc in omega arith)

module _ {m : Move} {o o' : Firsts} (q : Meets m o o') where
  picked : (b : Bool) (x x' : ℕ) → (b ≡ true → x ≡ m.name x') → (b ≡ true → x' < m.names) → (b ≡ false → x ≡ x')
      → seen_as o x (pick b spelled plain) ≡ seen_as o' x' (pick b spelled plain)
  unfolding pick
  picked true x x' h g i = ap word (ap o.spells (h refl) ∙ q.spells x' (g refl))
  picked false x x' h g i = ap number (i refl)

  -- what two related tokens carry
  value-alike : (v v' : TokenValue) → kind_of v ≡ kind_of v'
      → (name_in (kind_of v) (carried v)).0
      ≡ pick (is_name (kind_of v')) (m.name (name_in (kind_of v') (carried v')).0) (name_in (kind_of v') (carried v')).0
      → integer_in (kind_of v) (carried v) ≡ integer_in (kind_of v') (carried v')
      → (is_name (kind_of v') ≡ true → (name_in (kind_of v') (carried v')).0 < m.names)
      → seen_as o (carried v) (pick (is_name (kind_of v)) spelled plain)
      ≡ seen_as o' (carried v') (pick (is_name (kind_of v')) spelled plain)
  unfolding name_in integer_in
  value-alike v v' k n i f =
      let b : Bool = is_name (kind_of v') in
      let c : Bool = eqb (kind_of v') 4 in
      rw k
      (picked b (carried v) (carried v') (name_is m.name b (carried v) (carried v') (rw k at n))
      (small_is b (carried v') m.names f)
      (λ e. integer-is c (carried v) (carried v') (rw k at i) (λ d.
      nothing-carried v (rw k e) (rw k d) ∙ sym (nothing-carried v' e d))))

  -- two related tokens
  token-alike : (t t' : Token) (next next' : ℕ) → with_next (tok_of t) next ≡ move_t m (with_next (tok_of t') next')
      → (is_name (kind_of t'.value) ≡ true → (name_in (kind_of t'.value) (carried t'.value)).0 < m.names)
      → seen o (token_columns (kind_of t.value)) (token_cells t)
      ≡ seen o' (token_columns (kind_of t'.value)) (token_cells t')
  unfolding seen
  token-alike t t' next next' e f =
      let k = ap (λ (a : TokenAt). a.kind) e in
      let line = ap (λ (a : TokenAt). a.line.0) e in
      let place = ap (λ (a : TokenAt). a.place) e in
      let value =
      value-alike t.value t'.value k (ap (λ (a : TokenAt). a.name.0) e)
      (ap (λ (a : TokenAt). a.integer) e) f in
      rw (
        value,
        k,
        line,
        place,
        moved m.down t'.line.0 o.line o'.line q.line,
        moved m.on t'.place o.place o'.place q.place,
      )

-- Tokens one behind the other. --------------------------------------------------------------------------------------

-- the cells of n tokens, from token i on
unfoldable cells_from : List Token → ℕ → ℕ → List (List ℕ)
cells_from ts i zero = []
cells_from ts i (suc n) = token_cells (get_or ts i no_token) ∷ cells_from ts (i + 1) n

cells_there : (ts : List Token) (i : ℕ) → i < length ts
    → drop (i * 4) (tokens_cells ts) ≡ token_cells (get_or ts i no_token) ++ drop ((i + 1) * 4) (tokens_cells ts)
unfolding tokens_cells
cells_there [] i h = absurd (omega arith)
cells_there (t ∷ ts) zero h = refl
cells_there (t ∷ ts) (suc i) h =
    let e : suc i * 4 ≡ suc (suc (suc (suc (i * 4)))) = omega arith in
    let d : (suc i + 1) * 4 ≡ suc (suc (suc (suc ((i + 1) * 4)))) = omega arith in
    rw (e, d) (cells_there ts i (omega arith))

tokens-cut : (ts : List Token) (n i : ℕ) → i + n ≤ length ts
    → records_from 4 i n (tokens_cells ts) ≡ cells_from ts i n
unfolding records cells_from
tokens-cut ts zero i h = refl
tokens-cut ts (suc n) i h =
    rw (cells_there ts i (omega arith))
    (ap (λ (rs : List (List ℕ)). token_cells (get_or ts i no_token) ∷ rs) (tokens-cut ts n (i + 1) (omega arith)))

-- the token at an index
cells_at_lem : (ts : List Token) (i : ℕ) → i < length ts
    → token_at (tokens_of (tokens_cells ts)) i
    ≡ with_next (tok_of (get_or ts i no_token)) (pick (eqb (kind_of (get_or ts i no_token).value) 38) i (i + 1))
cells_at_lem ts i h =
    ap (λ (l : List ℕ). token_at (tokens_of l) i) (sym (unpadded (tokens_cells ts))) ∙ cells-token_at 0 ts i h

-- what is not read as an end is a token
cells_count : (ts : List Token) → length (tokens_of (tokens_cells ts)) ≡ length ts
unfolding tokens_of tokens_cells
cells_count [] = refl
cells_count (t ∷ ts) = ap suc (cells_count ts)

pub not_end : (ts : List Token) (i : ℕ) → ((token_at (tokens_of (tokens_cells ts)) i).kind ≡ 38 → ⊥) → i < length ts
unfolding token_at pick
not_end ts i h = by (ltb i (length (tokens_of (tokens_cells ts)))) refl
  where
    by : (b : Bool) → ltb i (length (tokens_of (tokens_cells ts))) ≡ b → i < length ts
    by true e = omega (arith, ltb-true i (length (tokens_of (tokens_cells ts))) e, cells_count ts)
    by false e = absurd (h (rw e refl))

module _ {m : Move} {o o' : Firsts} (q : Meets m o o') {l : ℕ} (ts ts' : List Token)
    (s : Sim m l (tokens_of (tokens_cells ts)) (tokens_of (tokens_cells ts'))) where
  each-alike : (n i : ℕ) → i + n ≤ l → m.by + i + n ≤ length ts → i + n ≤ length ts'
      → seen_each o token_columns (cells_from ts (m.by + i) n) ≡ seen_each o' token_columns (cells_from ts' i n)
  unfolding seen_each cells_from
  each-alike zero i h g g' = refl
  each-alike (suc n) i h g g' =
      let on : m.by + i + 1 ≡ m.by + (i + 1) = omega arith in
      let there = cells_at_lem ts' i (omega arith) in
      let fit = subst (λ (a : TokenAt). is_name a.kind ≡ true → a.name.0 < m.names) there
      (s.fit i (omega arith)) in
      let e = sym (cells_at_lem ts (m.by + i) (omega arith)) ∙ s.same i (omega arith) ∙ ap (move_t m) there in
      rw (
        token-alike q (get_or ts (m.by + i) no_token) (get_or ts' i no_token) _ _ e fit,
        on,
        each-alike n (i + 1) (omega arith) (omega arith) (omega arith),
      )

  -- the tokens from a name to a closing brace, which is no end
  pub tokens-alike : (from last from' last' : ℕ) → from ≡ m.by + from' → last ≡ m.by + last' → last' < l
      → from' ≤ last' → ((token_at (tokens_of (tokens_cells ts')) last').kind ≡ 38 → ⊥)
      → seen_each o token_columns (records_from 4 from (last + 1 - from) (tokens_cells ts))
      ≡ seen_each o' token_columns (records_from 4 from' (last' + 1 - from') (tokens_cells ts'))
  tokens-alike from last from' last' e d h g closing =
      let n : ℕ = last' + 1 - from' in
      let many : last + 1 - from ≡ n = omega arith in
      let same = ap (λ (a : TokenAt). a.kind) (s.same last' h) in
      let in-other : last' < length ts' = not_end ts' last' closing in
      let in_one : m.by + last' < length ts = not_end ts (m.by + last') (λ c. closing (sym same ∙ c)) in
      rw (
        many,
        e,
        tokens-cut ts n (m.by + from') (omega arith),
        tokens-cut ts' n from' (omega arith),
        each-alike n from' (omega arith) (omega arith) (omega arith),
      )
