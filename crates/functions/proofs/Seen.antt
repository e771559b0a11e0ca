-- A function's row is seen by later headers as its header.
use Prim.Native.Nat.{ℕ, zero, suc, ◌+◌, ◌*◌, ◌-◌, ◌≤◌, ◌<◌}
use mathlib.Core.Path.{◌≡◌, refl, ap, ◌∙◌}
use mathlib.Core.List.{List, [], ◌∷◌, ◌++◌}
use native.Mathlib.Omega.{arith}
use borrow.Author.Tests.{le-leb}
use lib.ListN.{length, get_or, set, replicate, length-set, length-append}
use lib.Seq.{sets, length-sets, get_or-set_same}
use Rattle.utils.specs.Bytes.{pick, pad_to}
use Rattle.utils.proofs.Runs.{sets_append}
use Rattle.lexer.specs.Decoded.{Tok}
use Rattle.parser.specs.Runs.{variables_cells}
use Rattle.parser.specs.declared.Variable.{Variable}
use Rattle.functions.specs.Known.{Known, formal_types}
use Rattle.functions.specs.Functions.{Function, known_of}
use Rattle.functions.specs.Columns.{row_at, formals_at}
use Rattle.functions.specs.Rows.{head_cells, row_cells, types_at, known_at, known_from}
use Rattle.functions.proofs.Stores.{get_or-sets-below, known-below, types-below, types_there}

pub get_or-sets-at : (vs l : List ℕ) (at k : ℕ) → k < length vs → at + length vs ≤ length l
    → get_or (sets l at vs) (at + k) 0 ≡ get_or vs k 0
get_or-sets-at [] l at k h g = absurd (omega arith)
get_or-sets-at (v ∷ vs) l at zero h g =
    let i : at + 0 ≡ at = omega arith in
    rw i (get_or-sets-below vs (set l at v) (suc at) at (omega arith) ∙ get_or-set_same l at v 0 (omega arith))
get_or-sets-at (v ∷ vs) l at (suc k) h g =
    let i : at + suc k ≡ suc at + k = omega arith in
    rw i (get_or-sets-at vs (set l at v) (suc at) k (omega arith) (rw (length-set l at v) (omega arith)))

known_snoc : (n : ℕ) (cells : List ℕ) (i : ℕ)
    → known_from cells i (n + 1) ≡ known_from cells i n ++ (known_at cells (i + n) ∷ [])
unfolding known_from
known_snoc zero cells i = let e : i + 0 ≡ i = omega arith in rw e
known_snoc (suc n) cells i =
    let e : i + suc n ≡ i + 1 + n = omega arith in
    let f : suc n + 1 ≡ suc (n + 1) = omega arith in
    rw (e, f, known_snoc n cells (i + 1))

pub length_variables : (vs : List Variable) → length (variables_cells vs) ≡ length vs * 2
unfolding variables_cells
length_variables [] = refl
length_variables (v ∷ vs) = omega (arith, length_variables vs)

module _ (ts : List Tok) (names : List ℕ) (f : Function) (first base n : ℕ) (rows : List ℕ)
    (few : n < 64) (formals_few : length f.head.formals ≤ 16) (long : 2881 ≤ length rows) where
  vs : List Variable
  vs = f.head.formals

  cells : List ℕ
  cells = row_cells ts names f first base

  rows' : List ℕ
  rows' = sets rows (row_at n) cells

  cells-long : length cells ≡ 13 + length vs * 2
  unfolding vs cells
  cells-long = length-append (head_cells ts names f first base) (variables_cells vs) ∙ omega (arith, length_variables vs)

  cell : (k : ℕ) → k < 13 → get_or rows' (1 + n * 45 + k) 0 ≡ get_or cells k 0
  unfolding rows' vs
  cell k h = get_or-sets-at cells rows (row_at n) k (omega (arith, cells-long)) (omega (arith, cells-long))

  behind : rows' ≡ sets (sets rows (row_at n) (head_cells ts names f first base)) (formals_at n) (variables_cells vs)
  unfolding rows' cells vs
  behind =
      let e : row_at n + 13 ≡ formals_at n = omega arith in
      sets_append (head_cells ts names f first base) (variables_cells vs) rows (row_at n)
      ∙ ap (λ (k : ℕ). sets (sets rows (row_at n) (head_cells ts names f first base)) k (variables_cells vs)) e

  types : types_at rows' (formals_at n) (length vs) ≡ formal_types vs
  unfolding vs
  types =
      let l : length (sets rows (row_at n) (head_cells ts names f first base)) ≡ length rows =
      length-sets rows (row_at n) (head_cells ts names f first base) in
      rw behind (types_there vs (sets rows (row_at n) (head_cells ts names f first base)) (formals_at n)
      (omega (arith, l)))

  at_name_lem : get_or rows' (2 + n * 45) 0 ≡ f.head.name.0
  unfolding cells
  at_name_lem = let e : 2 + n * 45 ≡ 1 + n * 45 + 1 = omega arith in rw e (cell 1 (omega arith))

  at-ret : get_or rows' (7 + n * 45) 0 ≡ get_or cells 6 0
  at-ret = let e : 7 + n * 45 ≡ 1 + n * 45 + 6 = omega arith in rw e (cell 6 (omega arith))

  at-type : get_or rows' (8 + n * 45) 0 ≡ f.head.type
  unfolding cells
  at-type = let e : 8 + n * 45 ≡ 1 + n * 45 + 7 = omega arith in rw e (cell 7 (omega arith))

  at_count : get_or rows' (13 + n * 45) 0 ≡ length vs
  unfolding cells vs
  at_count = let e : 13 + n * 45 ≡ 1 + n * 45 + 12 = omega arith in rw e (cell 12 (omega arith))

  -- whatever stands behind its formals
  row-known : (zs : List ℕ) → known_at (sets rows' (row_at n + length cells) zs) n ≡ known_of f.head
  unfolding vs cells pick
  row-known zs =
      let at = row_at n + length cells in
      rw (
        get_or-sets-below zs rows' at (2 + n * 45) (omega (arith, cells-long)),
        get_or-sets-below zs rows' at (8 + n * 45) (omega (arith, cells-long)),
        get_or-sets-below zs rows' at (7 + n * 45) (omega (arith, cells-long)),
        get_or-sets-below zs rows' at (13 + n * 45) (omega (arith, cells-long)),
        at_name_lem,
        at-type,
        at-ret,
        at_count,
        le-leb (length vs) 16 formals_few,
        types-below (length vs) zs rows' at (14 + n * 45) (omega (arith, cells-long)),
        types,
      )

  pub seen : known_from (sets rows (row_at n) (pad_to 45 (row_cells ts names f first base))) 0 (n + 1)
      ≡ known_from rows 0 n ++ (known_of f.head ∷ [])
  unfolding rows' cells
  seen =
      let zs : List ℕ = replicate (45 - length cells) 0 in
      let whole : List ℕ = sets rows (row_at n) (pad_to 45 cells) in
      known_snoc n whole 0
      ∙ rw (known-below n (pad_to 45 cells) rows (row_at n) 0 (omega arith))
      (ap (λ (k : Known). known_from rows 0 n ++ (k ∷ []))
      (ap (λ (i : ℕ). known_at whole i) (omega arith)
      ∙ ap (λ (l : List ℕ). known_at l n) (sets_append cells zs rows (row_at n)) ∙ row-known zs))
