-- A header held against the row of the replaced function.
use Prim.Native.Nat.{ℕ, ◌+◌, ◌-◌, ◌/◌, ◌≤◌}
use mathlib.Core.Path.{◌≡◌, ap, ◌∙◌}
use mathlib.Core.List.{List, ◌∷◌}
use native.Mathlib.Omega.{arith}
use lib.ListN.{length, get_or}
use lib.Seq.{sets, length-sets}
use Rattle.utils.specs.Bytes.{same_bytes}
use Rattle.lexer.specs.Decoded.{tokens_of, token_at}
use Rattle.lexer.proofs.Records.{tokens-count}
use Rattle.parser.specs.Runs.{variables_cells, type_cell}
use Rattle.parser.specs.declared.Ty.{Ty}
use Rattle.parser.specs.declared.Variable.{Variable}
use Rattle.functions.specs.Known.{signature, formal_types}
use Rattle.functions.specs.Columns.{row_at, ret_at, count_at, formals_at}
use Rattle.functions.specs.Rows.{at_most16, types_at, signed_at}
use Rattle.functions.proofs.Stores.{get_or-sets-below, types_there}
use Rattle.functions.proofs.Seen.{get_or-sets-at}
use Rattle.headers.specs.Brought.{cells_from}
use Rattle.headers.proofs.Brought.{RowSame, cell_same, types_same, at_most, cells_at_lem, length-cells}

-- the token before the end token, counted in cells
pub last_token : (cells : List ℕ) (n : ℕ) → n ≡ length cells / 4 - 2 → token_at (tokens_of cells) n
    ≡ token_at (tokens_of cells) (length (tokens_of cells) - 2)
last_token cells n e =
    let m : n ≡ length (tokens_of cells) - 2 = omega (arith, e, tokens-count cells) in
    ap (λ (k : ℕ). token_at (tokens_of cells) k) m

-- The function type of a row. ----------------------------------------------------------------------------------------

-- rows with the same cells have the same function type
pub signed_same : (cells rows : List ℕ) (k i : ℕ) → RowSame cells rows k i → signed_at cells k ≡ signed_at rows i
signed_same cells rows k i s =
    let ret : get_or cells (ret_at k) 0 ≡ get_or rows (ret_at i) 0 =
    cell_same cells rows k i 6 s (omega arith) (λ q. omega (arith, q)) in
    let count : get_or cells (count_at k) 0 ≡ get_or rows (count_at i) 0 =
    cell_same cells rows k i 12 s (omega arith) (λ q. omega (arith, q)) in
    let n : ℕ = at_most16 (get_or rows (count_at i) 0) in
    let few : n ≤ 16 = at_most cells rows (get_or rows (count_at i) 0) in
    let a : formals_at k ≡ row_at k + 13 = omega arith in
    let b : formals_at i ≡ row_at i + 13 = omega arith in
    rw (ret, count, a, b, types_same cells rows n k i 13 s (omega arith) (omega arith))

-- Row i is copied to the first row, and formals are stored behind that.
module _ (out rows out₁ out₂ : List ℕ) (i : ℕ) (vs : List Variable) (room : 2881 ≤ length out)
    (copied : out₁ ≡ sets out (row_at 0) (cells_from rows (row_at i) 45))
    (behind : out₂ ≡ sets out₁ (formals_at 1) (variables_cells vs))
  where
    first-row : RowSame out₂ rows 0 i
    first-row j h other =
        let cells = cells_from rows (row_at i) 45 in
        let l : length cells ≡ 45 = length-cells 45 rows (row_at i) in
        rw (behind, copied)
        (get_or-sets-below (variables_cells vs) (sets out (row_at 0) cells) (formals_at 1) (row_at 0 + j) (omega arith)
        ∙ get_or-sets-at cells out (row_at 0) j (omega arith) (omega arith)
        ∙ cells_at_lem 45 rows (row_at i) j h)

    formals_there : length vs ≤ 16 → types_at out₂ (formals_at 1) (length vs) ≡ formal_types vs
    formals_there few =
        let l : length out₁ ≡ length out = rw copied (length-sets out (row_at 0) (cells_from rows (row_at i) 45)) in
        rw behind (types_there vs out₁ (formals_at 1) (omega arith))

    -- The copy held against what is stored is row i held against the header that was read.
    pub copied_same : (ret : Ty) (cell count : ℕ) → cell ≡ type_cell ret → length vs ≡ count → count ≤ 16
        → same_bytes (signed_at out₂ 0) (cell ∷ count ∷ types_at out₂ (formals_at 1) count)
        ≡ same_bytes (signed_at rows i) (signature ret vs)
    copied_same ret cell count e n few =
        rw (signed_same out₂ rows 0 i first-row, e, ← n, formals_there (omega arith))
