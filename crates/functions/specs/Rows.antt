-- What a function's row of the header table holds, and what is read back of it; Columns.antt says where it stands.
use Rattle.std.specs.Prelude.{None, Option, Some}
use Rattle.std.specs.Prelude.{ℕ, zero, suc, ◌+◌, ◌*◌, ◌-◌, ◌<◌, List, [], ◌∷◌, ◌++◌, leb, eqb, length, get_or}
use Rattle.utils.specs.Bytes.{pick}
use Rattle.lexer.specs.Decoded.{Tok, token_at}
use Rattle.parser.specs.Runs.{type_cell, variables_cells}
use Rattle.utils.specs.Limits.{most_formals}
use Rattle.functions.specs.Columns.{name_at, ret_at, type_at, count_at, formals_at, IsRow}
use Rattle.functions.specs.Known.{Known}
use Rattle.functions.specs.Functions.{Function, blocks_in}

-- the thirteen cells before the formals
abbrev pub head_cells : List Tok → List ℕ → Function → ℕ → ℕ → List ℕ
head_cells ts names f first base =
    let h = f.head in
    let t = token_at ts f.token in
    f.token ∷ h.name.0 ∷ (f.next - 1)
    ∷ t.place ∷ get_or names (h.name.0 * 2 + 1) 0 ∷ t.line.0
    ∷ type_cell h.ret ∷ h.type
    ∷ first ∷ length f.items ∷ base ∷ length (blocks_in f.items)
    ∷ length h.formals ∷ []

abbrev pub row_cells : List Tok → List ℕ → Function → ℕ → ℕ → List ℕ
row_cells ts names f first base = head_cells ts names f first base ++ variables_cells f.head.formals

-- What the cells hold. ----------------------------------------------------------------------------------------------

unfoldable pub types_at : List ℕ → ℕ → ℕ → List ℕ
types_at cells at zero = []
types_at cells at (suc n) = get_or cells (at + 1) 0 ∷ types_at cells (at + 2) n

-- a row has room for 16 formals
abbrev pub at_most16 : ℕ → ℕ
at_most16 n = pick (leb n most_formals) n most_formals

abbrev pub signed_at : List ℕ → ℕ → List ℕ
signed_at cells i =
    let n = get_or cells (count_at i) 0 in
    get_or cells (ret_at i) 0 ∷ n ∷ types_at cells (formals_at i) (at_most16 n)

abbrev pub known_at : List ℕ → ℕ → Known
known_at cells i =
    record { name = get_or cells (name_at i) 0; type = get_or cells (type_at i) 0; signed = signed_at cells i }

-- the n functions from row i on
unfoldable pub known_from : List ℕ → ℕ → ℕ → List Known
known_from cells i zero = []
known_from cells i (suc n) = known_at cells i ∷ known_from cells (i + 1) n

-- the first of n rows, from row i on, with this name
unfoldable pub row_from : List ℕ → ℕ → ℕ → ℕ → Option ℕ
row_from rows i zero name = None
row_from rows i (suc n) name =
    let more = row_from rows (i + 1) n name in
    pick (eqb (get_or rows (name_at i) 0) name) (Some i) more

-- a row that was found is one of the n
abbrev pub FoundIn : List ℕ → ℕ → Option ℕ → Type 0
FoundIn rows n (Some i) = (i < n) × IsRow rows i
FoundIn rows n None = Unit

-- the number of the function type of a row that was found, or the given one
abbrev pub type_found : List ℕ → Option ℕ → ℕ → ℕ
type_found rows (Some i) type = get_or rows (type_at i) 0
type_found rows None type = type
