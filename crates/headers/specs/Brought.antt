-- The old headers in the new text's numbers: a table of the rows whose names the new text has, in their order, each
-- with that name's number in it. What looks a callee up by its number among these rows finds what the spelling finds
-- among all of them (`globals_brought`, `callees_brought`, proofs/Brought.antt).
use Rattle.std.specs.Prelude.{ℕ, zero, suc, ◌+◌, ◌≤◌, ◌≡◌, List, [], ◌∷◌, get_or, set, Option, Some, None}
use Rattle.std.proofs.lemmas.List.Edits.{sets}
use Rattle.utils.specs.Limits.{most_functions}
use Rattle.functions.specs.Columns.{row_at, name_at, row_width}
use Rattle.headers.specs.Spelled.{row_name, name_spelled}
use Rattle.headers.specs.declared.Placed.{Placed}
use Rattle.pieces.specs.declared.Identifier.{Identifier}

-- n cells, from a place on
unfoldable pub cells_from : List ℕ → ℕ → ℕ → List ℕ
cells_from cells at zero = []
cells_from cells at (suc n) = get_or cells at 0 ∷ cells_from cells (at + 1) n

-- row n, as row i of the old table but for its name, the number x
unfoldable pub row_put : List ℕ → ℕ → List ℕ → ℕ → ℕ → List ℕ
row_put out n rows i x = set (sets out (row_at n) (cells_from rows (row_at i) row_width)) (name_at n) x

-- a table, and how many rows it has
pub record Brought : Type 0 where
  pub cells : List ℕ
  pub count : ℕ

abbrev pub brought : List ℕ → ℕ → Brought
brought cells count = record { cells = cells; count = count }

-- row i, behind those that are there, if the new text has its name
abbrev pub brought_as : Brought → List ℕ → ℕ → Option Identifier → Brought
brought_as b rows i (Some x) = brought (row_put b.cells b.count rows i x.0) (b.count + 1)
brought_as b rows i None = b

-- n rows, from row i on; the new text has `known` names
unfoldable pub brought_from : List ℕ → List ℕ → List ℕ → List ℕ → ℕ → ℕ → ℕ → Brought → Brought
brought_from old rows new names known i zero b = b
brought_from old rows new names known i (suc n) b =
    brought_from old rows new names known (i + 1) n
    (brought_as b rows i (name_spelled new names 0 known (row_name old rows i)))

-- the whole table, in a slice that held `out`
abbrev pub headers_brought : List ℕ → List ℕ → List ℕ → List ℕ → ℕ → List ℕ → Brought
headers_brought old rows new names known out =
    brought_from old rows new names known 0 (get_or rows 0 0) (brought out 0)

-- What `bring` leaves, by parts with names: the table; and where the row of the given number stands if the new text
-- names it, behind the rows that were brought before it.
pub record Brings (old rows new names : List ℕ) (known number : ℕ) (out₀ : List ℕ) (r : Placed) (out : List ℕ) : Type 0
  where
    pub table : brought out r.count ≡ headers_brought old rows new names known out₀
    pub place : r.place ≡ (brought_from old rows new names known 0 number (brought out₀ 0)).count
    pub few : r.count ≤ most_functions
