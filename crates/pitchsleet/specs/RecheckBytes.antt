-- The promise of `pitchsleet_recheck`: the header table comes as the bytes that `pitchsleet_check` wrote for it, the
-- answer and the cells go out as check's do.
use Rattle.std.specs.Prelude.{ℕ, zero, suc, ◌+◌, ◌*◌, ◌/◌, List, [], ◌∷◌, ltb, length, get_or}
use Rattle.utils.specs.Bytes.{pick}
use Rattle.functions.specs.Columns.{table_size}
use Rattle.checker.specs.declared.CheckAnswer.{CheckAnswer}
use Rattle.recheck.specs.Recheck.{recheck_of}
use Rattle.exports.specs.CheckBytes.{Export, gated, Gives}

-- four bytes as a cell, the lowest first
abbrev pub cell_at : List ℕ → ℕ → ℕ
cell_at bytes at =
    get_or bytes at 0 + get_or bytes (at + 1) 0 * 256 + get_or bytes (at + 2) 0 * 65536 + get_or bytes (at + 3) 0 * 16777216

-- n cells, from a byte on
unfoldable pub cells_at : List ℕ → ℕ → ℕ → List ℕ
cells_at bytes at zero = []
cells_at bytes at (suc n) = cell_at bytes at ∷ cells_at bytes (at + 4) n

-- a table has as many whole cells as its bytes have; more than its size are not looked at
unfoldable pub cell_count : ℕ → ℕ
cell_count bytes = pick (ltb (bytes / 4) table_size) (bytes / 4) table_size

abbrev pub table_of : List ℕ → List ℕ
table_of bytes = cells_at bytes 0 (cell_count (length bytes))

unfoldable pub recheck_def : List ℕ → List ℕ → ℕ → List ℕ → List ℕ → List ℕ → Export
recheck_def old table number new o m = gated o m (recheck_of old (table_of table) number new)

-- THE PROMISE: the answer and both slices at exit, of the four inputs and the slices at entry.
abbrev pub Rechecks : List ℕ → List ℕ → ℕ → List ℕ → List ℕ → List ℕ → CheckAnswer → List ℕ → List ℕ → Type 0
Rechecks old table number new o₀ m₀ r o m = Gives (recheck_def old table number new o₀ m₀) r o m
