-- The functions by name, as the header table's rows have them: the first of that name.
use Rattle.std.specs.Prelude.{ℕ, List, get_or, None, Option, Some}
use Rattle.functions.specs.Columns.{ret_at, count_at, formals_at}
use Rattle.functions.specs.Rows.{at_most16, types_at, row_from}
use Rattle.sema.specs.Typing.{Global, absent, global}

-- the function type of row i
abbrev pub row_global : List ℕ → ℕ → Global
row_global rows i = global (get_or rows (ret_at i) 0) (types_at rows (formals_at i) (at_most16 (get_or rows (count_at i) 0)))

abbrev pub global_of : List ℕ → Option ℕ → Global
global_of rows (Some i) = row_global rows i
global_of rows None = absent

-- the functions of n rows, by name
abbrev pub globals_in : List ℕ → ℕ → ℕ → Global
globals_in rows n name = global_of rows (row_from rows 0 n name)
