-- What the header's functions answer and store.
use Rattle.functions.specs.declared.Head.{Head}
use Rattle.parser.specs.declared.Refusal.{Refusal}
use Rattle.std.specs.Prelude.{ℕ, ◌≤◌, ◌<◌, ◌≡◌, List, length, Err, Ok, Result}
use Rattle.std.proofs.lemmas.List.Edits.{sets}
use Rattle.parser.specs.Runs.{type_cell, variables_cells}
use Rattle.utils.specs.Limits.{most_formals, most_functions}
use Rattle.functions.specs.Functions.{HeaderAt, header, no_header}
use Rattle.functions.specs.Columns.{formals_at}

abbrev pub header_read : HeaderAt → Result Head Refusal
header_read (header h next) =
    Ok (record {
      name = h.name;
      formals = length h.formals;
      ret = type_cell h.ret;
      ty = h.type;
      next = next;
    })
header_read (no_header e) = Err e

-- The formals stand in row n. A refusal says nothing of the rows.
abbrev pub HeaderHeld : ℕ → List ℕ → List ℕ → HeaderAt → Type 0
HeaderHeld n rows₀ rows (header h next) =
    (rows ≡ sets rows₀ (formals_at n) (variables_cells h.formals)) × (length h.formals ≤ most_formals)
    × (n < most_functions)
HeaderHeld n rows₀ rows (no_header e) = Unit
