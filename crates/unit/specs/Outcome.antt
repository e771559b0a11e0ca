-- The functions of a text, parsed and typed, and what the five slices hold then.
-- "all parsing (with labels and edges of each function) before all typing"
use Rattle.std.specs.Prelude.{ℕ, ◌*◌, ◌≤◌, ◌≡◌, List, [], ◌∷◌, ◌++◌, length, take, Err, Ok, Result}
use Rattle.utils.specs.Bytes.{pad_to}
use Rattle.lexer.specs.Decoded.{Tok}
use Rattle.utils.specs.Limits.{most_names, most_functions}
use Rattle.parser.specs.declared.Refusal.{Refusal}
use Rattle.functions.specs.Functions.{Function, program_d}
use Rattle.body.specs.Room.{item_width}
use Rattle.link.specs.Steps.{block_width}
use Rattle.functions.specs.Columns.{row_at}
use Rattle.functions.specs.Answer.{Slices, slices, counts, counts_with, counts_from}
use Rattle.functions.specs.Laid.{rows_cells, all_blocks, all_predecessors}
use Rattle.functions.specs.declared.Counts.{Counts}
use Rattle.sema.specs.Program.{globals_of, function_typed, type_program_d as typed_d}
use Rattle.elaborate.specs.Types.{callee_in, typed_items_cells, typed_arguments_cells}

-- A text has at most 1,024 names; none has a type yet.
abbrev pub untyped : List ℕ
untyped = pad_to most_names []

-- All functions, or the first refusal. ------------------------------------------------------------------------------

pub data UnitOutcome : Type 0 where
  checked : List Function → UnitOutcome
  refused : Refusal → UnitOutcome

abbrev pub after_typing : List Function → Result Unit Refusal → UnitOutcome
after_typing fs (Ok tt) = checked fs
after_typing fs (Err e) = refused e

abbrev pub after_parsing : List Tok → List Function → Result ℕ Refusal → UnitOutcome
after_parsing ts fs (Ok next) = after_typing fs (typed_d ts fs fs untyped).end
after_parsing ts fs (Err e) = refused e

unfoldable pub unit_d : List Tok → UnitOutcome
unit_d ts = after_parsing ts (program_d ts).functions (program_d ts).end

-- What the slices hold. ---------------------------------------------------------------------------------------------

-- the table of names that each function's typing leaves
unfoldable pub tables_of : List Tok → List Function → List Function → List (List ℕ)
tables_of ts all [] = []
tables_of ts all (f ∷ fs) =
    (function_typed ts (globals_of all) f untyped).table ∷ tables_of ts all fs

-- Items and arguments with the types of operands, function by function, each behind those that are counted.
unfoldable pub all_items : (ℕ → ℕ) → Counts → List Function → List (List ℕ) → List ℕ
all_items callees n [] tables = []
all_items callees n (f ∷ fs) [] = []
all_items callees n (f ∷ fs) (t ∷ ts) =
    typed_items_cells t callees n.arguments f.items ++ all_items callees (counts_with n f) fs ts

unfoldable pub all_arguments : List Function → List (List ℕ) → List ℕ
all_arguments [] tables = []
all_arguments (f ∷ fs) [] = []
all_arguments (f ∷ fs) (t ∷ ts) = typed_arguments_cells t f.items ++ all_arguments fs ts

abbrev pub none : Counts
none = counts 0 0 0 0 0

-- of functions that are typed with these tables; `callees` gives a callee's type
abbrev pub slices_of : List Tok → List ℕ → (ℕ → ℕ) → List Function → List (List ℕ) → Slices
slices_of ts names callees fs tables =
    slices
    (length fs ∷ rows_cells ts names none fs)
    (all_items callees none fs tables)
    (all_arguments fs tables)
    (all_blocks none fs)
    (all_predecessors fs)

abbrev pub unit_slices : List Tok → List ℕ → UnitOutcome → Slices
unit_slices ts names (checked fs) = slices_of ts names (callee_in fs) fs (tables_of ts fs fs)
unit_slices ts names (refused e) = slices [] [] [] [] []

-- slices as long as those at entry, s₀: zeros follow
abbrev pub as_long : Slices → Slices → Slices
as_long s₀ s =
    slices
    (pad_to (length s₀.functions) s.functions)
    (pad_to (length s₀.items) s.items)
    (pad_to (length s₀.arguments) s.arguments)
    (pad_to (length s₀.blocks) s.blocks)
    (pad_to (length s₀.predecessors) s.predecessors)

-- the first cells of each slice, those of so many records
abbrev pub fronts : Counts → Slices → Slices
fronts n s =
    slices
    (take (row_at n.functions) s.functions)
    (take (n.items * item_width) s.items)
    (take (n.arguments * 2) s.arguments)
    (take (n.blocks * block_width) s.blocks)
    (take n.predecessors s.predecessors)

-- how much of each slice is used, or the refusal
abbrev pub unit_read : UnitOutcome → Result Counts Refusal
unit_read (checked fs) = Ok (counts_from none fs)
unit_read (refused e) = Err e

-- how many records there are
abbrev pub Counted : Result Counts Refusal → Type 0
Counted (Ok n) =
    (n.functions ≤ most_functions) × (n.items ≤ 3072) × (n.arguments ≤ 3464) × (n.blocks ≤ 1024)
    × (n.predecessors ≤ 2048)
Counted (Err e) = Unit

-- The records stand in front; of what stands behind nothing is said, and nothing of a refusal's slices.
abbrev pub UnitHeld : List Tok → List ℕ → Slices → UnitOutcome → Type 0
UnitHeld ts names s (checked fs) = fronts (counts_from none fs) s ≡ unit_slices ts names (checked fs)
UnitHeld ts names s (refused e) = Unit
