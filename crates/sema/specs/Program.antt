-- Typing of a text's functions as they were parsed (crates/functions/specs/Functions.antt), before any cells.
use Rattle.std.specs.Prelude.{ℕ, List, [], ◌∷◌, eqb, length, get_or, take, drop}
use Rattle.utils.specs.Bytes.{pick}
use Rattle.graph.specs.Walk.{block_order}
use Rattle.lexer.specs.Decoded.{Tok}
use Rattle.parser.specs.Runs.{type_cell}
use Rattle.body.specs.Body.{Item}
use Rattle.link.specs.Blocks.{Block, fresh}
use Rattle.link.specs.Edges.{successors}
use Rattle.functions.specs.Known.{formal_types}
use Rattle.functions.specs.Functions.{Function, blocks_in}
use Rattle.sema.specs.Symbols.{Typed, on, then_typed}
use Rattle.sema.specs.Typing.{Global, absent, global}
use Rattle.sema.specs.Blocks.{type_function_d}

-- the functions by name: the first of that name
unfoldable pub globals_of : List Function → ℕ → Global
globals_of [] name = absent
globals_of (f ∷ fs) name =
    let more = globals_of fs name in
    pick (eqb f.head.name.0 name) (global (type_cell f.head.ret) (formal_types f.head.formals)) more

abbrev pub items_in : List Item → Block → List Item
items_in is b = take b.operations (drop b.first is)

-- the blocks of these numbers
unfoldable pub numbered : List Item → List Block → List ℕ → List (List Item)
numbered is bs [] = []
numbered is bs (v ∷ vs) = items_in is (get_or bs v (fresh [] 0)) ∷ numbered is bs vs

-- a body's blocks in the walk's order
abbrev pub ordered_blocks : List Item → List (List Item)
ordered_blocks is =
    let bs = blocks_in is in
    numbered is bs (block_order (λ v. get_or (successors bs bs) v []) (length bs))

-- a function as it was parsed, in the table of names t
abbrev pub function_typed : List Tok → (ℕ → Global) → Function → List ℕ → Typed
function_typed ts globals f t =
    type_function_d ts globals (type_cell f.head.ret) f.token f.head.formals (ordered_blocks f.items) t

-- "Functions are taken in text order": these, of all. "One table of names per function": each begins with `blank`.
unfoldable pub type_program_d : List Tok → List Function → List Function → List ℕ → Typed
type_program_d ts all [] blank = on blank
type_program_d ts all (f ∷ fs) blank =
    then_typed (function_typed ts (globals_of all) f blank) (λ t. type_program_d ts all fs blank)
