-- What typing looks up at its visit of each item, and the types that it finds there. "One table of names per function",
-- threaded through the visits: the types found are those of the table as it is at the visit.
use Rattle.std.specs.Prelude.{ℕ, ◌≡◌, List, [], ◌∷◌, get_or, Ok}
use Rattle.lexer.specs.Decoded.{Tok}
use Rattle.pieces.specs.declared.Identifier.{Identifier}
use Rattle.parser.specs.Runs.{type_cell}
use Rattle.body.specs.Body.{Item, label, plain, call, call_into}
use Rattle.parser.specs.declared.Variable.{Variable}
use Rattle.parser.specs.declared.Operation.{Operation}
use Rattle.parser.specs.declared.Operation.TheVariants as O
use Rattle.functions.specs.Functions.{Function}
use Rattle.sema.specs.Symbols.{Typed, enter_d}
use Rattle.sema.specs.Typing.{Global, type_item_d}
use Rattle.sema.specs.Blocks.{type_block_d, enter_formals_d, type_function_d}
use Rattle.sema.specs.Program.{globals_of, ordered_blocks}

-- a name that is looked up, and the type that a table has for it, 0 if none
pub record Look : Type 0 where
  pub name : ℕ
  pub type : ℕ

abbrev pub look_of : List ℕ → Identifier → Look
look_of t x = record { name = x.0; type = get_or t x.0 0 }

unfoldable pub looks_of : List ℕ → List Variable → List Look
looks_of t [] = []
looks_of t (x ∷ xs) = look_of t x.id ∷ looks_of t xs

-- The operands that an item looks up, from left to right. Those of `print` and `br` are never looked up.
abbrev pub operation_looks : List ℕ → Operation → List Look
operation_looks t (O.BinaryOp w v x y) = look_of t x ∷ look_of t y ∷ []
operation_looks t (O.UnaryOp w v x) = look_of t x ∷ []
operation_looks t (O.Const w v) = []
operation_looks t (O.Jump w l) = []
operation_looks t (O.Branch w x l m) = []
operation_looks t (O.Ret w) = []
operation_looks t (O.RetValue w x) = look_of t x ∷ []
operation_looks t (O.Print w x) = []
operation_looks t (O.Nop w) = []

unfoldable pub looks : List ℕ → Item → List Look
looks t (label w l) = []
looks t (plain o) = operation_looks t o
looks t (call w g xs) = looks_of t xs
looks t (call_into w v g xs) = looks_of t xs

-- The table in which they are looked up, where the visit begins with t: operands before the result is entered, a call's
-- arguments after.
unfoldable pub looked_in : List ℕ → Item → List ℕ
looked_in t (label w l) = t
looked_in t (plain o) = t
looked_in t (call w g xs) = t
looked_in t (call_into w v g xs) = (enter_d t w v.id (type_cell v.ty)).table

-- what a visit finds
abbrev pub visit : List ℕ → Item → List Look
visit t i = looks (looked_in t i) i

-- The visits of a block's items, of blocks in the order in which they are typed, of a function.
unfoldable pub items_visits : List Tok → (ℕ → Global) → ℕ → List ℕ → List Item → List (List Look)
items_visits ts globals ret t [] = []
items_visits ts globals ret t (i ∷ is) = visit t i ∷ items_visits ts globals ret (type_item_d ts globals ret t i).table is

unfoldable pub blocks_visits : List Tok → (ℕ → Global) → ℕ → List ℕ → List (List Item) → List (List (List Look))
blocks_visits ts globals ret t [] = []
blocks_visits ts globals ret t (b ∷ bs) =
    items_visits ts globals ret t b ∷ blocks_visits ts globals ret (type_block_d ts globals ret t b).table bs

abbrev pub function_visits : List Tok → (ℕ → Global) → ℕ → ℕ → List Variable → List (List Item) → List ℕ
    → List (List (List Look))
function_visits ts globals ret token formals blocks t =
    blocks_visits ts globals ret (enter_formals_d t token formals).table blocks

-- What one table has for all of them.
unfoldable pub items_looks : List ℕ → List Item → List (List Look)
items_looks t [] = []
items_looks t (i ∷ is) = looks t i ∷ items_looks t is

unfoldable pub blocks_looks : List ℕ → List (List Item) → List (List (List Look))
blocks_looks t [] = []
blocks_looks t (b ∷ bs) = items_looks t b ∷ blocks_looks t bs

-- A name that has a type in the one table has it in the other.
abbrev pub Keeps : List ℕ → List ℕ → Type 0
Keeps t t' = (x : ℕ) → (get_or t x 0 ≡ 0 → ⊥) → get_or t' x 0 ≡ get_or t x 0

-- every name that was looked up has a type
abbrev pub AllFound : List Look → Type 0
AllFound [] = Unit
AllFound (l ∷ ls) = (l.type ≡ 0 → ⊥) × AllFound ls

abbrev pub ItemsFound : List (List Look) → Type 0
ItemsFound [] = Unit
ItemsFound (ls ∷ lss) = AllFound ls × ItemsFound lss

abbrev pub BlocksFound : List (List (List Look)) → Type 0
BlocksFound [] = Unit
BlocksFound (lss ∷ lsss) = ItemsFound lss × BlocksFound lsss

-- A function as it was parsed, of all: its typing, beginning with the table `blank`, and its visits.
abbrev pub typed_function : List Tok → List Function → List ℕ → Function → Typed
typed_function ts all blank f =
    type_function_d ts (globals_of all) (type_cell f.head.ret) f.token f.head.formals (ordered_blocks f.items)
    blank

abbrev pub visits_of : List Tok → List Function → List ℕ → Function → List (List (List Look))
visits_of ts all blank f =
    function_visits ts (globals_of all) (type_cell f.head.ret) f.token f.head.formals (ordered_blocks f.items)
    blank

-- It is typed, every operand that was looked up had a type at its visit, and the last table has that type for it.
pub record Final (ts : List Tok) (all : List Function) (blank : List ℕ) (f : Function) : Type 0 where
  pub fine : (typed_function ts all blank f).end ≡ Ok tt
  pub found : BlocksFound (visits_of ts all blank f)
  pub same : visits_of ts all blank f ≡ blocks_looks (typed_function ts all blank f).table (ordered_blocks f.items)

abbrev pub EachFinal : List Tok → List Function → List ℕ → List Function → Type 0
EachFinal ts all blank [] = Unit
EachFinal ts all blank (f ∷ fs) = Final ts all blank f × EachFinal ts all blank fs
