-- A function's body (document 01, "Functions, labels, edges"): one list of items in text order.
use Rattle.std.specs.Prelude.{ℕ, zero, suc, List, [], ◌∷◌, ◌++◌, Bool, true, false, eqb, Result, Ok, Err}
use Rattle.utils.specs.Bytes.{pick}
use Rattle.lexer.specs.Decoded.{Tok, token_at}
use Rattle.pieces.specs.declared.Identifier.{Identifier}
use Rattle.pieces.specs.Kinds as T
use Rattle.parser.specs.Step.{refusal, look, then_at, then_named}
use Rattle.parser.specs.Grammar.{instruction_d}
use Rattle.parser.specs.Runs.{Calling, call_d}
use Rattle.parser.specs.Labels.{labelled_d}
use Rattle.parser.specs.declared.Refusal.{Refusal}
use Rattle.parser.specs.declared.Variable.{Variable}
use Rattle.parser.specs.declared.Operation.{Operation}
use Rattle.parser.specs.declared.Operation.TheVariants as O
use Rattle.parser.specs.declared.Parsed.{Parsed}
use Rattle.parser.specs.declared.Parsed.TheVariants as P

-- A label, an operation, or a call with or without a result. The first number is the token.
pub data Item : Type 0 where
  label : ℕ → Identifier → Item
  plain : Operation → Item
  call : ℕ → Identifier → List Variable → Item
  call_into : ℕ → Variable → Identifier → List Variable → Item

abbrev pub operation_token : Operation → ℕ
operation_token (O.BinaryOp w v x y) = w
operation_token (O.UnaryOp w v x) = w
operation_token (O.Const w v) = w
operation_token (O.Jump w l) = w
operation_token (O.Branch w x l m) = w
operation_token (O.Ret w) = w
operation_token (O.RetValue w x) = w
operation_token (O.Print w x) = w
operation_token (O.Nop w) = w

abbrev pub item_token : Item → ℕ
item_token (label w l) = w
item_token (plain o) = operation_token o
item_token (call w g xs) = w
item_token (call_into w v g xs) = w

-- The labels that an operation goes to, in order: two for `br`, equal or not, one for `jmp`, none otherwise.
abbrev pub targets : Operation → List Identifier
targets (O.BinaryOp w v x y) = []
targets (O.UnaryOp w v x) = []
targets (O.Const w v) = []
targets (O.Jump w l) = l ∷ []
targets (O.Branch w x l m) = l ∷ m ∷ []
targets (O.Ret w) = []
targets (O.RetValue w x) = []
targets (O.Print w x) = []
targets (O.Nop w) = []

-- `jmp`, `br` and `ret` end a block
abbrev pub terminates : Operation → Bool
terminates (O.BinaryOp w v x y) = false
terminates (O.UnaryOp w v x) = false
terminates (O.Const w v) = false
terminates (O.Jump w l) = true
terminates (O.Branch w x l m) = true
terminates (O.Ret w) = true
terminates (O.RetValue w x) = true
terminates (O.Print w x) = false
terminates (O.Nop w) = false

abbrev pub is_terminator : Item → Bool
is_terminator (label w l) = false
is_terminator (plain o) = terminates o
is_terminator (call w g xs) = false
is_terminator (call_into w v g xs) = false

-- a call's arguments
abbrev pub arguments_in : Item → List Variable
arguments_in (label w l) = []
arguments_in (plain o) = []
arguments_in (call w g xs) = xs
arguments_in (call_into w v g xs) = xs

-- One operation from its first token, a call with its arguments. ----------------------------------------------------

pub data ItemAt : Type 0 where
  item : Item → ℕ → ItemAt
  refused : Refusal → ItemAt

unfoldable pub then_item : {A : Type 0} → (Refusal → A) → ItemAt → (Item → ℕ → A) → A
then_item fail (item i at) k = k i at
then_item fail (refused e) k = fail e

-- a call once its callee and arguments are read
unfoldable pub called_item : Calling → (Identifier → List Variable → Item) → ItemAt
called_item c make = then_at refused c.arguments.end (λ at. item (make c.callee c.arguments.list) at)

unfoldable pub parsed_item : List Tok → Result Parsed Refusal → ItemAt
parsed_item ts (Ok (P.Done o at)) = item (plain o) at
parsed_item ts (Ok (P.Call w)) = called_item (call_d ts w) (λ g xs. call w g xs)
parsed_item ts (Ok (P.CallInto v w)) = called_item (call_d ts w) (λ g xs. call_into w v g xs)
parsed_item ts (Err e) = refused e

unfoldable pub item_d : List Tok → ℕ → ItemAt
item_d ts at = parsed_item ts (instruction_d ts at)

-- The body. ---------------------------------------------------------------------------------------------------------

-- The items that were read, and where the body ended or why it was refused.
pub record Body : Type 0 where
  pub items : List Item
  pub end : Result ℕ Refusal

abbrev pub body_end : Result ℕ Refusal → Body
body_end e = record { items = []; end = e }

abbrev pub body_stop : Refusal → Body
body_stop e = body_end (Err e)

abbrev pub body_then : Item → Body → Body
body_then i r = record { items = i ∷ r.items; end = r.end }

-- What stands before: the body's brace, a label, an operation, a terminator.
abbrev pub after_brace : ℕ
after_brace = 0

abbrev pub after_label : ℕ
after_label = 1

abbrev pub after_operation : ℕ
after_operation = 2

abbrev pub after_terminator : ℕ
after_terminator = 3

unfoldable pub behind : Item → ℕ
behind i = pick (is_terminator i) after_terminator after_operation

-- the closing brace ends the body, but not right behind a label: there an operation has to stand
unfoldable pub closes : ℕ → ℕ → Bool
closes before kind = pick (eqb before after_label) false (eqb kind T.right_brace)

-- From after the opening brace: `room` bounds the items, and is never used up, since an item takes two tokens of at
-- most 4,096 (`Reading`, crates/body/proofs); `labels` are the labels so far. An operation after a terminator in the
-- same block is 12, found once it is parsed.
unfoldable pub body_d : List Tok → ℕ → List ℕ → ℕ → ℕ → Body
body_d ts zero labels before at = body_stop (refusal 0 at 0)
body_d ts (suc room) labels before at =
    look (token_at ts at) (λ kind next.
    pick (closes before kind) (body_end (Ok next))
    (pick (eqb kind T.label)
    (then_named body_stop (labelled_d ts labels at) (λ l at1.
    body_then (label at l) (body_d ts room (labels ++ (l.0 ∷ [])) after_label at1)))
    (then_item body_stop (item_d ts at) (λ i at1.
    pick (eqb before after_terminator) (body_stop (refusal 12 (item_token i) 0))
    (body_then i (body_d ts room labels (behind i) at1))))))

-- the labels of a body, in text order
unfoldable pub labels_of : List Item → List ℕ
labels_of [] = []
labels_of (label w l ∷ is) = l.0 ∷ labels_of is
labels_of (plain o ∷ is) = labels_of is
labels_of (call w g xs ∷ is) = labels_of is
labels_of (call_into w v g xs ∷ is) = labels_of is

-- A block without terminator: a void function gets a `ret` with its last operation's token (document 01, "Typing"). It
-- is added where the block is closed, and no refusal can tell the difference: an added `ret` is checked for nothing.
abbrev pub ret : ℕ → Item
ret token = plain (O.Ret token)

unfoldable pub lacks_ret : Bool → ℕ → Bool
lacks_ret void before = pick void (eqb before after_operation) false

unfoldable pub closed_from : Bool → ℕ → ℕ → List Item → List Item
closed_from void before last [] = pick (lacks_ret void before) (ret last ∷ []) []
closed_from void before last (label w l ∷ is) =
    let more = label w l ∷ closed_from void after_label last is in
    pick (lacks_ret void before) (ret last ∷ more) more
closed_from void before last (plain o ∷ is) =
    plain o ∷ closed_from void (behind (plain o)) (operation_token o) is
closed_from void before last (call w g xs ∷ is) = call w g xs ∷ closed_from void after_operation w is
closed_from void before last (call_into w v g xs ∷ is) = call_into w v g xs ∷ closed_from void after_operation w is

abbrev pub closed_items : Bool → List Item → List Item
closed_items void is = closed_from void after_brace 0 is
