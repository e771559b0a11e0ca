-- One turn of the body's loop: an item read and stored, the body closed, or a refusal. `body_d` says the same of a
-- whole body; that turns add up to it is shown in `proofs/Reading.antt`.
use Rattle.std.specs.Prelude.{ℕ, suc, ◌+◌, ◌*◌, ◌≤◌, ◌≡◌, List, [], ◌∷◌, ◌++◌, Bool, eqb, leb, length, take, set}
use Rattle.std.specs.Prelude.{Result, Ok, Err}
use Rattle.std.proofs.lemmas.List.Edits.{sets}
use Rattle.utils.specs.Bytes.{pick}
use Rattle.lexer.specs.Decoded.{Tok}
use Rattle.utils.specs.Limits.{most_labels}
use Rattle.body.specs.Kinds as K
use Rattle.pieces.specs.declared.Identifier.{Identifier}
use Rattle.parser.specs.Step.{refusal, then_at}
use Rattle.parser.specs.Runs.{Calling, variables_cells}
use Rattle.parser.specs.Labels.{labelled_d}
use Rattle.body.specs.Body.{Item, label, plain, call, call_into, operation_token, item_token, arguments_in}
use Rattle.body.specs.Body.{ItemAt, item, refused, then_item, item_d, Body, body_end, body_stop, body_then, body_d}
use Rattle.body.specs.Body.{after_brace, after_label, after_operation, after_terminator, behind, labels_of, ret}
use Rattle.body.specs.Body.{lacks_ret}
use Rattle.parser.specs.declared.Refusal.{Refusal}
use Rattle.body.specs.Records.{none, item_record, record_of, record_cells, items_cells}
use Rattle.body.specs.Room.{Within}
use Rattle.body.specs.declared.ItemRecord.{ItemRecord}
use Rattle.body.specs.declared.Last.TheVariants as L
use Rattle.body.specs.declared.ItemRead.{ItemRead}
use Rattle.body.specs.declared.Before.{Before}
use Rattle.body.specs.declared.Before.TheVariants as B
use Rattle.body.specs.declared.Closed.{Closed}
use Rattle.body.specs.declared.Going.{Going}
use Rattle.body.specs.declared.Turn.{Turn}
use Rattle.body.specs.declared.Turn.TheVariants as T

-- An operation. -----------------------------------------------------------------------------------------------------

-- its record, how many arguments there are then, and where to go on; or the refusal
unfoldable pub item_read : ℕ → ItemAt → Result ItemRead Refusal
item_read used (item i next) =
    Ok (record { item = record_of used i; arguments = used + length (arguments_in i); next = next })
item_read used (refused e) = Err e

-- the arguments that an item leaves in the cells; a refusal says nothing of them
abbrev pub ItemHeld : ℕ → List ℕ → List ℕ → ItemAt → Type 0
ItemHeld used arguments₀ arguments (item i next) =
    arguments ≡ sets arguments₀ (used * 2) (variables_cells (arguments_in i))
ItemHeld used arguments₀ arguments (refused e) = Unit

-- a call's record, from its kind, its word, its result and the result's type
abbrev pub call_record : ℕ → ℕ → Identifier → ℕ → ℕ → Calling → ItemRecord
call_record kind word dest dty used c =
    item_record kind word dest dty c.callee 0 (L.Run used (length c.arguments.list))

unfoldable pub call_read : ℕ → ℕ → Identifier → ℕ → ℕ → Calling → Result ItemRead Refusal
call_read kind word dest dty used c =
    then_at Err c.arguments.end (λ next.
    Ok (record {
      item = call_record kind word dest dty used c;
      arguments = used + length c.arguments.list;
      next = next;
    }))

-- behind a terminator: its own refusal, or 12 with the operation's token
abbrev pub late_refusal : Result ItemRead Refusal → Refusal
late_refusal (Ok read) = refusal 12 read.item.token 0
late_refusal (Err e) = e

-- what stands before an item, as `body_d` numbers it
abbrev pub before_number : Before → ℕ
before_number B.Brace = after_brace
before_number B.Label = after_label
before_number B.Operation = after_operation
before_number B.Terminator = after_terminator

-- what stands behind an operation, by its record's kind
unfoldable pub behind_kind : ℕ → Before
behind_kind kind = pick (leb K.jump kind) B.Terminator B.Operation

-- The state. --------------------------------------------------------------------------------------------------------

-- the `ret` that a block gets where it is closed
unfoldable pub added : Bool → ℕ → List Item
added lacks last = pick lacks (ret last ∷ []) []

-- an item as it is stored: a label closes the block before it
unfoldable pub closing : Bool → ℕ → ℕ → Item → List Item
closing void before last (label w l) = added (lacks_ret void before) last ++ (label w l ∷ [])
closing void before last (plain o) = plain o ∷ []
closing void before last (call w g xs) = call w g xs ∷ []
closing void before last (call_into w v g xs) = call_into w v g xs ∷ []

-- what stands before the next item, and the token of the last operation
unfoldable pub before_next : Item → ℕ
before_next (label w l) = after_label
before_next (plain o) = behind (plain o)
before_next (call w g xs) = after_operation
before_next (call_into w v g xs) = after_operation

unfoldable pub last_next : ℕ → Item → ℕ
last_next last (label w l) = last
last_next last (plain o) = operation_token o
last_next last (call w g xs) = w
last_next last (call_into w v g xs) = w

-- what a turn may rely on: the room that the tokens behind it leave
pub record Ready (ts : List Tok) (s : Going) : Type 0 where
  pub within : Within ts s.at
  pub items_few : s.items * 4 ≤ s.at * 3
  pub arguments_few : s.arguments * 19 ≤ s.at * 16
  pub labels_few : s.labels ≤ most_labels

-- The turns. --------------------------------------------------------------------------------------------------------

-- from one index to the next over an item
pub record Passed (ts : List Tok) (at next : ℕ) (i : Item) : Type 0 where
  pub two : at + 2 ≤ next
  pub within : Within ts next
  pub arguments_few : at * 16 + length (arguments_in i) * 19 ≤ next * 16

-- the state behind an item, and the cells
pub record Taken (void : Bool) (i : Item) (s s' : Going) (items₀ items arguments₀ arguments : List ℕ) : Type 0 where
  pub items_next : s'.items ≡ s.items + length (closing void (before_number s.before) s.last i)
  pub arguments_next : s'.arguments ≡ s.arguments + length (arguments_in i)
  pub before_is : before_number s'.before ≡ before_next i
  pub last_is : s'.last ≡ last_next s.last i
  pub items_are : items
      ≡ sets items₀ (s.items * 8) (items_cells s.arguments (closing void (before_number s.before) s.last i))
  pub arguments_are : arguments ≡ sets arguments₀ (s.arguments * 2) (variables_cells (arguments_in i))

-- an operation, then 12 behind a terminator
unfoldable pub item_then : List Tok → ℕ → ℕ → (Item → ℕ → Body) → Body
item_then ts before at k =
    then_item body_stop (item_d ts at) (λ i at1.
    pick (eqb before after_terminator) (body_stop (refusal 12 (item_token i) 0)) (k i at1))

pub record ItemTaken (ts : List Tok) (void : Bool) (s s' : Going)
    (items₀ items arguments₀ arguments : List ℕ) : Type 0 where
  pub read : Item
  pub goes : (k : Item → ℕ → Body) → item_then ts (before_number s.before) s.at k ≡ k read s'.at
  pub before_same : before_next read ≡ behind read
  pub no_label : labels_of (read ∷ []) ≡ []
  pub labels_next : s'.labels ≡ s.labels
  pub passed : Passed ts s.at s'.at read
  pub taken : Taken void read s s' items₀ items arguments₀ arguments

abbrev pub ItemTurned : List Tok → Going → List ℕ → List ℕ → List ℕ → List ℕ → Result Turn Refusal → Type 0
ItemTurned ts s items₀ items arguments₀ arguments (Ok (T.On s')) =
    (void : Bool) → ItemTaken ts void s s' items₀ items arguments₀ arguments
ItemTurned ts s items₀ items arguments₀ arguments (Ok (T.Done e)) = ⊥
ItemTurned ts s items₀ items arguments₀ arguments (Err e) =
    (k : Item → ℕ → Body) → item_then ts (before_number s.before) s.at k ≡ body_stop e

-- the state behind a label, and the items: the `ret` that the block before it may lack, and the label's record
abbrev pub behind_label : Bool → Going → ℕ → Going
behind_label void s next =
    record {
      at = next;
      items = s.items + length (added (lacks_ret void (before_number s.before)) s.last) + 1;
      arguments = s.arguments;
      labels = s.labels + 1;
      before = B.Label;
      last = s.last;
    }

abbrev pub label_put : Bool → Going → Identifier → List ℕ → List ℕ
label_put void s l items =
    let ret = added (lacks_ret void (before_number s.before)) s.last in
    sets (sets items (s.items * 8) (items_cells 0 ret)) ((s.items + length ret) * 8)
    (record_cells (item_record K.label s.at none 0 none 0 (L.Name l 0)))

pub record LabelTaken (ts : List Tok) (void : Bool) (s s' : Going) (items₀ items labels₀ labels : List ℕ) : Type 0 where
  pub name : Identifier
  pub goes : labelled_d ts (take s.labels labels₀) s.at ≡ Ok (name, s'.at)
  pub labels_next : s'.labels ≡ s.labels + 1
  pub labels_few : s'.labels ≤ most_labels
  pub labels_are : labels ≡ set labels₀ s.labels name.0
  pub passed : Passed ts s.at s'.at (label s.at name)
  pub taken : Taken void (label s.at name) s s' items₀ items [] []

abbrev pub LabelTurned : List Tok → Bool → Going → List ℕ → List ℕ → List ℕ → List ℕ → Result Turn Refusal → Type 0
LabelTurned ts void s items₀ items labels₀ labels (Ok (T.On s')) = LabelTaken ts void s s' items₀ items labels₀ labels
LabelTurned ts void s items₀ items labels₀ labels (Ok (T.Done e)) = ⊥
LabelTurned ts void s items₀ items labels₀ labels (Err e) =
    labelled_d ts (take s.labels labels₀) s.at ≡ Err e

-- The body from a state on, with so much room.
abbrev pub body_from : List Tok → ℕ → Going → List ℕ → Body
body_from ts room s labels = body_d ts room (take s.labels labels) (before_number s.before) s.at

pub record Gone (ts : List Tok) (void : Bool) (s s' : Going) (items₀ items arguments₀ arguments labels₀ labels : List ℕ)
    : Type 0 where
  pub read : Item
  pub goes : (room : ℕ) → body_from ts (suc room) s labels₀ ≡ body_then read (body_from ts room s' labels)
  pub labels_next : s'.labels ≡ s.labels + length (labels_of (read ∷ []))
  pub labels_few : s'.labels ≤ most_labels
  pub labels_are : labels ≡ sets labels₀ s.labels (labels_of (read ∷ []))
  pub passed : Passed ts s.at s'.at read
  pub taken : Taken void read s s' items₀ items arguments₀ arguments

pub record Ended (ts : List Tok) (void : Bool) (s : Going) (e : Closed)
    (items₀ items arguments₀ arguments labels₀ labels : List ℕ)
    : Type 0 where
  pub goes : (room : ℕ) → body_from ts (suc room) s labels₀ ≡ body_end (Ok e.next)
  pub one : s.at + 1 ≤ e.next
  pub within : Within ts e.next
  pub items_next : e.items ≡ s.items + length (added (lacks_ret void (before_number s.before)) s.last)
  pub arguments_next : e.arguments ≡ s.arguments
  pub labels_next : e.labels ≡ s.labels
  pub items_are : items ≡ sets items₀ (s.items * 8)
      (items_cells s.arguments (added (lacks_ret void (before_number s.before)) s.last))
  pub arguments_are : arguments ≡ arguments₀
  pub labels_are : labels ≡ labels₀

abbrev pub Turned : List Tok → Bool → Going → List ℕ → List ℕ → List ℕ → List ℕ → List ℕ → List ℕ
    → Result Turn Refusal → Type 0
Turned ts void s items₀ items arguments₀ arguments labels₀ labels (Ok (T.On s')) =
    Gone ts void s s' items₀ items arguments₀ arguments labels₀ labels
Turned ts void s items₀ items arguments₀ arguments labels₀ labels (Ok (T.Done e)) =
    Ended ts void s e items₀ items arguments₀ arguments labels₀ labels
Turned ts void s items₀ items arguments₀ arguments labels₀ labels (Err e) =
    (room : ℕ) → body_from ts (suc room) s labels₀ ≡ body_stop e
