-- From what the calls gave to an item: its record, its run of arguments, and what stands behind it.
use Rattle.std.specs.Prelude.{Err, Ok, Result}
use Prim.Native.Nat.{ℕ, ◌+◌, ◌*◌}
use mathlib.Core.Path.{◌≡◌, refl, ap, ◌∙◌}
use mathlib.Core.Bool.{Bool}
use mathlib.Core.List.{List, [], ◌∷◌}
use native.Mathlib.Omega.{arith}
use borrow.Author.Tests.{eq-eqb, ne_eqb}
use lib.Dec.{eqb}
use lib.ListN.{length}
use lib.Seq.{sets}
use Rattle.pieces.specs.declared.Identifier.{Identifier}
use Rattle.utils.specs.Bytes.{pick}
use Rattle.lexer.specs.Decoded.{Tok}
use Rattle.parser.specs.Step.{refusal, then_at}
use Rattle.parser.specs.Runs.{Calling, variables_cells, called_of}
use Rattle.body.specs.Body.{Item, label, plain, call, call_into, operation_token, item_token, arguments_in}
use Rattle.body.specs.Body.{ItemAt, item, refused, then_item, called_item, item_d, Body, body_stop, behind, labels_of}
use Rattle.parser.specs.declared.Called.{Called}
use Rattle.parser.specs.declared.Refusal.{Refusal}
use Rattle.parser.specs.declared.Operation.{Operation}
use Rattle.parser.specs.declared.Operation.TheVariants as O
use Rattle.parser.specs.declared.Variable.{Variable}
use Rattle.body.specs.Records.{none, operation_record, record_of, record_cells, items_cells}
use Rattle.body.specs.Room.{Within}
use Rattle.body.specs.Turns.{before_number, item_read, ItemHeld, call_record, call_read, late_refusal}
use Rattle.body.specs.Turns.{behind_kind, closing, before_next, last_next, item_then, ItemTaken}
use Rattle.body.specs.declared.ItemRead.{ItemRead}
use Rattle.body.specs.declared.Before.{Before}
use Rattle.body.specs.declared.Before.TheVariants as B
use Rattle.body.specs.declared.Going.{Going}
use Rattle.body.proofs.Progress.{Operates, ItemOn, item_in}

-- Calls. ------------------------------------------------------------------------------------------------------------

ended-done : (e : Result ℕ Refusal) (f : Identifier) (m : ℕ) {d : Called}
    → Ok d ≡ then_at Err e (λ j. Ok (record { callee = f; count = m; next = j }))
    → (e ≡ Ok d.next) × (f ≡ d.callee) × (m ≡ d.count)
unfolding then_at
ended-done (Ok j) f m h = (cc, cc, cc)
ended-done (Err r) f m h = absurd (cc)

ended-refused : (e : Result ℕ Refusal) (f : Identifier) (m : ℕ) {r : Refusal}
    → ◌≡◌ {A = Result Called Refusal} (Err r) (then_at Err e (λ j. Ok (record { callee = f; count = m; next = j })))
    → e ≡ Err r
unfolding then_at
ended-refused (Ok j) f m h = absurd (cc)
ended-refused (Err q) f m h = cc

pub called-done : (c : Calling) {d : Called} → Ok d ≡ called_of c
    → (c.arguments.end ≡ Ok d.next) × (c.callee ≡ d.callee) × (length c.arguments.list ≡ d.count)
unfolding called_of
called-done c h = ended-done c.arguments.end c.callee (length c.arguments.list) h

pub called-refused : (c : Calling) {r : Refusal} → Err r ≡ called_of c → c.arguments.end ≡ Err r
unfolding called_of
called-refused c h = ended-refused c.arguments.end c.callee (length c.arguments.list) h

called_item_lem : (used : ℕ) (i : Item) (e : Result ℕ Refusal) (arguments₀ arguments : List ℕ)
    → arguments ≡ sets arguments₀ (used * 2) (variables_cells (arguments_in i))
    → (then_at Err e (λ next.
    Ok (record { item = record_of used i; arguments = used + length (arguments_in i); next = next }))
    ≡ item_read used (then_at refused e (λ at. item i at)))
    × ItemHeld used arguments₀ arguments (then_at refused e (λ at. item i at))
unfolding then_at item_read
called_item_lem used i (Ok next) arguments₀ arguments h = (refl, h)
called_item_lem used i (Err e) arguments₀ arguments h = (refl, tt)

pub call-item : (w used : ℕ) (c : Calling) (arguments₀ arguments : List ℕ)
    → arguments ≡ sets arguments₀ (used * 2) (variables_cells c.arguments.list)
    → (call_read 5 w none 0 used c ≡ item_read used (called_item c (λ g xs. call w g xs)))
    × ItemHeld used arguments₀ arguments (called_item c (λ g xs. call w g xs))
unfolding call_read called_item record_of
call-item w used c arguments₀ arguments h =
    called_item_lem used (call w c.callee c.arguments.list) c.arguments.end arguments₀ arguments h

pub call_into-item : (w used : ℕ) (v : Variable) (t : ℕ) (c : Calling) (arguments₀ arguments : List ℕ)
    → call_record 6 w v.id t used c ≡ record_of used (call_into w v c.callee c.arguments.list)
    → arguments ≡ sets arguments₀ (used * 2) (variables_cells c.arguments.list)
    → (call_read 6 w v.id t used c ≡ item_read used (called_item c (λ g xs. call_into w v g xs)))
    × ItemHeld used arguments₀ arguments (called_item c (λ g xs. call_into w v g xs))
unfolding call_read called_item
call_into-item w used v t c arguments₀ arguments q h =
    rw q (called_item_lem used (call_into w v c.callee c.arguments.list) c.arguments.end arguments₀ arguments h)

-- What an answer says. ----------------------------------------------------------------------------------------------

pub read-refused : (used : ℕ) (d : ItemAt) {e : Refusal} → Err e ≡ item_read used d → d ≡ refused e
unfolding item_read
read-refused used (item i next) h = absurd (cc)
read-refused used (refused r) h = cc

pub record Read (used : ℕ) (r : ItemRead) (d : ItemAt) (arguments₀ arguments : List ℕ) : Type 0 where
  pub read : Item
  pub is : d ≡ item read r.next
  pub record_is : r.item ≡ record_of used read
  pub then_is : r.arguments ≡ used + length (arguments_in read)
  pub stored : arguments ≡ sets arguments₀ (used * 2) (variables_cells (arguments_in read))

pub read_done : (used : ℕ) (d : ItemAt) {r : ItemRead} (arguments₀ arguments : List ℕ)
    → Ok r ≡ item_read used d → ItemHeld used arguments₀ arguments d → Read used r d arguments₀ arguments
unfolding item_read
read_done used (item i at) arguments₀ arguments h k =
    record { read = i; is = cc; record_is = cc; then_is = cc; stored = k }
read_done used (refused r) arguments₀ arguments h k = absurd (cc)

-- What a record says of its operation. ------------------------------------------------------------------------------

operation_token_lem : (o : Operation) → (operation_record o).token ≡ operation_token o
unfolding operation_record
operation_token_lem (O.BinaryOp w v x y) = refl
operation_token_lem (O.UnaryOp w v x) = refl
operation_token_lem (O.Const w v) = refl
operation_token_lem (O.Jump w l) = refl
operation_token_lem (O.Branch w x l m) = refl
operation_token_lem (O.Ret w) = refl
operation_token_lem (O.RetValue w x) = refl
operation_token_lem (O.Print w x) = refl
operation_token_lem (O.Nop w) = refl

operation-behind : (o : Operation) → before_number (behind_kind (operation_record o).kind) ≡ behind (plain o)
unfolding operation_record behind_kind behind pick
operation-behind (O.BinaryOp w v x y) = refl
operation-behind (O.UnaryOp w v x) = refl
operation-behind (O.Const w v) = refl
operation-behind (O.Jump w l) = refl
operation-behind (O.Branch w x l m) = refl
operation-behind (O.Ret w) = refl
operation-behind (O.RetValue w x) = refl
operation-behind (O.Print w x) = refl
operation-behind (O.Nop w) = refl

record_token : (used : ℕ) (i : Item) → (record_of used i).token ≡ item_token i
unfolding record_of
record_token used (label w l) = refl
record_token used (plain o) = operation_token_lem o
record_token used (call w g xs) = refl
record_token used (call_into w v g xs) = refl

-- what the state needs of an item that is no label
record Operated (void : Bool) (used before last : ℕ) (i : Item) : Type 0 where
  kind : before_number (behind_kind (record_of used i).kind) ≡ before_next i
  same : before_next i ≡ behind i
  none : labels_of (i ∷ []) ≡ []
  one : closing void before last i ≡ i ∷ []
  token : (record_of used i).token ≡ last_next last i

operated : (void : Bool) (used before last : ℕ) (i : Item) → Operates i → Operated void used before last i
unfolding record_of behind_kind before_next behind labels_of closing last_next pick
operated void used before last (label w l) h = absurd h
operated void used before last (plain o) h =
    record { kind = operation-behind o; same = refl; none = refl; one = refl; token = operation_token_lem o }
operated void used before last (call w g xs) h = record
    { kind = refl; same = refl; none = refl; one = refl; token = refl }
operated void used before last (call_into w v g xs) h =
    record { kind = refl; same = refl; none = refl; one = refl; token = refl }

-- One turn with an operation. ---------------------------------------------------------------------------------------

module _ (ts : List Tok) (before at : ℕ) where
  pub item_refused : (e : Refusal) → item_d ts at ≡ refused e → (k : Item → ℕ → Body) → item_then ts before at k
      ≡ body_stop e
  unfolding item_then then_item
  item_refused e q k = rw q

  late : (used : ℕ) (d : ItemAt) → before ≡ 3 → (k : Item → ℕ → Body)
      → then_item body_stop d (λ i at1. pick (eqb before 3) (body_stop (refusal 12 (item_token i) 0)) (k i at1))
      ≡ body_stop (late_refusal (item_read used d))
  unfolding then_item item_read pick
  late used (item i next) h k = rw (eq-eqb before 3 h, record_token used i)
  late used (refused e) h k = refl

  pub item-late : (used : ℕ) → before ≡ 3 → (k : Item → ℕ → Body)
      → item_then ts before at k ≡ body_stop (late_refusal (item_read used (item_d ts at)))
  unfolding item_then
  item-late used h k = late used (item_d ts at) h k

  item-goes : (i : Item) (next : ℕ) → item_d ts at ≡ item i next → (before ≡ 3 → ⊥) → (k : Item → ℕ → Body)
      → item_then ts before at k ≡ k i next
  unfolding item_then then_item pick
  item-goes i next q h k = rw (q, ne_eqb before 3 h)

pub terminator_number : (b : Before) → before_number b ≡ 3 → b ≡ B.Terminator
terminator_number B.Brace h = absurd (omega (arith, h))
terminator_number B.Label h = absurd (omega (arith, h))
terminator_number B.Operation h = absurd (omega (arith, h))
terminator_number B.Terminator h = refl

pub item-taken : (ts : List Tok) (void : Bool) (s s' : Going) (i : Item) (items₀ items arguments₀ arguments : List ℕ)
    → Within ts s.at → item_d ts s.at ≡ item i s'.at → ((before_number s.before) ≡ 3 → ⊥)
    → s'.items ≡ s.items + 1 → s'.arguments ≡ s.arguments + length (arguments_in i) → s'.labels ≡ s.labels
    → s'.before ≡ behind_kind (record_of s.arguments i).kind → s'.last ≡ (record_of s.arguments i).token
    → items ≡ sets items₀ (s.items * 8) (record_cells (record_of s.arguments i))
    → arguments ≡ sets arguments₀ (s.arguments * 2) (variables_cells (arguments_in i))
    → ItemTaken ts void s s' items₀ items arguments₀ arguments
unfolding items_cells
item-taken ts void s s' i items₀ items arguments₀ arguments w q late n used labels before last p r =
    let on : ItemOn s.at w.last s'.at i = rw q at (item_in ts w.last w.ends s.at w.reached) in
    let o = operated void s.arguments (before_number s.before) s.last i on.operates in
    record {
      read = i;
      goes = item-goes ts (before_number s.before) s.at i s'.at q late;
      before_same = o.same;
      no_label = o.none;
      labels_next = labels;
      passed =
          record {
            two = on.two;
            within = record { last = w.last; ends = w.ends; reached = on.reached; few = w.few };
            arguments_few = on.arguments;
          };
      taken =
          record {
            items_next = rw o.one n;
            arguments_next = used;
            before_is = ap before_number before ∙ o.kind;
            last_is = last ∙ o.token;
            items_are = rw o.one p;
            arguments_are = r;
          };
    }
