-- Every refusal of parsing has one of document 01's numbers for check. One lemma for each step helper, then for the
-- definitions from below: their own refusals have such numbers, and those of their steps are handed on. A body's room
-- is never used up, since each item goes on by two tokens and stays before the end token.
use Rattle.std.specs.Prelude.{Err, Ok, Result}
use Prim.Native.Nat.{ℕ, zero, suc, ◌+◌, ◌≤◌, ◌<◌}
use mathlib.Core.Path.{◌≡◌, refl}
use mathlib.Core.Bool.{Bool, true, false}
use mathlib.Core.List.{List, [], ◌∷◌, ◌++◌}
use native.Mathlib.Omega.{arith}
use lib.Dec.{eqb, leb}
use Rattle.utils.specs.Bytes.{pick}
use Rattle.pieces.proofs.Progress.{pick_either}
use Rattle.pieces.specs.declared.Identifier.{Identifier}
use Rattle.lexer.specs.Decoded.{Tok, token_at}
use Rattle.lexer.specs.declared.TokenAt.{TokenAt}
use Rattle.parser.specs.Step.{refusal, look, then_at, then_named, then_type, then_defined}
use Rattle.parser.specs.Grammar.{consume_d, named_d, type_d, print_d, ret_d, jump_d, branch_d, nop_d, defined_d, const_d, unary_d}
use Rattle.parser.specs.Grammar.{binary_d, value_d, definition_d, instruction_d}
use Rattle.parser.specs.Runs.{Variables, ended, and_then, Calling, calling, formal_d, formals_from_d, formals_d, arguments_d}
use Rattle.parser.specs.Runs.{call_d}
use Rattle.parser.specs.Labels.{labelled_d}
use Rattle.body.specs.Body.{Item, ItemAt, Body, then_item, called_item, parsed_item, item_d, body_stop, body_d}
use Rattle.body.specs.Body.{after_brace, after_label, after_terminator, behind, closes}
use Rattle.link.specs.Blocks.{Block}
use Rattle.link.specs.Edges.{Place, at, nowhere, then_place, Resolved, resolve_labels, resolve_from}
use Rattle.parser.specs.declared.Refusal.{Refusal}
use Rattle.parser.specs.declared.Ty.{Ty}
use Rattle.parser.specs.declared.Variable.{Variable}
use Rattle.parser.specs.declared.Operation.{Operation}
use Rattle.parser.specs.declared.Parsed.{Parsed}
use Rattle.parser.specs.declared.Parsed.TheVariants as P
use Rattle.body.proofs.Progress.{LabelIn, ItemIn, moves, label_in, item_in}
use Rattle.body.proofs.Turning.{closes_kind}
use Rattle.functions.specs.Known.{Known, types_after}
use Rattle.functions.specs.Functions.{Header, HeaderAt, header, no_header, then_header, then_formals, then_entered}
use Rattle.functions.specs.Functions.{optional_formals, optional_type, entered_d, signature_d, header_d, BuiltAt, built}
use Rattle.functions.specs.Functions.{not_built, then_built, resolved_items, built_d, is_void, Function, FunctionAt}
use Rattle.functions.specs.Functions.{function, no_function, then_function, function_d, Program, program_stop, known_of}
use Rattle.functions.specs.Functions.{functions_d}
use Rattle.functions.proofs.HeaderOn.{HeaderIn, header_in}

-- Refusals, and answers that may be one. ----------------------------------------------------------------------------

-- `Listed` as tests, which a search can compute, without lexing's numbers; 35 stands apart
pub data Fine (e : Refusal) : Type 0 where
  low : leb 5 e.number ≡ true → leb e.number 22 ≡ true → Fine e
  high : leb 36 e.number ≡ true → leb e.number 38 ≡ true → Fine e

-- for each type of answers: found, or a refusal that is fine
pub data FineC : Result ℕ Refusal → Type 0 where
  found : (i : ℕ) → FineC (Ok i)
  refused : (e : Refusal) → Fine e → FineC (Err e)

data FineN : Result (Identifier × ℕ) Refusal → Type 0 where
  found : (x : Identifier) (i : ℕ) → FineN (Ok (x, i))
  refused : (e : Refusal) → Fine e → FineN (Err e)

data FineR : Result (Ty × ℕ) Refusal → Type 0 where
  found : (t : Ty) (i : ℕ) → FineR (Ok (t, i))
  refused : (e : Refusal) → Fine e → FineR (Err e)

data FineD : Result (Variable × ℕ) Refusal → Type 0 where
  found : (v : Variable) (i : ℕ) → FineD (Ok (v, i))
  refused : (e : Refusal) → Fine e → FineD (Err e)

data FineP : Result Parsed Refusal → Type 0 where
  done : (o : Operation) (i : ℕ) → FineP (Ok (P.Done o i))
  call : (i : ℕ) → FineP (Ok (P.Call i))
  call_into : (v : Variable) (i : ℕ) → FineP (Ok (P.CallInto v i))
  refused : (e : Refusal) → Fine e → FineP (Err e)

data FineI : ItemAt → Type 0 where
  found : (x : Item) (i : ℕ) → FineI (ItemAt.item x i)
  refused : (e : Refusal) → Fine e → FineI (ItemAt.refused e)

data FineS : Resolved → Type 0 where
  fine : FineS Resolved.fine
  refused : (e : Refusal) → Fine e → FineS (Resolved.refused e)

data FineE : Result (ℕ × ℕ) Refusal → Type 0 where
  found : (type i : ℕ) → FineE (Ok (type, i))
  refused : (e : Refusal) → Fine e → FineE (Err e)

-- 35 comes only where there are 64 functions already
data FineH (full : Bool) : HeaderAt → Type 0 where
  found : (h : Header) (i : ℕ) → FineH full (header h i)
  refused : (e : Refusal) → Fine e → FineH full (no_header e)
  many : full ≡ true → (at : ℕ) → FineH full (no_header (refusal 35 at 0))

-- all functions
pub data FineEnd : Result ℕ Refusal → Type 0 where
  found : (i : ℕ) → FineEnd (Ok i)
  refused : (e : Refusal) → Fine e → FineEnd (Err e)
  many : (e : Refusal) → e.number ≡ 35 → FineEnd (Err e)

-- An answer of which T holds; a family of its own, so that a search can read T off.
pub data Is {A : Type 0} (T : A → Type 0) (x : A) : Type 0 where
  so : T x → Is T x

abbrev FineVs : Variables → Type 0
FineVs r = Is FineC r.end

abbrev FineCalling : Calling → Type 0
FineCalling c = FineVs c.arguments

-- Steps. ------------------------------------------------------------------------------------------------------------

module _ {A : Type 0} (T : A → Type 0) where
  pub pick_f : (q : Bool) (x y : A) → Is T x → Is T y → Is T (pick q x y)
  unfolding pick
  pick_f true x y f g = f
  pick_f false x y f g = g

  look_f : (t : TokenAt) (k : ℕ → ℕ → A) → ((kind next : ℕ) → Is T (k kind next)) → Is T (look t k)
  unfolding look
  look_f t k g = g t.kind t.next

  place_f : (p : Place) (k : ℕ → A) (none : A) → ((i : ℕ) → Is T (k i)) → Is T none → Is T (then_place p k none)
  unfolding then_place
  place_f (at i) k none g h = g i
  place_f nowhere k none g h = h

  module _ (f : Refusal → A) where
    then_at_f : {c : Result ℕ Refusal} (k : ℕ → A) → Is FineC c → ((e : Refusal) → Fine e → Is T (f e))
        → ((i : ℕ) → Is T (k i))
        → Is T (then_at f c k)
    unfolding then_at
    then_at_f k (Is.so (FineC.found i)) w g = g i
    then_at_f k (Is.so (FineC.refused e h)) w g = w e h

    then_named_f : {c : Result (Identifier × ℕ) Refusal} (k : Identifier → ℕ → A) → Is FineN c
        → ((e : Refusal) → Fine e → Is T (f e))
        → ((x : Identifier) (i : ℕ) → Is T (k x i)) → Is T (then_named f c k)
    unfolding then_named
    then_named_f k (Is.so (FineN.found x i)) w g = g x i
    then_named_f k (Is.so (FineN.refused e h)) w g = w e h

    then_type_f : {c : Result (Ty × ℕ) Refusal} (k : Ty → ℕ → A) → Is FineR c → ((e : Refusal) → Fine e → Is T (f e))
        → ((t : Ty) (i : ℕ) → Is T (k t i)) → Is T (then_type f c k)
    unfolding then_type
    then_type_f k (Is.so (FineR.found t i)) w g = g t i
    then_type_f k (Is.so (FineR.refused e h)) w g = w e h

    then_defined_f : {c : Result (Variable × ℕ) Refusal} (k : Variable → ℕ → A) → Is FineD c
        → ((e : Refusal) → Fine e → Is T (f e))
        → ((v : Variable) (i : ℕ) → Is T (k v i)) → Is T (then_defined f c k)
    unfolding then_defined
    then_defined_f k (Is.so (FineD.found v i)) w g = g v i
    then_defined_f k (Is.so (FineD.refused e h)) w g = w e h

    then_formals_f : {r : Variables} (k : List Variable → ℕ → A) → Is FineVs r → ((e : Refusal) → Fine e → Is T (f e))
        → ((vs : List Variable) (i : ℕ) → Is T (k vs i)) → Is T (then_formals f r k)
    unfolding then_formals
    then_formals_f {r} k (Is.so h) w g = then_at_f (λ i. k r.list i) h w (λ i. g r.list i)

    then_entered_f : {c : Result (ℕ × ℕ) Refusal} (k : ℕ → ℕ → A) → Is FineE c → ((e : Refusal) → Fine e → Is T (f e))
        → ((type i : ℕ) → Is T (k type i)) → Is T (then_entered f c k)
    unfolding then_entered
    then_entered_f k (Is.so (FineE.found type i)) w g = g type i
    then_entered_f k (Is.so (FineE.refused e h)) w g = w e h

ruleset numbers = (Is.so, Fine.low, Fine.high)

ruleset followed = (pick_f, look_f, place_f, then_at_f, then_named_f, then_type_f, then_defined_f, then_formals_f, then_entered_f)

ruleset founds = (FineC.found, FineN.found, FineR.found, FineD.found, FineI.found, FineE.found, FineH.found, FineS.fine)

ruleset parsed = (FineP.done, FineP.call, FineP.call_into, FineP.refused)

ruleset refusals = (FineC.refused, FineN.refused, FineR.refused, FineD.refused, FineI.refused, FineE.refused)

ruleset shapes = (numbers, followed, founds, parsed, refusals, FineH.refused, FineS.refused)

ended_f : (c : Result ℕ Refusal) → Is FineC c → Is FineVs (ended c)
ended_f c h = Is.so h

and_then_f : (v : Variable) (r : Variables) → Is FineVs r → Is FineVs (and_then v r)
and_then_f v r (Is.so h) = Is.so h

calling_f : (g : Identifier) (r : Variables) → Is FineVs r → Is FineCalling (calling g r)
calling_f g r (Is.so h) = Is.so h

-- Parsing. ----------------------------------------------------------------------------------------------------------

module _ (ts : List Tok) where
  consume_f : (i kind : ℕ) → Is FineC (consume_d ts i kind)
  unfolding consume_d
  consume_f i kind = search shapes depth 14

  named_f : (i kind number : ℕ) → leb 5 number ≡ true → leb number 22 ≡ true → Is FineN (named_d ts i kind number)
  unfolding named_d
  named_f i kind number h g = search shapes depth 14

  type_f : (i : ℕ) → Is FineR (type_d ts i)
  unfolding type_d
  type_f i = search shapes depth 14

  ruleset steps = (shapes, ended_f, and_then_f, calling_f, consume_f, named_f, type_f)

  value_f : (v : Variable) (i : ℕ) → Is FineP (value_d ts v i)
  unfolding value_d const_d unary_d binary_d
  value_f v i = search steps depth 24

  instruction_f : (i : ℕ) → Is FineP (instruction_d ts i)
  unfolding instruction_d print_d ret_d jump_d branch_d nop_d definition_d defined_d
  instruction_f i = search (steps, value_f) depth 24

  formals_from_f : (room i : ℕ) → Is FineVs (formals_from_d ts room i)
  unfolding formals_from_d formal_d
  formals_from_f zero i = search steps depth 20
  formals_from_f (suc room) i = search (steps, formals_from_f room) depth 20

  arguments_f : (room i : ℕ) → Is FineVs (arguments_d ts room i)
  unfolding arguments_d
  arguments_f zero i = search steps depth 14
  arguments_f (suc room) i = search (steps, arguments_f room) depth 16

  call_f : (w : ℕ) → Is FineCalling (call_d ts w)
  unfolding call_d
  call_f w = search (steps, arguments_f) depth 16

  labelled_f : (labels : List ℕ) (i : ℕ) → Is FineN (labelled_d ts labels i)
  unfolding labelled_d
  labelled_f labels i = search steps depth 16

  -- a call with its arguments, any operation
  called_f : {c : Calling} (make : Identifier → List Variable → Item) → Is FineCalling c → Is FineI (called_item c make)
  unfolding called_item
  called_f make (Is.so h) = search shapes depth 14

  parsed_f : {p : Result Parsed Refusal} → Is FineP p → Is FineI (parsed_item ts p)
  unfolding parsed_item
  parsed_f (Is.so (FineP.done o i)) = search shapes
  parsed_f (Is.so (FineP.call w)) = search (call_f, called_f)
  parsed_f (Is.so (FineP.call_into v w)) = search (call_f, called_f)
  parsed_f (Is.so (FineP.refused e h)) = search shapes

  item_f : (i : ℕ) → Is FineI (item_d ts i)
  unfolding item_d
  item_f i = parsed_f (instruction_f i)

  signature_f : (full : Bool) (known : List Known) (types token : ℕ) (name : Identifier) (i : ℕ)
      → Is (FineH full) (signature_d ts known types token name i)
  unfolding signature_d optional_formals formals_d optional_type entered_d
  signature_f full known types token name i = search (steps, formals_from_f) depth 24

  header_f : (full : Bool) (known : List Known) (types i : ℕ) → Is (FineH full) (header_d ts full known types i)
  unfolding header_d pick
  header_f true known types i = search (steps, FineH.many) depth 14
  header_f false known types i = search (steps, signature_f) depth 14

-- Labels. -----------------------------------------------------------------------------------------------------------

resolve_labels_f : (all : List Block) (token : ℕ) (ls : List ℕ) (rest : Resolved) → Is FineS rest
    → Is FineS (resolve_labels all token ls rest)
unfolding resolve_labels
resolve_labels_f all token [] rest h = h
resolve_labels_f all token (l ∷ ls) rest h = search (shapes, resolve_labels_f all token ls rest) depth 14

resolve_f : (all : List Block) (name : ℕ) (bs : List Block) → Is FineS (resolve_from all name bs)
unfolding resolve_from
resolve_f all name [] = search shapes
resolve_f all name (b ∷ bs) = search (shapes, resolve_labels_f, resolve_f all name bs) depth 14

-- Bodies and functions: their refusals, and where they end. ---------------------------------------------------------

module _ (ts : List Tok) (last : ℕ) (ends : (token_at ts last).kind ≡ 38) where
  data EndOn : Result ℕ Refusal → Type 0 where
    found : (i : ℕ) → i ≤ last → EndOn (Ok i)
    refused : (e : Refusal) → Fine e → EndOn (Err e)

  data BuiltOn : BuiltAt → Type 0 where
    found : (items : List Item) (i : ℕ) → i ≤ last → BuiltOn (built items i)
    refused : (e : Refusal) → Fine e → BuiltOn (not_built e)

  pub data FunctionOn (full : Bool) : FunctionAt → Type 0 where
    found : (f : Function) → f.next ≤ last → FunctionOn full (function f)
    refused : (e : Refusal) → Fine e → FunctionOn full (no_function e)
    many : full ≡ true → (e : Refusal) → e.number ≡ 35 → FunctionOn full (no_function e)

  -- what follows a label, an item
  after_label_lem : (i n : ℕ) {x : Result (Identifier × ℕ) Refusal} (k : Identifier → ℕ → Body) → Is FineN x
      → LabelIn i last n x
      → ((l : Identifier) (next : ℕ) → i + 2 ≤ next → next ≤ last → EndOn (k l next).end)
      → EndOn (then_named body_stop x k).end
  unfolding then_named
  after_label_lem i n k (Is.so (FineN.found l next)) h g = g l next h.0 h.1
  after_label_lem i n k (Is.so (FineN.refused e f)) h g = EndOn.refused e f

  after_item : (i : ℕ) {x : ItemAt} (k : Item → ℕ → Body) → Is FineI x → ItemIn i last x
      → ((y : Item) (next : ℕ) → i + 2 ≤ next → next ≤ last → EndOn (k y next).end)
      → EndOn (then_item body_stop x k).end
  unfolding then_item
  after_item i k (Is.so (FineI.found y next)) h g = g y next h.two h.reached
  after_item i k (Is.so (FineI.refused e f)) h g = EndOn.refused e f

  body_on : (room : ℕ) (labels : List ℕ) (before i : ℕ) → i ≤ last → last < room + i
      → EndOn (body_d ts room labels before i).end
  unfolding body_d look
  body_on zero labels before i h l = absurd (omega arith)
  body_on (suc room) labels before i h l =
      pick_either (λ (r : Body). EndOn r.end) (closes before (token_at ts i).kind) _ _
      (λ t. let m = moves ts last ends i h (λ z. omega (arith, z, closes_kind before _ t)) in rw m.0
      (EndOn.found (i + 1) m.1))
      (λ t.
      pick_either (λ (r : Body). EndOn r.end) (eqb (token_at ts i).kind 3) _ _
      (λ u.
      after_label_lem i _ _ (labelled_f ts labels i) (label_in ts last ends labels i h) (λ x next a b.
      body_on room (labels ++ (x.0 ∷ [])) after_label next b (omega arith)))
      (λ u.
      after_item i _ (item_f ts i) (item_in ts last ends i h) (λ x next a b.
      pick_either (λ (r : Body). EndOn r.end) (eqb before after_terminator) _ _
      (λ v. EndOn.refused _ (Fine.low refl refl)) (λ v. body_on room labels (behind x) next b (omega arith)))))

  resolved_on : (items : List Item) (i : ℕ) {x : Resolved} → i ≤ last → Is FineS x → BuiltOn (resolved_items items i x)
  resolved_on items i h (Is.so FineS.fine) = BuiltOn.found items i h
  resolved_on items i h (Is.so (FineS.refused e f)) = BuiltOn.refused e f

  after_body : {c : Result ℕ Refusal} (k : ℕ → BuiltAt) → EndOn c → ((i : ℕ) → i ≤ last → BuiltOn (k i))
      → BuiltOn (then_at not_built c k)
  unfolding then_at
  after_body k (EndOn.found i h) g = g i h
  after_body k (EndOn.refused e f) g = BuiltOn.refused e f

  module _ (few : last ≤ 4095) where
    built-on : (void : Bool) (name i : ℕ) → i ≤ last → BuiltOn (built_d ts void name i)
    unfolding built_d
    built-on void name i h =
        after_body _ (body_on 4096 [] after_brace i h (omega arith)) (λ next l.
        resolved_on _ next l (resolve_f _ name _))

    module _ {full : Bool} where
      after_built : {x : BuiltAt} (k : List Item → ℕ → FunctionAt) → BuiltOn x
          → ((items : List Item) (i : ℕ) → i ≤ last → FunctionOn full (k items i))
          → FunctionOn full (then_built no_function x k)
      unfolding then_built
      after_built k (BuiltOn.found items i h) g = g items i h
      after_built k (BuiltOn.refused e f) g = FunctionOn.refused e f

      after_header : (i : ℕ) {x : HeaderAt} (k : Header → ℕ → FunctionAt) → Is (FineH full) x → HeaderIn i last x
          → ((h : Header) (next : ℕ) → next ≤ last → FunctionOn full (k h next))
          → FunctionOn full (then_header no_function x k)
      unfolding then_header
      after_header i k (Is.so (FineH.found h next)) l g = g h next l.1
      after_header i k (Is.so (FineH.refused e f)) l g = FunctionOn.refused e f
      after_header i k (Is.so (FineH.many f token)) l g = FunctionOn.many f (refusal 35 token 0) refl

      after_function : {x : FunctionAt} (k : Function → Program) → FunctionOn full x
          → ((f : Function) → f.next ≤ last → FineEnd (k f).end) → FineEnd (then_function program_stop x k).end
      unfolding then_function
      after_function k (FunctionOn.found f h) g = g f h
      after_function k (FunctionOn.refused e h) g = FineEnd.refused e h
      after_function k (FunctionOn.many f e h) g = FineEnd.many e h

    pub function-on : (full : Bool) (known : List Known) (types i : ℕ) → i ≤ last
        → FunctionOn full (function_d ts full known types i)
    unfolding function_d
    function-on full known types i h =
        after_header i _ (header_f ts full known types i) (header_in ts last ends full known types i h) (λ head next l.
        after_built _ (built-on (is_void head.ret) i next l) (λ items m g. FunctionOn.found _ g))

    pub functions-fine : (room : ℕ) (known : List Known) (types i : ℕ) → i ≤ last
        → FineEnd (functions_d ts room known types i).end
    unfolding functions_d look
    functions-fine zero known types i h =
        pick_either (λ (u : Program). FineEnd u.end) (eqb (token_at ts i).kind 38) _ _ (λ t. FineEnd.found i) (λ t.
        after_function _ (function-on true known types i h) (λ f l. FineEnd.many _ refl))
    functions-fine (suc room) known types i h =
        pick_either (λ (u : Program). FineEnd u.end) (eqb (token_at ts i).kind 38) _ _ (λ t. FineEnd.found i) (λ t.
        after_function _ (function-on false known types i h) (λ f l.
        functions-fine room (known ++ (known_of f.head ∷ [])) (types_after types f.head.type) f.next l))
