-- A header table that `check` wrote is inside the ranges of specs/Header.antt.
use Rattle.std.specs.Prelude.{Err, Ok, Result}
use Rattle.parser.specs.declared.Refusal.{Refusal}
use Prim.Native.Nat.{ℕ, zero, suc, ◌+◌, ◌*◌, ◌-◌, ◌≤◌, ◌<◌}
use mathlib.Core.Path.{◌≡◌, refl, sym, ap, subst, ◌∙◌}
use mathlib.Core.Bool.{Bool, true, false}
use mathlib.Core.List.{List, [], ◌∷◌, ◌++◌, append-nil}
use native.Mathlib.Omega.{arith}
use borrow.Author.Tests.{ltb-true, ltb-false, le-ltb, eqb-true}
use lib.Dec.{eqb, ltb}
use lib.ListN.{length, get_or, take, drop, replicate, length-append, length-drop}
use lib.Seq.{slice, length-slice}
use Rattle.utils.specs.Bytes.{pick, pad_to}
use Rattle.pieces.specs.declared.Token.{Token}
use Rattle.lexer.specs.Numbered.{Part, tokens_cells, names_cells}
use Rattle.lexer.specs.Sound.{Sound, no_token, no_part}
use Rattle.pieces.specs.Tokens.{kind_of, carried}
use Rattle.lexer.specs.Decoded.{Tok, tokens_of, is_name, name_in, with_next, token_at}
use Rattle.lexer.specs.declared.TokenAt.{TokenAt}
use Rattle.lexer.proofs.Cells.{tok_of, length-tokens_cells, cells-token_at, names_cell}
use Rattle.lexer.proofs.Records.{tokens-count}
use Rattle.pieces.specs.declared.Identifier.{Identifier}
use Rattle.parser.specs.Step.{refusal, look, then_at, then_named, then_type, then_defined}
use Rattle.parser.specs.Grammar.{consume_d, named_d, global_d, local_d, type_d}
use Rattle.body.specs.Body.{Item, after_brace, closed_items}
use Rattle.body.specs.Shapes.{shapes_of, names_in}
use Rattle.link.specs.Edges.{Resolved, resolve_d, fine, refused as unresolved}
use Rattle.body.proofs.BodyLaws.{labels_few, names-closed}
use Rattle.link.proofs.Laws.{at_least_1, at_most_256}
use Rattle.body.specs.Answer.{function_body}
use Rattle.parser.specs.Runs.{Variables, stopped, ended, variable, type_cell, variables_cells, formal_d, formals_from_d}
use Rattle.parser.specs.Runs.{formals_d}
use Rattle.parser.specs.declared.Ty.{Ty}
use Rattle.parser.specs.declared.Ty.TheVariants as Y
use Rattle.parser.specs.declared.Variable.{Variable}
use Rattle.functions.specs.Known.{Known, signature, types_after}
use Rattle.functions.specs.Functions.{Header, HeaderAt, header, no_header, then_header, then_formals, then_entered}
use Rattle.functions.specs.Functions.{optional_formals}
use Rattle.functions.specs.Functions.{optional_type, entered_d, signature_d, header_d, BuiltAt, built, not_built}
use Rattle.functions.specs.Functions.{then_built, built_d, blocks_in, resolved_items}
use Rattle.functions.specs.Functions.{is_void, Function, FunctionAt, function, no_function, then_function, function_d}
use Rattle.functions.specs.Functions.{functions_d, program_d, Program, program_end, program_stop, known_of}
use Rattle.functions.specs.Columns.{row_at, formals_at, block_count_at, place_at, length_at, line_at, formal_type_at}
use Rattle.functions.specs.Rows.{row_cells}
use Rattle.functions.specs.Answer.{counts_with, Slices}
use Rattle.functions.specs.Laid.{rows_cells}
use Rattle.functions.specs.declared.Counts.{Counts}
use Rattle.functions.proofs.Types.{TypesFew, more-types, types_after_up, function-type-few}
use Rattle.functions.proofs.Standing.{cell_there, rest_there, row-ret, row_type, row_count, row-formals, row_stands}
use Rattle.functions.proofs.Standing.{rows_behind}
use Rattle.lexer.specs.Read.{read_from, read_of}
use Rattle.sema.specs.Program.{type_program_d as typed_d}
use Rattle.unit.specs.Outcome.{UnitOutcome, checked, refused, after_typing, after_parsing, untyped, unit_d, none}
use Rattle.checker.specs.Check.{checked_or, check_of}
use Rattle.checker.specs.declared.CheckAnswer.{CheckAnswer}
use Rattle.checker.specs.Promise.{Lexed, all_sized, check_def, Checks}
use Rattle.checker.proofs.Lexed.{is-done, tokens_unpadded, read_names, lexed_itself}
use Rattle.headers.specs.Ranges.{Between, RowInRange, TableInRange}

-- Types. ------------------------------------------------------------------------------------------------------------

abbrev Good : Ty → Type 0
Good t = (1 ≤ type_cell t) × (type_cell t ≤ 2)

abbrev GoodRead : Result (Ty × ℕ) Refusal → Type 0
GoodRead (Ok (t, i)) = Good t
GoodRead (Err e) = Unit

type-good : (ts : List Tok) (at : ℕ) → GoodRead (type_d ts at)
unfolding type_d look pick
type-good ts at = by (eqb (token_at ts at).kind 32) (eqb (token_at ts at).kind 33)
  where
    by : (b d : Bool)
        → GoodRead (pick b (Ok (Y.Int, (token_at ts at).next))
        (pick d (Ok (Y.Bool, (token_at ts at).next)) (Err (refusal 9 at 0))))
    by true d = (omega arith, omega arith)
    by false true = (omega arith, omega arith)
    by false false = tt

abbrev GoodRet : Ty → Type 0
GoodRet t = (1 ≤ type_cell t) × (type_cell t ≤ 3)

abbrev GoodRetRead : Result (Ty × ℕ) Refusal → Type 0
GoodRetRead (Ok (t, i)) = GoodRet t
GoodRetRead (Err e) = Unit

wider : (x : Result (Ty × ℕ) Refusal) → GoodRead x → GoodRetRead x
wider (Ok (t, i)) h = (h.0, omega (arith, h.1))
wider (Err e) h = tt

ret-good : (ts : List Tok) (at : ℕ) → GoodRetRead (optional_type ts at)
unfolding optional_type look pick
ret-good ts at = by (eqb (token_at ts at).kind 29)
  where
    by : (b : Bool) → GoodRetRead (pick b (type_d ts (token_at ts at).next) (Ok (Y.Void, at)))
    by true = wider (type_d ts (token_at ts at).next) (type-good ts (token_at ts at).next)
    by false = (omega arith, omega arith)

-- Formals. ----------------------------------------------------------------------------------------------------------

abbrev GoodFormals : List Variable → Type 0
GoodFormals [] = Unit
GoodFormals (v ∷ vs) = Good v.ty × GoodFormals vs

abbrev GoodDefined : Result (Variable × ℕ) Refusal → Type 0
GoodDefined (Ok (v, i)) = Good v.ty
GoodDefined (Err e) = Unit

formal_good : (ts : List Tok) (full : Bool) (at : ℕ) → GoodDefined (formal_d ts full at)
unfolding formal_d then_named then_at then_type pick
formal_good ts full at = named (local_d ts at) full
  where
    typed : (x : Identifier) (t : Result (Ty × ℕ) Refusal) → GoodRead t → GoodDefined
        (then_type Err t (λ y at3. Ok (variable x y, at3)))
    typed x (Ok (y, at3)) h = h
    typed x (Err e) h = tt

    colon : (x : Identifier) (k : Result ℕ Refusal)
        → GoodDefined (then_at Err k (λ at2. then_type Err (type_d ts at2) (λ y at3. Ok (variable x y, at3))))
    colon x (Ok at2) = typed x (type_d ts at2) (type-good ts at2)
    colon x (Err e) = tt

    named : (n : Result (Identifier × ℕ) Refusal) (b : Bool)
        → GoodDefined (then_named Err n (λ x at1.
        pick b (Err (refusal 36 at 0))
        (then_at Err (consume_d ts at1 29) (λ at2. then_type Err (type_d ts at2) (λ y at3. Ok (variable x y, at3))))))
    named (Ok (x, at1)) true = tt
    named (Ok (x, at1)) false = colon x (consume_d ts at1 29)
    named (Err e) b = tt

-- what follows a formal
after_formal : (d : Result (Variable × ℕ) Refusal) (k : Variable → ℕ → Variables) → GoodDefined d
    → ((v : Variable) (i : ℕ) → Good v.ty → GoodFormals (k v i).list) → GoodFormals (then_defined stopped d k).list
unfolding then_defined
after_formal (Ok (v, i)) k h g = g v i h
after_formal (Err e) k h g = tt

picked : (b : Bool) (x y : Variables) → GoodFormals x.list → GoodFormals y.list → GoodFormals (pick b x y).list
unfolding pick
picked true x y h g = h
picked false x y h g = g

formals-good : (ts : List Tok) (room at : ℕ) → GoodFormals (formals_from_d ts room at).list
unfolding formals_from_d look
formals-good ts zero at = after_formal (formal_d ts true at) _ (formal_good ts true at) (λ v i h. tt)
formals-good ts (suc room) at =
    after_formal (formal_d ts false at) _ (formal_good ts false at) (λ v i h. (
      h,
      picked (eqb (token_at ts i).kind 31) (formals_from_d ts room (token_at ts i).next) (ended (consume_d ts i 26))
          (formals-good ts room (token_at ts i).next) tt,
    ))

-- at most sixteen
after_few : (d : Result (Variable × ℕ) Refusal) (k : Variable → ℕ → Variables) (most : ℕ)
    → ((v : Variable) (i : ℕ) → length (k v i).list ≤ most) → length (then_defined stopped d k).list ≤ most
unfolding then_defined
after_few (Ok (v, i)) k most g = g v i
after_few (Err e) k most g = omega arith

picked_few : (b : Bool) (x y : Variables) (most : ℕ) → length x.list ≤ most → length y.list ≤ most
    → length (pick b x y).list ≤ most
unfolding pick
picked_few true x y most h g = h
picked_few false x y most h g = g

formals_few : (ts : List Tok) (room at : ℕ) → length (formals_from_d ts room at).list ≤ room
unfolding formals_from_d look
formals_few ts zero at = after_few (formal_d ts true at) _ 0 (λ v i. omega arith)
formals_few ts (suc room) at =
    after_few (formal_d ts false at) _ (suc room) (λ v i.
    omega (
      arith,
      picked_few (eqb (token_at ts i).kind 31) (formals_from_d ts room (token_at ts i).next) (ended (consume_d ts i 26))
          room
          (formals_few ts room (token_at ts i).next) (omega arith),
    ))

optional_few : (ts : List Tok) (at : ℕ) → length (optional_formals ts at).list ≤ 16
unfolding optional_formals formals_d look
optional_few ts at =
    picked_few (eqb (token_at ts at).kind 25) _ (ended (Ok at)) 16
    (picked_few (eqb (token_at ts (token_at ts at).next).kind 26)
    (ended (Ok (token_at ts (token_at ts at).next).next))
    (formals_from_d ts 16 (token_at ts at).next) 16 (omega arith) (formals_few ts 16 (token_at ts at).next)) (omega arith)

optional_good : (ts : List Tok) (at : ℕ) → GoodFormals (optional_formals ts at).list
unfolding optional_formals formals_d look
optional_good ts at =
    picked (eqb (token_at ts at).kind 25) _ (ended (Ok at))
    (picked (eqb (token_at ts (token_at ts at).next).kind 26) (ended (Ok (token_at ts (token_at ts at).next).next))
    (formals_from_d ts 16 (token_at ts at).next) tt (formals-good ts 16 (token_at ts at).next)) tt

-- Headers and functions. --------------------------------------------------------------------------------------------

-- the global at this token
abbrev IsGlobal : List Tok → ℕ → Identifier → Type 0
IsGlobal ts at g = ((token_at ts at).kind ≡ 2) × (g.0 ≡ (token_at ts at).name.0)

abbrev GoodNamed : List Tok → ℕ → Result (Identifier × ℕ) Refusal → Type 0
GoodNamed ts at (Ok (g, i)) = IsGlobal ts at g
GoodNamed ts at (Err e) = Unit

global-good : (ts : List Tok) (at : ℕ) → GoodNamed ts at (global_d ts at)
unfolding named_d pick
global-good ts at = by (eqb (token_at ts at).kind 2) refl
  where
    by : (b : Bool) → eqb (token_at ts at).kind 2 ≡ b
        → GoodNamed ts at
        (pick b (Ok ((token_at ts at).name, (token_at ts at).next)) (Err (refusal 7 at 0)))
    by true e = (eqb-true _ _ e, refl)
    by false e = tt

-- a header whose name stands at this token
pub record GoodHeader (ts : List Tok) (at : ℕ) (h : Header) : Type 0 where
  pub global : IsGlobal ts at h.name
  pub ret : GoodRet h.ret
  pub types : GoodFormals h.formals
  pub few : length h.formals ≤ 16

abbrev GoodHeaderAt : List Tok → ℕ → HeaderAt → Type 0
GoodHeaderAt ts at (header h i) = GoodHeader ts at h
GoodHeaderAt ts at (no_header e) = Unit

header-good : (ts : List Tok) (full : Bool) (known : List Known) (types at : ℕ)
    → GoodHeaderAt ts at (header_d ts full known types at)
unfolding header_d signature_d then_named then_formals then_type then_at then_entered pick
header-good ts full known types at = named (global_d ts at) full (global-good ts at)
  where
    entered : (g : Identifier) (vs : List Variable) (ret : Ty) (x : Result (ℕ × ℕ) Refusal) → IsGlobal ts at g
        → GoodRet ret
        → GoodFormals vs
        → length vs ≤ 16
        → GoodHeaderAt ts at
        (then_entered no_header x (λ type i. header (record { name = g; formals = vs; ret = ret; type = type }) i))
    entered g vs ret (Ok (type, i)) n h k l = record { global = n; ret = h; types = k; few = l }
    entered g vs ret (Err e) n h k l = tt

    typed : (g : Identifier) (vs : List Variable) (x : Result (Ty × ℕ) Refusal) → IsGlobal ts at g → GoodRetRead x
        → GoodFormals vs
        → length vs ≤ 16
        → GoodHeaderAt ts at (then_type no_header x (λ ret at2.
        then_entered no_header (entered_d ts known types at g (signature ret vs) at2) (λ type i.
        header (record { name = g; formals = vs; ret = ret; type = type }) i)))
    typed g vs (Ok (ret, at2)) n h k l = entered g vs ret (entered_d ts known types at g (signature ret vs) at2) n h k l
    typed g vs (Err e) n h k l = tt

    formals : (g : Identifier) (vs : List Variable) (x : Result ℕ Refusal) → IsGlobal ts at g → GoodFormals vs
        → length vs ≤ 16
        → GoodHeaderAt ts at (then_at no_header x (λ at2. then_type no_header (optional_type ts at2) (λ ret at3.
        then_entered no_header (entered_d ts known types at g (signature ret vs) at3) (λ type i.
        header (record { name = g; formals = vs; ret = ret; type = type }) i))))
    formals g vs (Ok at2) n k l = typed g vs (optional_type ts at2) n (ret-good ts at2) k l
    formals g vs (Err e) n k l = tt

    named : (x : Result (Identifier × ℕ) Refusal) (b : Bool) → GoodNamed ts at x
        → GoodHeaderAt ts at
        (then_named no_header x (λ g at1. pick b (no_header (refusal 35 at 0)) (signature_d ts known types at g at1)))
    named (Ok (g, at1)) true n = tt
    named (Ok (g, at1)) false n =
        formals g (optional_formals ts at1).list (optional_formals ts at1).end n (optional_good ts at1)
        (optional_few ts at1)
    named (Err e) b n = tt

-- 1 to 256 blocks
abbrev GoodBlocks : List Item → Type 0
GoodBlocks is = Between 1 256 (length (blocks_in is))

abbrev GoodBuilt : BuiltAt → Type 0
GoodBuilt (built is i) = GoodBlocks is
GoodBuilt (not_built e) = Unit

closed-blocks : (ts : List Tok) (void : Bool) (at : ℕ) → GoodBlocks (closed_items void (function_body ts at).items)
closed-blocks ts void at =
    let is = (function_body ts at).items in
    let ps = shapes_of (closed_items void is) in
    let few : length (names_in ps) ≤ 255 =
    omega (arith, ap length (names-closed void 0 0 is), labels_few ts 4096 after_brace at) in
    (at_least_1 ps, at_most_256 ps few)

built-good : (ts : List Tok) (void : Bool) (name at : ℕ) → GoodBuilt (built_d ts void name at)
unfolding built_d then_at
built-good ts void name at = ended_at_lem (function_body ts at).end
  where
    is : List Item
    is = closed_items void (function_body ts at).items

    resolved : (next : ℕ) (r : Resolved) → GoodBuilt (resolved_items is next r)
    resolved next fine = closed-blocks ts void at
    resolved next (unresolved e) = tt

    ended_at_lem : (x : Result ℕ Refusal) → GoodBuilt (then_at not_built x (λ next. resolved_items is next
        (resolve_d name (blocks_in is))))
    ended_at_lem (Ok next) = resolved next (resolve_d name (blocks_in is))
    ended_at_lem (Err e) = tt

abbrev GoodFunction : List Tok → Function → Type 0
GoodFunction ts f = GoodHeader ts f.token f.head × GoodBlocks f.items

abbrev GoodFunctionAt : List Tok → FunctionAt → Type 0
GoodFunctionAt ts (function f) = GoodFunction ts f
GoodFunctionAt ts (no_function e) = Unit

function-good : (ts : List Tok) (full : Bool) (known : List Known) (types at : ℕ)
    → GoodFunctionAt ts (function_d ts full known types at)
unfolding function_d then_header then_built
function-good ts full known types at = headed (header_d ts full known types at) (header-good ts full known types at)
  where
    bodied : (h : Header) (x : BuiltAt) → GoodHeader ts at h → GoodBuilt x
        → GoodFunctionAt ts (then_built no_function x (λ is i. function (record {
          token = at;
          head = h;
          items =
              is;
          next = i;
        })))
    bodied h (built is i) g b = (g, b)
    bodied h (not_built e) g b = tt

    headed : (x : HeaderAt) → GoodHeaderAt ts at x
        → GoodFunctionAt ts (then_header no_function x (λ h at1. then_built no_function (built_d ts (is_void h.ret) at
        at1) (λ is i.
        function (record { token = at; head = h; items = is; next = i }))))
    headed (header h at1) g = bodied h (built_d ts (is_void h.ret) at at1) g (built-good ts (is_void h.ret) at at1)
    headed (no_header e) g = tt

abbrev GoodFunctions : List Tok → List Function → Type 0
GoodFunctions ts [] = Unit
GoodFunctions ts (f ∷ fs) = (GoodFunction ts f × (f.head.type < 64)) × GoodFunctions ts fs

-- these functions, at most so many
abbrev GoodProgram : List Tok → ℕ → Program → Type 0
GoodProgram ts most u = GoodFunctions ts u.functions × (length u.functions ≤ most)

picked_program : (ts : List Tok) (b : Bool) (x y : Program) (most : ℕ) → GoodProgram ts most x → GoodProgram ts most y
    → GoodProgram ts most (pick b x y)
unfolding pick
picked_program ts true x y most h g = h
picked_program ts false x y most h g = g

after_function : (ts : List Tok) (x : FunctionAt) (k : Function → Program) (most : ℕ) → GoodFunctionAt ts x
    → ((f : Function) → x ≡ function f → GoodFunction ts f → GoodProgram ts most (k f))
    → GoodProgram ts most (then_function program_stop x k)
unfolding then_function
after_function ts (function f) k most h g = g f refl h
after_function ts (no_function e) k most h g = (tt, omega arith)

types_grow : (types type : ℕ) → types_after types type ≤ types + 1
unfolding types_after pick
types_grow types type = by (eqb type types)
  where
    by : (b : Bool) → pick b (types + 1) types ≤ types + 1
    by true = omega arith
    by false = omega arith

functions-good : (ts : List Tok) (room : ℕ) (known : List Known) (types at : ℕ) → TypesFew types known → types + room
    ≤ 64
    → GoodProgram ts room (functions_d ts room known types at)
unfolding functions_d look
functions-good ts zero known types at w l =
    picked_program ts (eqb (token_at ts at).kind 38) (program_end (Ok at)) _ 0 (tt, omega arith)
    (after_function ts (function_d ts true known types at) _ 0 (function-good ts true known types at)
    (λ f e h. (tt, omega arith)))
functions-good ts (suc room) known types at w l =
    picked_program ts (eqb (token_at ts at).kind 38) (program_end (Ok at)) _ (suc room) (tt, omega arith)
    (after_function ts (function_d ts false known types at) _ (suc room) (function-good ts false known types at)
    (λ f e h.
    let few = function-type-few ts known types w false at e in
    let grow = types_grow types f.head.type in
    let up = types_after_up types f.head.type in
    let more = functions-good ts room (known ++ (known_of f.head ∷ [])) (types_after types f.head.type) f.next
    (more-types types (types_after types f.head.type) known (known_of f.head) up (omega (arith, few, up)) w)
    (omega (arith, grow)) in
    (((h, omega (arith, few)), more.0), omega (arith, more.1))))

program_good : (ts : List Tok) → GoodProgram ts 64 (program_d ts)
program_good ts = functions-good ts 64 [] 0 0 tt (omega arith)

-- Names, places and lines. -----------------------------------------------------------------------------------------

take_within : (k : ℕ) (l : List ℕ) → length (take k l) ≤ length l
take_within zero l = omega arith
take_within (suc k) [] = omega arith
take_within (suc k) (x ∷ l) = omega (arith, take_within k l)

-- a part that has all its bytes lies in the text
part-within : (s : List ℕ) (place len : ℕ) → 1 ≤ len → length (slice place (place + len) s) ≡ len → place + len
    ≤ length s
part-within s place len h e =
    omega (arith, e, length-drop place (take (place + len) s), take_within (place + len) s)

-- what a global's token says
record GlobalIn (text names : List ℕ) (t : TokenAt) : Type 0 where
  place_in : t.place ≤ 16384
  line_in : Between 1 16385 t.line.0
  long : Between 2 64 (get_or names (t.name.0 * 2 + 1) 0)
  inside : t.place + get_or names (t.name.0 * 2 + 1) 0 ≤ length text

global-named : (kind carried : ℕ) → kind ≡ 2 → (name_in kind carried).0 ≡ carried
unfolding name_in is_name pick
global-named kind carried e = rw e

module _ (s : List ℕ) (toks : List Token) (ns : List Part) (v : Sound s 1 toks ns) where
  abbrev ts : List Tok
  ts = tokens_of (pad_to 0 (tokens_cells toks))

  count : length ts ≡ length toks
  count =
      let m : 0 - length (tokens_cells toks) ≡ 0 = omega arith in
      let l : length (pad_to 0 (tokens_cells toks)) ≡ length toks * 4 =
      length-append (tokens_cells toks) _ ∙ rw m (omega (arith, length-tokens_cells toks)) in
      omega (arith, tokens-count (pad_to 0 (tokens_cells toks)), l)

  -- of a token of the text
  global-is : (i next : ℕ) → i < length toks → kind_of (get_or toks i no_token).value ≡ 2
      → GlobalIn s (names_cells ns ++ []) (with_next (tok_of (get_or toks i no_token)) next)
  global-is i next h e =
      let t = get_or toks i no_token in
      let k = carried t.value in
      let p = get_or ns k no_part in
      let numbered : k < length ns = v.numbered i h (omega (arith, e)) in
      let cell : get_or (names_cells ns ++ []) (k * 2 + 1) 0 ≡ p.len = (names_cell ns [] k numbered).1 in
      let long : 2 ≤ p.len = v.lettered i h (omega (arith, e)) (omega (arith, e)) in
      let bytes : length (slice t.place (t.place + p.len) s) ≡ p.len =
      ap length (v.spelled i h (omega (arith, e)))
      ∙ length-slice p.place (p.place + p.len) s (v.within k numbered).2 ∙ omega arith in
      let r = v.ranges i h in
      let name : (name_in (kind_of t.value) k).0 ≡ k = global-named (kind_of t.value) k e in
      record {
        place_in = omega (arith, r.2, v.short);
        line_in = (r.0, omega (arith, r.1, r.2, v.short));
        long = rw (name, cell) (long, (v.within k numbered).1);
        inside = rw (name, cell) (part-within s t.place p.len (omega (arith, long)) bytes);
      }

  -- past the last token there is none
  past-last : (i : ℕ) → length ts ≤ i → (token_at ts i).kind ≡ 38
  unfolding token_at pick
  past-last i h = rw (le-ltb i (length ts) h)

  global-at : (i : ℕ) → (token_at ts i).kind ≡ 2 → GlobalIn s (names_cells ns ++ []) (token_at ts i)
  global-at i e = by (ltb i (length toks)) refl
    where
      by : (b : Bool) → ltb i (length toks) ≡ b → GlobalIn s (names_cells ns ++ []) (token_at ts i)
      by true l =
          let h = ltb-true i (length toks) l in
          let at : token_at ts i
          ≡ with_next (tok_of (get_or toks i no_token)) (pick (eqb (kind_of (get_or toks i no_token).value) 38) i (i + 1)) =
          cells-token_at 0 toks i h in
          rw at (global-is i _ h (rw at at e))
      by false l =
          let z = past-last i (omega (arith, count, ltb-false i (length toks) l)) in
          absurd (omega (arith, e, z))

  -- .. of the cells that `read` left
  global_in : (tokens names : List ℕ) → tokens ≡ pad_to 0 (tokens_cells toks) → names ≡ names_cells ns ++ []
      → (i : ℕ) → (token_at (tokens_of tokens) i).kind ≡ 2 → GlobalIn s names (token_at (tokens_of tokens) i)
  global_in tokens names p q = rw (p, q) global-at

-- The rows. ---------------------------------------------------------------------------------------------------------

formal_types_in : (vs : List Variable) (cells : List ℕ) (at : ℕ) (rest : List ℕ) → drop at cells ≡ variables_cells vs
    ++ rest
    → GoodFormals vs → (k : ℕ) → k < length vs
    → (1 ≤ get_or cells (at + k * 2 + 1) 0) × (get_or cells (at + k * 2 + 1) 0 ≤ 2)
unfolding variables_cells
formal_types_in [] cells at rest h g k l = absurd (omega arith)
formal_types_in (v ∷ vs) cells at rest h g zero l =
    let e : at + 0 * 2 + 1 ≡ at + 1 = omega arith in
    rw (e, cell_there at 1 cells (variables_cells (v ∷ vs) ++ rest) h) g.0
formal_types_in (v ∷ vs) cells at rest h g (suc k) l =
    let e : at + suc k * 2 + 1 ≡ at + 2 + k * 2 + 1 = omega arith in
    rw e
    (formal_types_in vs cells (at + 2) rest (rest_there at 2 cells (variables_cells (v ∷ vs) ++ rest) h) g.1 k
    (omega arith))

module _ (text : List ℕ) (ts : List Tok) (names rows rest : List ℕ)
    (globals-in : (i : ℕ) → (token_at ts i).kind ≡ 2 → GlobalIn text names (token_at ts i)) where
  row_in : (n : Counts) (f : Function) (r : List ℕ) → GoodFunction ts f × (f.head.type < 64)
      → drop (row_at n.functions) rows ≡ row_cells ts names f n.items n.blocks ++ r
      → RowInRange text rows n.functions
  row_in n f r q h =
      let g = q.0.0 in
      let i = n.functions in
      let first = n.items in
      let base = n.blocks in
      let cell : (k j : ℕ) → k ≡ row_at i + j → get_or rows k 0 ≡ get_or (row_cells ts names f first base ++ r) j 0 =
      λ k j e. ap (λ (x : ℕ). get_or rows x 0) e ∙ cell_there (row_at i) j rows (row_cells ts names f first base ++ r) h in
      let vs = f.head.formals in
      let t = token_at ts f.token in
      let global = globals-in f.token g.global.0 in
      let len : get_or rows (length_at i) 0 ≡ get_or names (t.name.0 * 2 + 1) 0 =
      cell (length_at i) 4 (omega arith) ∙ ap (λ (x : ℕ). get_or names (x * 2 + 1) 0) g.global.1 in
      record {
        name = rw (cell (place_at i) 3 (omega arith), len) global.inside;
        place = rw (cell (place_at i) 3 (omega arith)) global.place_in;
        name_length = rw len global.long;
        line = rw (cell (line_at i) 5 (omega arith)) global.line_in;
        ret = rw (row-ret ts names f first base rows i r h) g.ret;
        type = rw (row_type ts names f first base rows i r h) q.1;
        blocks = rw (cell (block_count_at i) 11 (omega arith)) q.0.1;
        formals = rw (row_count ts names f first base rows i r h) g.few;
        types_are = λ k l.
            let e : formal_type_at i k ≡ formals_at i + k * 2 + 1 = omega arith in
            rw e
            (formal_types_in vs rows (formals_at i) r (row-formals ts names f first base rows i r h) g.types k
            (rw (row_count ts names f first base rows i r h) at l));
      }

  rows_in : (fs : List Function) (n : Counts) → GoodFunctions ts fs
      → drop (row_at n.functions) rows ≡ rows_cells ts names n fs ++ rest
      → (k : ℕ) → k < length fs → RowInRange text rows (n.functions + k)
  rows_in [] n g h k l = absurd (omega arith)
  rows_in (f ∷ fs) n g h zero l =
      let s = row_stands ts names rows rest n f fs h in
      let e : n.functions + 0 ≡ n.functions = omega arith in
      rw e (row_in n f s.0 g.0 s.1)
  rows_in (f ∷ fs) n g h (suc k) l =
      let e : n.functions + suc k ≡ n.functions + 1 + k = omega arith in
      rw e
      (rows_in fs (counts_with n f) g.1 (rows_behind ts names rows rest n f fs g.0.0.0.few h) k (omega arith))

-- The whole. --------------------------------------------------------------------------------------------------------

-- the functions of a text that is accepted are those that were parsed
typed_are : (gs fs : List Function) (e : Result Unit Refusal) → after_typing gs e ≡ checked fs → fs ≡ gs
typed_are gs fs (Ok tt) h = cc
typed_are gs fs (Err e) h = absurd (let z : ◌≡◌ {A = ℕ} 0 1 = cc in omega arith)

ended_are : (ts : List Tok) (gs fs : List Function) (e : Result ℕ Refusal) → after_parsing ts gs e ≡ checked fs → fs ≡ gs
ended_are ts gs fs (Ok next) h = typed_are gs fs (typed_d ts gs gs untyped).end h
ended_are ts gs fs (Err e) h = absurd (let z : ◌≡◌ {A = ℕ} 0 1 = cc in omega arith)

parsed_are : (ts : List Tok) (fs : List Function) → unit_d ts ≡ checked fs → fs ≡ (program_d ts).functions
unfolding unit_d
parsed_are ts fs h = ended_are ts (program_d ts).functions fs (program_d ts).end h

-- no functions
first-zero : (m : ℕ) → ◌≡◌ {A = ℕ} (get_or (replicate m 0) 0 0) 0
first-zero zero = refl
first-zero (suc m) = refl

none_in : (text : List ℕ) (m : ℕ) → TableInRange text (pad_to m [])
none_in text m =
    let k : m - 0 ≡ m = omega arith in
    let z : ◌≡◌ {A = ℕ} (get_or (pad_to m []) 0 0) 0 = rw k (first-zero m) in
    record { count = omega (arith, z); each = λ i h. absurd (omega (arith, z, h)) }

module _ (text : List ℕ) (m : ℕ)
    (v : Lexed 1 text (read_from 1 text).answer (read_from 1 text).tokens
    (read_from 1 text).names)
  where
    read_in : (i : ℕ) → (token_at (tokens_of (read_from 1 text).tokens) i).kind ≡ 2
        → GlobalIn text (read_from 1 text).names (token_at (tokens_of (read_from 1 text).tokens) i)
    read_in =
        global_in text (is-done v).ts (is-done v).ns (is-done v).sound (read_from 1 text).tokens
        (read_from 1 text).names (tokens_unpadded v) (read_names v ∙ sym (append-nil (names_cells (is-done v).ns)))

    by_outcome : (o : UnitOutcome) → unit_d (tokens_of (read_from 1 text).tokens) ≡ o
        → TableInRange text
        (pad_to m (checked_or text (read_from 1 text) (tokens_of (read_from 1 text).tokens) o).unit.functions)
    by_outcome (checked fs) e =
        let ts = tokens_of (read_from 1 text).tokens in
        let good = subst (λ (gs : List Function). GoodFunctions ts gs × (length gs ≤ 64)) (sym (parsed_are ts fs e))
        (program_good ts) in
        let rows = pad_to m (length fs ∷ rows_cells ts (read_from 1 text).names none fs) in
        record {
          count = good.1;
          each = λ i h.
              let z : 0 + i ≡ i = omega arith in
              rw z at
              (rows_in text ts (read_from 1 text).names rows
              (replicate (m - length (length fs ∷ rows_cells ts (read_from 1 text).names none fs)) 0) read_in fs none
              good.0 refl i h);
        }
    by_outcome (refused r) e = none_in text m

-- EVERY HEADER TABLE THAT `check` WRITES IS IN RANGE, also that of a refused text: it has no functions.
pub header_in_range : (text : List ℕ) (m : ℕ) → TableInRange text (pad_to m (check_of text).unit.functions)
unfolding check_of read_of pick
header_in_range text m = by (eqb (read_from 1 text).answer.number 0) refl
  where
    by : (b : Bool) → eqb (read_from 1 text).answer.number 0 ≡ b
        → TableInRange text (pad_to m (check_of text).unit.functions)
    by true e =
        rw e
        (by_outcome text m (lexed_itself 1 text (eqb-true _ _ e)) (unit_d (tokens_of (read_from 1 text).tokens)) refl)
    by false e = rw e (none_in text m)

sized_in_range : (text m t n : List ℕ) (u : Slices) → ((check_def text m t n u).answer.number ≡ 30 → ⊥)
    → TableInRange text (check_def text m t n u).unit.functions
unfolding check_def pick
sized_in_range text m t n u k = by (all_sized m t n u) refl
  where
    by : (b : Bool) → all_sized m t n u ≡ b → TableInRange text (check_def text m t n u).unit.functions
    by true e = rw e (header_in_range text (length u.functions))
    by false e = absurd (k (rw e refl))

-- .. and so is what stands in the slice that was lent, unless the answer is 30 and nothing is written.
pub written_in_range : (text m₀ t₀ n₀ : List ℕ) (u₀ : Slices) (r : CheckAnswer) (m t n : List ℕ) (u : Slices)
    → Checks text m₀ t₀ n₀ u₀ r m t n u → (r.number ≡ 30 → ⊥) → TableInRange text u.functions
written_in_range text m₀ t₀ n₀ u₀ r m t n u p k =
    rw p.unit (sized_in_range text m₀ t₀ n₀ u₀ (λ e. k (ap (λ (a : CheckAnswer). a.number) p.answer ∙ e)))
