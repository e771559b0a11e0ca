-- A function that is read begins with a global and ends with a closing brace: what the definitions of crates/parser and
-- crates/functions say of its first and its last token.
use Rattle.std.specs.Prelude.{Err, Ok, Result}
use Rattle.parser.specs.declared.Refusal.{Refusal}
use Prim.Native.Nat.{ℕ, zero, suc, ◌+◌, ◌<◌}
use mathlib.Core.Path.{◌≡◌, refl, subst}
use mathlib.Core.List.{List, [], ◌∷◌, ◌++◌}
use mathlib.Core.Bool.{Bool, true, false}
use native.Mathlib.Omega.{arith}
use borrow.Author.Tests.{eqb-true, ltb-true}
use lib.Dec.{eqb, ltb}
use lib.ListN.{length, get_or}
use Rattle.utils.specs.Bytes.{pick}
use Rattle.lexer.specs.Decoded.{Tok, token_at, past}
use Rattle.pieces.specs.declared.Identifier.{Identifier}
use Rattle.pieces.proofs.Progress.{pick_either}
use Rattle.parser.specs.Step.{look, then_at, then_named}
use Rattle.parser.specs.Grammar.{named_d}
use Rattle.body.specs.Body.{Item, ItemAt, Body, body_stop, item_d, then_item, behind, closes, body_d}
use Rattle.body.specs.Body.{closed_items, after_brace, after_label}
use Rattle.parser.specs.Labels.{labelled_d}
use Rattle.link.specs.Edges.{Resolved, resolve_d}
use Rattle.functions.specs.Known.{Known}
use Rattle.functions.specs.Functions.{Header, HeaderAt, BuiltAt, Function, FunctionAt, then_header, then_built}
use Rattle.functions.specs.Functions.{blocks_in, resolved_items, built_d, is_void, function_d, header_d}

-- The closing brace. ------------------------------------------------------------------------------------------------

-- behind a closing brace
pub record BehindBrace (ts : List Tok) (next : ℕ) : Type 0 where
  pub brace : ℕ
  pub behind : next ≡ brace + 1
  pub kind : (token_at ts brace).kind ≡ 28
  pub there : brace < length ts

brace-behind : (ts : List Tok) (at : ℕ) → (token_at ts at).kind ≡ 28 → BehindBrace ts (token_at ts at).next
unfolding token_at pick
brace-behind ts at e = by (ltb at (length ts)) refl
  where
    by : (b : Bool) → ltb at (length ts) ≡ b → BehindBrace ts (token_at ts at).next
    by true q =
        let k : (get_or ts at past).kind ≡ 28 = rw q at e in
        record { brace = at; behind = rw (q, k); kind = e; there = ltb-true at (length ts) q }
    by false q = absurd (omega (arith, rw q at e))

closes-behind : (ts : List Tok) (before at : ℕ) → closes before (token_at ts at).kind ≡ true
    → BehindBrace ts (token_at ts at).next
unfolding closes pick
closes-behind ts before at = by (eqb before after_label)
  where
    by : (b : Bool) → pick b false (eqb (token_at ts at).kind 28) ≡ true → BehindBrace ts (token_at ts at).next
    by true e = let z : ◌≡◌ {A = ℕ} 0 1 = cc in absurd (omega arith)
    by false e = brace-behind ts at (eqb-true _ _ e)

abbrev Ends : List Tok → Result ℕ Refusal → Type 0
Ends ts (Ok next) = BehindBrace ts next
Ends ts (Err e) = Unit

label-ends : (ts : List Tok) (c : Result (Identifier × ℕ) Refusal) (k : Identifier → ℕ → Body)
    → ((l : Identifier) (next : ℕ) → Ends ts (k l next).end) → Ends ts (then_named body_stop c k).end
unfolding then_named
label-ends ts (Ok (l, next)) k g = g l next
label-ends ts (Err e) k g = tt

item-ends : (ts : List Tok) (c : ItemAt) (k : Item → ℕ → Body)
    → ((i : Item) (next : ℕ) → Ends ts (k i next).end) → Ends ts (then_item body_stop c k).end
unfolding then_item
item-ends ts (ItemAt.item i next) k g = g i next
item-ends ts (ItemAt.refused e) k g = tt

abbrev BodyEnds : List Tok → Body → Type 0
BodyEnds ts b = Ends ts b.end

body_ends : (ts : List Tok) (room : ℕ) (ls : List ℕ) (before at : ℕ) → Ends ts (body_d ts room ls before at).end
unfolding body_d look
body_ends ts zero ls before at = tt
body_ends ts (suc room) ls before at =
    pick_either (BodyEnds ts) _ _ _ (λ e. closes-behind ts before at e) (λ _.
    pick_either (BodyEnds ts) _ _ _
    (λ _. label-ends ts (labelled_d ts ls at) _ (λ l next. body_ends ts room (ls ++ (l.0 ∷ [])) after_label next)) (λ _.
    item-ends ts (item_d ts at) _ (λ i next.
    pick_either (BodyEnds ts) _ _ _ (λ _. tt) (λ _. body_ends ts room ls (behind i) next))))

-- A function. -------------------------------------------------------------------------------------------------------

abbrev BuiltEnds : List Tok → BuiltAt → Type 0
BuiltEnds ts (BuiltAt.built is next) = BehindBrace ts next
BuiltEnds ts (BuiltAt.not_built e) = Unit

resolved_ends : (ts : List Tok) (is : List Item) (next : ℕ) (r : Resolved) → BehindBrace ts next
    → BuiltEnds ts (resolved_items is next r)
resolved_ends ts is next Resolved.fine h = h
resolved_ends ts is next (Resolved.refused e) h = tt

ended-built : (ts : List Tok) (c : Result ℕ Refusal) (is : List Item) (name : ℕ) → Ends ts c
    → BuiltEnds ts (then_at BuiltAt.not_built c (λ next. resolved_items is next (resolve_d name (blocks_in is))))
unfolding then_at
ended-built ts (Ok next) is name h = resolved_ends ts is next (resolve_d name (blocks_in is)) h
ended-built ts (Err e) is name h = tt

built-ends : (ts : List Tok) (void : Bool) (name at : ℕ) → BuiltEnds ts (built_d ts void name at)
unfolding built_d
built-ends ts void name at =
    let body = body_d ts 4096 [] after_brace at in
    ended-built ts body.end (closed_items void body.items) name (body_ends ts 4096 [] after_brace at)

-- a header that is read begins with a global
abbrev GlobalAt : List Tok → ℕ → HeaderAt → Type 0
GlobalAt ts at (HeaderAt.header h next) = (token_at ts at).kind ≡ 2
GlobalAt ts at (HeaderAt.no_header e) = Unit

given-global : (ts : List Tok) (at : ℕ) (c : HeaderAt) → (token_at ts at).kind ≡ 2 → GlobalAt ts at c
given-global ts at (HeaderAt.header h next) e = e
given-global ts at (HeaderAt.no_header r) e = tt

header-global : (ts : List Tok) (full : Bool) (known : List Known) (types at : ℕ)
    → GlobalAt ts at (header_d ts full known types at)
unfolding header_d named_d then_named pick
header-global ts full known types at = by (eqb (token_at ts at).kind 2) refl
  where
    by : (b : Bool) → eqb (token_at ts at).kind 2 ≡ b → GlobalAt ts at (header_d ts full known types at)
    by true e = given-global ts at (header_d ts full known types at) (eqb-true _ _ e)
    by false e = rw e tt

-- what is read from a token on: a function that begins there, with a global, and ends with a closing brace
pub record Spans (ts : List Tok) (at : ℕ) (f : Function) : Type 0 where
  pub token : f.token ≡ at
  pub opens : (token_at ts at).kind ≡ 2
  pub ends : BehindBrace ts f.next

abbrev SpansAt : List Tok → ℕ → FunctionAt → Type 0
SpansAt ts at (FunctionAt.function f) = Spans ts at f
SpansAt ts at (FunctionAt.no_function e) = Unit

built_spans : (ts : List Tok) (at : ℕ) (h : Header) (c : BuiltAt) → (token_at ts at).kind ≡ 2 → BuiltEnds ts c
    → SpansAt ts at (then_built FunctionAt.no_function c (λ is next.
    FunctionAt.function (record { token = at; head = h; items = is; next = next })))
unfolding then_built
built_spans ts at h (BuiltAt.built is next) g q = record { token = refl; opens = g; ends = q }
built_spans ts at h (BuiltAt.not_built e) g q = tt

header_spans : (ts : List Tok) (at : ℕ) (c : HeaderAt) → GlobalAt ts at c
    → SpansAt ts at (then_header FunctionAt.no_function c (λ h at1.
    then_built FunctionAt.no_function (built_d ts (is_void h.ret) at at1) (λ is next.
    FunctionAt.function (record { token = at; head = h; items = is; next = next }))))
unfolding then_header
header_spans ts at (HeaderAt.header h next) g =
    built_spans ts at h (built_d ts (is_void h.ret) at next) g (built-ends ts (is_void h.ret) at next)
header_spans ts at (HeaderAt.no_header e) g = tt

spans_at : (ts : List Tok) (full : Bool) (known : List Known) (types at : ℕ)
    → SpansAt ts at (function_d ts full known types at)
unfolding function_d
spans_at ts full known types at =
    header_spans ts at (header_d ts full known types at) (header-global ts full known types at)

pub function_spans : (ts : List Tok) (full : Bool) (known : List Known) (types at : ℕ) (f : Function)
    → function_d ts full known types at ≡ FunctionAt.function f → Spans ts at f
function_spans ts full known types at f e = subst (SpansAt ts at) e (spans_at ts full known types at)
