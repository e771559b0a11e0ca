-- A function ends behind where it begins: what the parser's progress (crates/body/proofs/Progress.antt and
-- crates/functions/proofs/HeaderOn.antt) says of a whole function.
use Rattle.std.specs.Prelude.{Err, Ok, Result}
use Rattle.parser.specs.declared.Refusal.{Refusal}
use Prim.Native.Nat.{ℕ, zero, suc, ◌+◌, ◌≤◌}
use mathlib.Core.Path.{◌≡◌, refl}
use mathlib.Core.List.{List, [], ◌∷◌, ◌++◌}
use mathlib.Core.Bool.{Bool, true, false}
use native.Mathlib.Omega.{arith}
use lib.Dec.{eqb}
use Rattle.utils.specs.Bytes.{pick}
use Rattle.lexer.specs.Decoded.{Tok, token_at}
use Rattle.pieces.specs.declared.Identifier.{Identifier}
use Rattle.parser.specs.Step.{look, then_at, then_named}
use Rattle.body.specs.Body.{Item, ItemAt, Body, body_stop, item_d, then_item, behind, closes, body_d}
use Rattle.body.specs.Body.{closed_items, after_brace, after_label}
use Rattle.parser.specs.Labels.{labelled_d}
use Rattle.link.specs.Edges.{Resolved, resolve_d}
use Rattle.body.proofs.Progress.{LabelIn, ItemIn, moved, item_in, label_in}
use Rattle.functions.specs.Known.{Known}
use Rattle.functions.specs.Functions.{Header, HeaderAt, BuiltAt, FunctionAt, then_header, then_built}
use Rattle.functions.specs.Functions.{blocks_in, resolved_items, built_d, is_void, function_d, header_d}
use Rattle.functions.proofs.HeaderOn.{HeaderIn, header_in}

abbrev EndOn : ℕ → ℕ → Result ℕ Refusal → Type 0
EndOn from last (Ok next) = (from ≤ next) × (next ≤ last)
EndOn from last (Err e) = Unit

abbrev BuiltOn : ℕ → ℕ → BuiltAt → Type 0
BuiltOn from last (BuiltAt.built is next) = (from ≤ next) × (next ≤ last)
BuiltOn from last (BuiltAt.not_built e) = Unit

abbrev pub FunctionOn : ℕ → ℕ → FunctionAt → Type 0
FunctionOn from last (FunctionAt.function f) = (f.token ≡ from) × (from + 2 ≤ f.next) × (f.next ≤ last)
FunctionOn from last (FunctionAt.no_function e) = Unit

farther : (from from' last : ℕ) (c : Result ℕ Refusal) → from' ≤ from → EndOn from last c → EndOn from' last c
farther from from' last (Ok next) h g = (omega (arith, g.0), g.1)
farther from from' last (Err e) h g = tt

pick_o : {A : Type 0} (Q : A → Type 0) (b : Bool) (x y : A) → (b ≡ true → Q x) → Q y → Q (pick b x y)
unfolding pick
pick_o Q true x y f g = f refl
pick_o Q false x y f g = g

label_o : (at last count : ℕ) (c : Result (Identifier × ℕ) Refusal) (k : Identifier → ℕ → Body) → LabelIn at last count c
    → ((l : Identifier) (next : ℕ) → at ≤ next → next ≤ last → EndOn at last (k l next).end)
    → EndOn at last (then_named body_stop c k).end
unfolding then_named
label_o at last count (Ok (l, next)) k h g = g l next (omega (arith, h.0)) h.1
label_o at last count (Err e) k h g = tt

item_o : (at last : ℕ) (c : ItemAt) (k : Item → ℕ → Body) → ItemIn at last c
    → ((i : Item) (next : ℕ) → at ≤ next → next ≤ last → EndOn at last (k i next).end)
    → EndOn at last (then_item body_stop c k).end
unfolding then_item
item_o at last (ItemAt.item i next) k h g = g i next (omega (arith, h.two)) h.reached
item_o at last (ItemAt.refused e) k h g = tt

resolved_o : (from last : ℕ) (is : List Item) (next : ℕ) (r : Resolved) → from ≤ next → next ≤ last
    → BuiltOn from last (resolved_items is next r)
resolved_o from last is next Resolved.fine h g = (h, g)
resolved_o from last is next (Resolved.refused e) h g = tt

end_o : (from last : ℕ) (c : Result ℕ Refusal) (is : List Item) (name : ℕ) → EndOn from last c
    → BuiltOn from last (then_at BuiltAt.not_built c (λ next. resolved_items is next (resolve_d name (blocks_in is))))
unfolding then_at
end_o from last (Ok next) is name h = resolved_o from last is next (resolve_d name (blocks_in is)) h.0 h.1
end_o from last (Err e) is name h = tt

header_o : (at last : ℕ) (c : HeaderAt) (k : Header → ℕ → FunctionAt) → HeaderIn at last c
    → ((h : Header) (next : ℕ) → at + 2 ≤ next → next ≤ last → FunctionOn at last (k h next))
    → FunctionOn at last (then_header FunctionAt.no_function c k)
unfolding then_header
header_o at last (HeaderAt.header h next) k q g = g h next q.0 q.1
header_o at last (HeaderAt.no_header e) k q g = tt

built_o : (at from last : ℕ) (c : BuiltAt) (k : List Item → ℕ → FunctionAt) → BuiltOn from last c
    → ((is : List Item) (next : ℕ) → from ≤ next → next ≤ last → FunctionOn at last (k is next))
    → FunctionOn at last (then_built FunctionAt.no_function c k)
unfolding then_built
built_o at from last (BuiltAt.built is next) k q g = g is next q.0 q.1
built_o at from last (BuiltAt.not_built e) k q g = tt

module _ (ts : List Tok) (last : ℕ) (ends : (token_at ts last).kind ≡ 38) where
  look_o : (Q : Body → Type 0) (k : ℕ → ℕ → Body) (at : ℕ) → Q (k (token_at ts at).kind (token_at ts at).next)
      → Q (look (token_at ts at) k)
  unfolding look
  look_o Q k at h = h

  -- the closing brace is not the end token
  closes_o : (before at : ℕ) → at ≤ last → closes before (token_at ts at).kind ≡ true
      → (at ≤ (token_at ts at).next) × ((token_at ts at).next ≤ last)
  unfolding closes pick
  closes_o before at h = by (eqb before after_label)
    where
      by : (b : Bool) → pick b false (eqb (token_at ts at).kind 28) ≡ true
          → (at ≤ (token_at ts at).next) × ((token_at ts at).next ≤ last)
      by true e = let z : ◌≡◌ {A = ℕ} 0 1 = cc in absurd (omega arith)
      by false e = let m = moved ts last ends at 28 h refl e in rw m.0 (omega arith, m.1)

  body_o : (room : ℕ) (ls : List ℕ) (before at : ℕ) → at ≤ last → EndOn at last (body_d ts room ls before at).end
  unfolding body_d
  body_o zero ls before at h = tt
  body_o (suc room) ls before at h =
      look_o (λ (b : Body). EndOn at last b.end) _ at
      (pick_o (λ (b : Body). EndOn at last b.end) _ _ _ (λ e. closes_o before at h e)
      (pick_o (λ (b : Body). EndOn at last b.end) _ _ _
      (λ e. label_o at last _ (labelled_d ts ls at) _ (label_in ts last ends ls at h) (λ l next f g.
      farther next at last (body_d ts room (ls ++ (l.0 ∷ [])) after_label next).end f
      (body_o room (ls ++ (l.0 ∷ [])) after_label next g)))
      (item_o at last (item_d ts at) _ (item_in ts last ends at h) (λ i next f g.
      pick_o (λ (b : Body). EndOn at last b.end) _ _ _ (λ e. tt)
      (farther next at last (body_d ts room ls (behind i) next).end f (body_o room ls (behind i) next g))))))

  built_onward : (void : Bool) (name at : ℕ) → at ≤ last → BuiltOn at last (built_d ts void name at)
  unfolding built_d
  built_onward void name at h =
      let body = body_d ts 4096 [] after_brace at in
      end_o at last body.end (closed_items void body.items) name (body_o 4096 [] after_brace at h)

  -- a function begins where it is read, and ends behind
  pub function-on : (full : Bool) (known : List Known) (types at : ℕ) → at ≤ last
      → FunctionOn at last (function_d ts full known types at)
  unfolding function_d
  function-on full known types at h =
      header_o at last (header_d ts full known types at) _ (header_in ts last ends full known types at h) (λ a at1 f g.
      built_o at at1 last (built_d ts (is_void a.ret) at at1) _ (built_onward (is_void a.ret) at at1 g) (λ is next k l.
      (refl, omega arith, l)))
