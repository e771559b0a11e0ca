-- From a header and a body to the function: what was read is what the definition gives, and it stands in the slices.
use Rattle.std.specs.Prelude.{Err, Ok}
use Prim.Native.Nat.{ℕ, ◌+◌, ◌*◌, ◌-◌, ◌≤◌, ◌<◌}
use mathlib.Core.Path.{◌≡◌, refl, sym, ap, subst, ◌∙◌}
use mathlib.Core.List.{List, [], ◌∷◌}
use native.Mathlib.Omega.{arith}
use lib.Dec.{leb, eqb}
use lib.ListN.{length, get_or, replicate, length-append}
use lib.Seq.{sets}
use Rattle.utils.specs.Bytes.{pad_to}
use Rattle.utils.proofs.Runs.{sets_append}
use Rattle.lexer.specs.Decoded.{Tok, token_at}
use Rattle.pieces.specs.declared.Identifier.{Identifier}
use Rattle.body.specs.Body.{Item}
use Rattle.parser.specs.Runs.{type_cell, variables_cells}
use Rattle.parser.specs.declared.Refusal.{Refusal}
use Rattle.body.specs.Records.{arguments_count}
use Rattle.functions.specs.Known.{types_after}
use Rattle.functions.specs.Functions.{Header, HeaderAt, header, no_header, then_header, BuiltAt, built, not_built}
use Rattle.functions.specs.Functions.{then_built}
use Rattle.functions.specs.Functions.{blocks_in, Function, FunctionAt, function, no_function, header_d, built_d}
use Rattle.functions.specs.Functions.{function_d}
use Rattle.functions.specs.Columns.{row_at, formals_at}
use Rattle.functions.specs.Rows.{head_cells, row_cells, known_from}
use Rattle.functions.specs.Heads.{header_read, HeaderHeld}
use Rattle.functions.specs.Answer.{predecessors_in, Room, Built, BuildHeld, build_read, slices}
use Rattle.functions.specs.Answer.{function_read, Taken, FunctionHeld}
use Rattle.functions.specs.declared.Counts.{Counts}
use Rattle.functions.specs.declared.Head.{Head}
use Rattle.functions.specs.declared.Body.{Body}
use Rattle.functions.proofs.Stores.{row-stored}
use Rattle.functions.proofs.Seen.{seen, length_variables}
use Rattle.functions.proofs.HeaderOn.{HeaderIn, header_in}

-- the header behind an answer
pub record Headed (x : HeaderAt) (h : Head) : Type 0 where
  pub head : Header
  pub is : x ≡ header head h.next
  pub name_is : h.name ≡ head.name
  pub formals_is : h.formals ≡ length head.formals
  pub ret_is : h.ret ≡ type_cell head.ret
  pub type_is : h.ty ≡ head.type

pub headed : (x : HeaderAt) (h : Head) → Ok h ≡ header_read x → Headed x h
headed (header hd next) h e =
    record { head = hd; is = ap (header hd) cc; name_is = cc; formals_is = cc; ret_is = cc; type_is = cc }
headed (no_header r) h e = absurd (let z : ◌≡◌ {A = ℕ} 0 1 = cc in omega arith)

pub unheaded : (x : HeaderAt) (e : Refusal) → Err e ≡ header_read x → x ≡ no_header e
unheaded (header hd next) e h = absurd (let z : ◌≡◌ {A = ℕ} 0 1 = cc in omega arith)
unheaded (no_header r) e h = cc

-- the items behind an answer
pub record Bodied (x : BuiltAt) (b : Body) : Type 0 where
  pub items : List Item
  pub is : x ≡ built items b.next
  pub items_is : b.items ≡ length items
  pub arguments_is : b.arguments ≡ arguments_count items
  pub blocks_is : b.blocks ≡ length (blocks_in items)
  pub predecessors_is : b.predecessors ≡ length (predecessors_in items)

pub bodied : (x : BuiltAt) (b : Body) → Ok b ≡ build_read x → Bodied x b
bodied (built is next) b e =
    record { items = is; is = ap (built is) cc; items_is = cc; arguments_is = cc; blocks_is = cc; predecessors_is = cc }
bodied (not_built r) b e = absurd (let z : ◌≡◌ {A = ℕ} 0 1 = cc in omega arith)

pub unbodied : (x : BuiltAt) (e : Refusal) → Err e ≡ build_read x → x ≡ not_built e
unbodied (built is next) e h = absurd (let z : ◌≡◌ {A = ℕ} 0 1 = cc in omega arith)
unbodied (not_built r) e h = cc

-- the row's cells and the answer, by what the header and the body are
cells_same : (ts : List Tok) (names : List ℕ) (f : Function) (name : Identifier) (ret type first items base blocks
    formals : ℕ)
    → name ≡ f.head.name → ret ≡ type_cell f.head.ret → type ≡ f.head.type → items ≡ length f.items
    → blocks ≡ length (blocks_in f.items) → formals ≡ length f.head.formals
    → ◌≡◌ {A = List ℕ}
    (f.token ∷ name.0 ∷ (f.next - 1) ∷ (token_at ts f.token).place ∷ get_or names (name.0 * 2 + 1) 0
    ∷ (token_at ts f.token).line.0 ∷ ret ∷ type ∷ first ∷ items ∷ base ∷ blocks ∷ formals ∷ [])
    (head_cells ts names f first base)
cells_same ts names f name ret type first items base blocks formals a b c d e g = rw (a, b, c, d, e, g)

done-same : (types : ℕ) (n m : Counts) (f : Function) (types' type items arguments blocks preds : ℕ)
    → types' ≡ types_after types type → type ≡ f.head.type → items ≡ length f.items
    → arguments ≡ arguments_count f.items → blocks ≡ length (blocks_in f.items) → preds ≡ length
    (predecessors_in f.items)
    → m ≡ record {
      functions = n.functions + 1;
      items = n.items + items;
      arguments = n.arguments + arguments;
      blocks = n.blocks + blocks;
      predecessors = n.predecessors + preds;
    }
    → Ok (record { next = f.next; types = types'; counts = m }) ≡ function_read types n (function f)
done-same types n m f types' type items arguments blocks preds a b c d e g h = rw (a, h, b, c, d, e, g)

slices-same : {f f' i i' a a' b b' p p' : List ℕ} → f ≡ f' → i ≡ i' → a ≡ a' → b ≡ b' → p ≡ p'
    → slices f i a b p ≡ slices f' i' a' b' p'
slices-same q r s t u = rw (q, r, s, t, u)

module _ (ts : List Tok) (names : List ℕ) (at types : ℕ) (n : Counts) (rows₀ : List ℕ) where
  abbrev read : HeaderAt
  read = header_d ts (leb 64 n.functions) (known_from rows₀ 0 n.functions) types at

  abbrev whole : FunctionAt
  whole = function_d ts (leb 64 n.functions) (known_from rows₀ 0 n.functions) types at

  pub header_refused : (e : Refusal) → Err e ≡ header_read read → whole ≡ no_function e
  unfolding function_d then_header
  header_refused e h = rw (unheaded read e h)

  module _ (h : Head) (headed-by : Ok h ≡ header_read read) (room : Room ts at n) where
    hd : Headed read h
    hd = headed read h headed-by

    abbrev inner : BuiltAt
    inner = built_d ts (eqb h.ret 3) at h.next

    further : HeaderIn at room.within.last read
    further =
        header_in ts room.within.last room.within.ends (leb 64 n.functions)
        (known_from rows₀ 0 n.functions) types
        at room.within.reached

    on : (at + 2 ≤ h.next) × (h.next ≤ room.within.last)
    on = subst (HeaderIn at room.within.last) hd.is further

    -- there is room for the body
    pub inner_room : Room ts h.next n
    inner_room =
        record {
          within =
              record { last = room.within.last; ends = room.within.ends; reached = on.1; few = room.within.few };
          items_few = omega (arith, room.items_few, on.0);
          arguments_few = omega (arith, room.arguments_few, on.0);
          blocks_few = omega (arith, room.blocks_few, on.0);
          predecessors_few = room.predecessors_few;
        }

    pub inner-behind : n.blocks * 4 + 2 ≤ h.next
    inner-behind = omega (arith, room.blocks_few, on.0)

    pub body_refused : (e : Refusal) → Err e ≡ build_read inner → whole ≡ no_function e
    unfolding function_d then_header then_built
    body_refused e g = rw (hd.is, ← hd.ret_is, unbodied inner e g)

    module _ (rows₁ : List ℕ) (held : HeaderHeld n.functions rows₀ rows₁ read) (b : Body)
        (Bodied-by : Ok b ≡ build_read inner)
        (items₀ items arguments₀ arguments blocks₀ blocks preds₀ preds : List ℕ)
        (body-held : BuildHeld ts n items₀ items arguments₀ arguments blocks₀ blocks preds₀ preds inner)
        (rows_long : 2881 ≤ length rows₀) where
      bd : Bodied inner b
      bd = bodied inner b Bodied-by

      f : Function
      f = record { token = at; head = hd.head; items = bd.items; next = b.next }

      whole_is : whole ≡ function f
      unfolding function_d then_header then_built f
      whole_is = rw (hd.is, ← hd.ret_is, bd.is)

      header-kept : (rows₁ ≡ sets rows₀ (formals_at n.functions) (variables_cells hd.head.formals))
          × (length hd.head.formals ≤ 16) × (n.functions < 64)
      header-kept = subst (HeaderHeld n.functions rows₀ rows₁) hd.is held

      body_kept : Built ts n bd.items b.next items₀ items arguments₀ arguments blocks₀ blocks preds₀ preds
      body_kept = subst (BuildHeld ts n items₀ items arguments₀ arguments blocks₀ blocks preds₀ preds) bd.is
          body-held

      -- what the row's cells ask
      pub row_fits_lem : (n.functions < 64) × (at ≤ 4095) × (1 ≤ b.next) × (b.next ≤ 4096) × (n.items ≤ 4096)
          × (b.items ≤ 4096) × (n.blocks ≤ 4096) × (b.blocks ≤ 4096) × (h.formals ≤ 16)
      row_fits_lem =
          let r = body_kept.room in (
            header-kept.2,
            omega (arith, room.within.reached, room.within.few),
            body_kept.on,
            omega (arith, r.within.reached, r.within.few),
            omega (arith, room.items_few, room.within.reached, room.within.few),
            omega (arith, bd.items_is, r.items_few, r.within.reached, r.within.few),
            omega (arith, room.blocks_few, room.within.reached, room.within.few),
            omega (arith, bd.blocks_is, r.blocks_few, r.within.reached, r.within.few),
            omega (arith, hd.formals_is, header-kept.1),
          )

      pub counts-fit : (n.functions ≤ 4096) × (n.items ≤ 4096) × (b.items ≤ 4096) × (n.arguments ≤ 4096)
          × (b.arguments ≤ 4096) × (n.blocks ≤ 4096) × (b.blocks ≤ 4096) × (n.predecessors ≤ 4096)
          × (b.predecessors ≤ 4096)
      counts-fit =
          let r = body_kept.room in (
            omega (arith, header-kept.2),
            row_fits_lem.4,
            row_fits_lem.5,
            omega (arith, room.arguments_few, room.within.reached, room.within.few),
            omega (arith, bd.arguments_is, r.arguments_few, r.within.reached, r.within.few),
            row_fits_lem.6,
            row_fits_lem.7,
            omega (arith, room.predecessors_few, room.blocks_few, room.within.reached, room.within.few),
            omega (arith, bd.predecessors_is, r.predecessors_few, r.blocks_few, r.within.reached, r.within.few),
          )

      module _ (rows₂ : List ℕ) (put : rows₂ ≡ sets (sets rows₁ (row_at n.functions)
          (at ∷ h.name.0 ∷ (b.next - 1) ∷ (token_at ts at).place ∷ get_or names (h.name.0 * 2 + 1) 0 ∷ (token_at ts
          at).line.0
          ∷ h.ret ∷ h.ty ∷ n.items ∷ b.items ∷ n.blocks ∷ b.blocks ∷ h.formals ∷ []))
          (formals_at n.functions + h.formals * 2) (replicate (32 - h.formals * 2) 0)) where
        head_put : sets rows₁ (row_at n.functions)
            (at ∷ h.name.0 ∷ (b.next - 1) ∷ (token_at ts at).place ∷ get_or names (h.name.0 * 2 + 1) 0 ∷ (token_at ts
            at).line.0
            ∷ h.ret ∷ h.ty ∷ n.items ∷ b.items ∷ n.blocks ∷ b.blocks ∷ h.formals ∷ [])
            ≡ sets rows₁ (row_at n.functions) (head_cells ts names f n.items n.blocks)
        unfolding f
        head_put =
            ap (sets rows₁ (row_at n.functions))
            (cells_same ts names f h.name h.ret h.ty n.items b.items n.blocks b.blocks h.formals
            hd.name_is hd.ret_is hd.type_is bd.items_is bd.blocks_is hd.formals_is)

        row_put_lem : rows₂ ≡ sets rows₀ (row_at n.functions) (pad_to 45 (row_cells ts names f n.items n.blocks))
        unfolding f
        row_put_lem =
            let row : List ℕ = row_cells ts names f n.items n.blocks in
            let vs = hd.head.formals in
            let long : length row ≡ 13 + h.formals * 2 =
            length-append (head_cells ts names f n.items n.blocks) (variables_cells vs)
            ∙ omega (arith, length_variables vs, hd.formals_is) in
            let end : formals_at n.functions + h.formals * 2 ≡ row_at n.functions + length row =
            omega (arith, long) in
            let left : 32 - h.formals * 2 ≡ 45 - length row = omega (arith, long) in
            let stored = row-stored rows₀ rows₁ _ (head_cells ts names f n.items n.blocks) (variables_cells vs)
            n.functions refl header-kept.0 head_put in
            put ∙ rw (stored, end, left)
            (sym (sets_append row (replicate (45 - length row) 0) rows₀ (row_at n.functions)))

        is-taken : Taken ts names n f (slices rows₀ items₀ arguments₀ blocks₀ preds₀)
            (slices rows₂ items arguments blocks preds)
        unfolding f
        is-taken =
            record {
              few = header-kept.2;
              stored =
                  slices-same row_put_lem body_kept.items_are body_kept.arguments_are body_kept.blocks_are
                  body_kept.predecessors_are;
              seen =
                  ap (λ (z : List ℕ). known_from z 0 (n.functions + 1)) row_put_lem
                  ∙ (seen ts names f n.items n.blocks n.functions rows₀ header-kept.2 header-kept.1
                  rows_long);
              room = body_kept.room;
              formals_few = header-kept.1;
              few_blocks = body_kept.few_blocks;
            }

        pub held_whole : FunctionHeld ts names n (slices rows₀ items₀ arguments₀ blocks₀ preds₀)
            (slices rows₂ items arguments blocks preds) whole
        held_whole = rw whole_is is-taken

        pub answered : (types' : ℕ) (m : Counts) → types' ≡ types_after types h.ty
            → m ≡ record {
              functions = n.functions + 1;
              items = n.items + b.items;
              arguments = n.arguments + b.arguments;
              blocks = n.blocks + b.blocks;
              predecessors = n.predecessors + b.predecessors;
            }
            → Ok (record { next = b.next; types = types'; counts = m }) ≡ function_read types n whole
        unfolding f
        answered types' m p q =
            done-same types n m f types' h.ty b.items b.arguments b.blocks b.predecessors p hd.type_is
            bd.items_is bd.arguments_is bd.blocks_is bd.predecessors_is q
            ∙ ap (function_read types n) (sym whole_is)
