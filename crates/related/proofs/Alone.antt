-- The new function alone decides (demand 3 on token lists): what it is refused with, or its reading, is the whole
-- text's.
use Rattle.std.specs.Prelude.{Err, Ok, Result}
use Prim.Native.Nat.{ℕ, zero, suc, ◌+◌, ◌≤◌, ◌<◌}
use mathlib.Core.Path.{◌≡◌, refl, sym, ap, subst, ◌∙◌}
use mathlib.Core.List.{List, [], ◌∷◌, ◌++◌}
use mathlib.Core.Bool.{Bool, true, false}
use native.Mathlib.Omega.{arith}
use native.Mathlib.Decide.{ℕ_discrete}
use borrow.Author.Tests.{eqb-true, eqb-false, ne_eqb}
use lib.Dec.{eqb}
use lib.ListN.{length}
use Rattle.utils.specs.Bytes.{pick}
use Rattle.lexer.specs.Decoded.{Tok, token_at}
use Rattle.lexer.specs.declared.TokenAt.{TokenAt}
use Rattle.pieces.specs.declared.Identifier.{Identifier}
use Rattle.parser.specs.Step.{refusal, look, then_named}
use Rattle.parser.specs.Grammar.{named_d}
use Rattle.parser.specs.Runs.{Variables}
use Rattle.parser.specs.Moved.{Move, Sim, SimName, SimE, SimN, SimC, SimR, SimV, SimVs, Each, Rel}
use Rattle.parser.specs.declared.Refusal.{Refusal}
use Rattle.parser.specs.declared.Ty.{Ty}
use Rattle.parser.specs.declared.Variable.{Variable}
use Rattle.parser.proofs.Sim.{global_s}
use Rattle.functions.specs.Known.{Known, type_number, expected_type, signature, formal_types}
use Rattle.functions.specs.Functions.{Function, FunctionAt, function, no_function, Program, program_stop}
use Rattle.functions.specs.Functions.{optional_formals, optional_type, header_d, function_d, functions_d, then_header}
use Rattle.functions.specs.Functions.{then_function}
use Rattle.functions.specs.Moved.{SimFunction, SimFunctionAt}
use Rattle.functions.proofs.SimFunctions.{optional_formals_s, optional_type_s, formal_types_s, function_s}
use Rattle.sema.specs.Program.{globals_of, function_typed}
use Rattle.sema.specs.Symbols.{Typed}
use Rattle.unit.specs.Outcome.{refused, after_typing, unit_d, untyped}
use Rattle.recheck.specs.Recheck.{refuses, after_typing as as_typed, typed_as, alone_d, function_alone, retyped}
use Rattle.related.specs.Tables.{SameGlobals, SimChecked, SimTyped, SameHead}
use Rattle.related.specs.Runs.{Place, start, behind_one, behind_all, function_here, functions_here, all_then}
use Rattle.related.specs.Entry.{retyped_function_at, UpToEntry, Enters}
use Rattle.related.specs.Edited.{Edited, Replaced, EditedBehind}
use Rattle.related.specs.Alone.{Alone, Keeps, global_spelt, RefusedAs, AcceptedAs, alone_among, Follows}
use Rattle.related.proofs.SimProgram.{function_typed_s}
use Rattle.related.proofs.Running.{turn_read}
use Rattle.related.proofs.Entry.{function-known, function-entered, function_up_to}
use Rattle.related.proofs.SimRuns.{Found, found-by}
use Rattle.related.proofs.Typings.{fine-from}
use Rattle.related.proofs.Edited.{SameKnown, known-front, types-length, then_end_lem, refused-unit, untyped_s}
use Rattle.related.proofs.Edited.{heads_before, heads_behind, each_append, its_turn, stands, in_front, begun}
use Rattle.related.proofs.Edited.{read-front, refused_there, read_there}

-- A header as far as it is read before the name is entered, moved. ---------------------------------------------------

record MovedName (m : Move) (n : ℕ) (c' : Result (Identifier × ℕ) Refusal) (g : Identifier) (at : ℕ) : Type 0 where
  g' : Identifier
  at' : ℕ
  is : c' ≡ Ok (g', at')
  same : SimName m g g'
  moved : at ≡ m.by + at'
  below : at' < n

name-moved : {m : Move} {n : ℕ} {c c' : Result (Identifier × ℕ) Refusal} (g : Identifier) (at : ℕ) → Rel m n SimN c c' → c ≡ Ok (g, at)
    → MovedName m n c' g at
name-moved {m} g at (Rel.is (SimN.at {x} {x'} q i h)) e =
    let p : ◌≡◌ {A = Identifier × ℕ} (x, m.by + i) (g, at) = cc in
    let z : x ≡ g = ap (λ (a : Identifier × ℕ). a.0) p in
    let moved : at ≡ m.by + i = sym (ap (λ (a : Identifier × ℕ). a.1) p) in
    record {
      g' = x';
      at' = i;
      is = refl;
      same = subst (λ (y : Identifier). SimName m y x') z q;
      moved = moved;
      below = h;
    }
name-moved g at (Rel.is (SimN.refused x x' r)) e = let z : ◌≡◌ {A = ℕ} 0 1 = cc in absurd (omega arith)

record MovedAt (m : Move) (n : ℕ) (c' : Result ℕ Refusal) (at : ℕ) : Type 0 where
  at' : ℕ
  is : c' ≡ Ok at'
  moved : at ≡ m.by + at'
  below : at' < n

at_moved : {m : Move} {n : ℕ} {c c' : Result ℕ Refusal} (at : ℕ) → SimC m n c c' → c ≡ Ok at → MovedAt m n c' at
at_moved at (SimC.at i h) e = record { at' = i; is = refl; moved = cc; below = h }
at_moved at (SimC.refused x x' r) e = let z : ◌≡◌ {A = ℕ} 0 1 = cc in absurd (omega arith)

type-moved : {m : Move} {n : ℕ} {c c' : Result (Ty × ℕ) Refusal} (ret : Ty) (at : ℕ) → Rel m n SimR c c' → c ≡ Ok (ret, at)
    → (at' : ℕ) × (c' ≡ Ok (ret, at'))
type-moved {m} ret at (Rel.is (SimR.at t i h)) e =
    let p : ◌≡◌ {A = Ty × ℕ} (t, m.by + i) (ret, at) = cc in
    (i, ap (λ (a : Ty × ℕ). Ok (a.0, i)) p)
type-moved ret at (Rel.is (SimR.refused x x' r)) e = let z : ◌≡◌ {A = ℕ} 0 1 = cc in absurd (omega arith)

run-list : {m : Move} {n : ℕ} {r r' : Variables} → Rel m n SimVs r r' → SimVs m n r r'
run-list (Rel.is q) = q

record MovedHeader (m : Move) (ts' : List Tok) (g : Identifier) (vs : List Variable) (ret : Ty) : Type 0 where
  g' : Identifier
  vs' : List Variable
  name : SimName m g g'
  formals : Each (SimV m) vs vs'
  up_to : UpToEntry ts' 0 g' vs' ret

header-moved : {m : Move} {n : ℕ} {ts ts' : List Tok} {g : Identifier} {vs : List Variable} {ret : Ty} → Sim m n ts ts'
    → 0 < n
    → UpToEntry ts (m.by + 0) g vs ret → MovedHeader m ts' g vs ret
header-moved {m} {n} {ts} {ts'} {g} {vs} {ret} s h u =
    let a = name-moved g u.at1 (global_s s 0 h) u.named in
    let r = run-list (optional_formals_s s a.at' a.below) in
    let at1-is : u.at1 ≡ m.by + a.at' = a.moved in
    let closed : (optional_formals ts (m.by + a.at')).end ≡ Ok u.at2 =
    ap (λ (i : ℕ). (optional_formals ts i).end) (sym at1-is) ∙ u.closed in
    let listed : (optional_formals ts (m.by + a.at')).list ≡ vs =
    ap (λ (i : ℕ). (optional_formals ts i).list) (sym at1-is) ∙ u.listed in
    let b = at_moved u.at2 r.end closed in
    let typed : optional_type ts (m.by + b.at') ≡ Ok (ret, u.at3) =
    ap (λ (i : ℕ). optional_type ts i) (sym b.moved) ∙ u.typed in
    let c = type-moved ret u.at3 (optional_type_s s b.at' b.below) typed in
    record {
      g' = a.g';
      vs' = (optional_formals ts' a.at').list;
      name = a.same;
      formals = subst (λ (l : List Variable). Each (SimV m) l (optional_formals ts' a.at').list) listed r.list;
      up_to = record {
        at1 = a.at';
        named = a.is;
        at2 = b.at';
        listed = refl;
        closed = b.is;
        at3 = c.0;
        typed = c.1;
      };
    }

-- The name may be entered in both texts. -----------------------------------------------------------------------------

module _ {old new : List Tok} (e : Edited old new) where
  number_same : {ks ks' : List Known} (signed : List ℕ) (types : ℕ) → Each (SameKnown e) ks ks'
      → type_number ks signed types ≡ type_number ks' signed types
  unfolding type_number
  number_same signed types Each.none = refl
  number_same signed types (Each.more q r) = rw (q.signed, q.type, number_same signed types r) refl

  expected-same : {ks ks' : List Known} {x x' : ℕ} (type : ℕ) → Each (SameKnown e) ks ks' → e.Spelt x x'
      → expected_type ks x type ≡ expected_type ks' x' type
  unfolding expected_type
  expected-same type Each.none p = refl
  expected-same {x = x} {x'} type (Each.more {x = k} {x' = k'} q r) p =
      rw (e.apart k.name k'.name x x' q.name p, q.type, expected-same type r p) refl

  signature-same : (vs vs' : List Variable) {ret ret' : Ty} → formal_types vs ≡ formal_types vs' → ret ≡ ret'
      → signature ret vs ≡ signature ret' vs'
  signature-same vs vs' p q =
      let n : length vs ≡ length vs' =
      sym (types-length vs) ∙ (ap (λ (l : List ℕ). length l) p ∙ types-length vs') in
      rw (q, n, p) refl

  enters_new : {ks ks' : List Known} {types types' type : ℕ} {g g' : Identifier} {vs vs' : List Variable}
      {ret ret' : Ty}
      → Each (SameKnown e) ks ks' → types' ≡ types → e.Spelt g.0 g'.0 → formal_types vs' ≡ formal_types vs
      → ret' ≡ ret
      → Enters ks types type g vs ret → Enters ks' types' type g' vs' ret'
  enters_new {ks} {ks'} {types} {types'} {type} {vs = vs} {vs'} {ret = ret} k t s f r q =
      record {
        number = rw (signature-same vs' vs f r, t) (sym (number_same (signature ret vs) types k) ∙ q.number);
        expected = sym (expected-same type k s) ∙ q.expected;
      }

  -- Callees. ---------------------------------------------------------------------------------------------------------

  -- a callee by its spelling among the old headers is the callee by its number among the new ones
  pub spelt_global : {fs fs' : List Function} (is : ℕ → Bool) (y : ℕ) → ((x x' : ℕ) → e.Spelt x x' → is x ≡ eqb x' y)
      → Each (SameHead e.Spelt) fs fs' → globals_of fs' y ≡ global_spelt is fs
  unfolding globals_of global_spelt
  spelt_global is y h Each.none = refl
  spelt_global is y h (Each.more {x = f} {x' = f'} q r) =
      rw (h f.head.name.0 f'.head.name.0 q.name, q.ret, q.formals, spelt_global is y h r) refl

refusal-token : {m : Move} {n : ℕ} {x x' : Refusal} → SimE m n x x' → x.token ≡ m.by + x'.token
refusal-token (SimE.moved number token wanted h) = refl
refusal-token (SimE.named number token wanted found q h) = refl
refusal-token (SimE.told number token wanted found h) = refl

refusal-near : {m : Move} {n : ℕ} {x x' : Refusal} → SimE m n x x' → x'.token < n
refusal-near (SimE.moved number token wanted h) = h
refusal-near (SimE.named number token wanted found q h) = h
refusal-near (SimE.told number token wanted found h) = h

refusal-number : {m : Move} {n : ℕ} {x x' : Refusal} → SimE m n x x' → x.number ≡ x'.number
refusal-number (SimE.moved number token wanted h) = refl
refusal-number (SimE.named number token wanted found q h) = refl
refusal-number (SimE.told number token wanted found h) = refl

-- Answers. -----------------------------------------------------------------------------------------------------------

refused-by : {m : Move} {n : ℕ} {a a' : FunctionAt} (x' : Refusal) → Rel m n SimFunctionAt a a' → a' ≡ no_function x'
    → (x : Refusal) × (a ≡ no_function x) × SimE m n x x'
refused-by x' (Rel.is (SimFunctionAt.function q)) e = let z : ◌≡◌ {A = ℕ} 0 1 = cc in absurd (omega arith)
refused-by {m} {n} x' (Rel.is (SimFunctionAt.refused y y' q)) e =
    let z : y' ≡ x' = cc in
    (y, refl, subst (λ (w : Refusal). SimE m n y w) z q)

mistyped_by : {m : Move} {n : ℕ} {a a' : Typed} (x' : Refusal) → SimTyped m n a a' → a'.end ≡ Err x'
    → (x : Refusal) × (a.end ≡ Err x) × SimE m n x x'
mistyped_by x' (SimTyped.both q SimChecked.fine) e = let z : ◌≡◌ {A = ℕ} 0 1 = cc in absurd (omega arith)
mistyped_by {m} {n} x' (SimTyped.both q (SimChecked.refused {e = y} {e' = y'} p)) e =
    let z : y' ≡ x' = cc in
    (y, refl, subst (λ (w : Refusal). SimE m n y w) z p)

retyped-same : {m : Move} {n : ℕ} {f f' : Function} (type : ℕ) → SimFunction m n f f'
    → SimFunction m n (retyped type f) (retyped type f')
retyped-same type s =
    record {
      token = s.token;
      head = record { name = s.head.name; formals = s.head.formals; ret = s.head.ret; type = refl };
      items = s.items;
      next = s.next;
      within = s.within;
      begins = s.begins;
      closes = s.closes;
    }

-- a related refusal, at one of the related tokens
refused_as : {m : Move} {n : ℕ} {new alone : List Tok} → Sim m n new alone → (x x' : Refusal) → unit_d new ≡ refused x
    → SimE m n x x' → RefusedAs new alone m n x'
refused_as {m} {n} {new} {alone} s x x' u q =
    let token = refusal-token q in
    let there = ap (λ (i : ℕ). token_at new i) token ∙ s.same x'.token (refusal-near q) in
    record {
      refusal = x;
      refused_so = u;
      same = q;
      near = refusal-near q;
      number = refusal-number q;
      token = token;
      line = ap (λ (t : TokenAt). t.line.0) there;
      place = ap (λ (t : TokenAt). t.place) there;
    }

-- no function begins here: 7
not-global : (ts : List Tok) (full : Bool) (known : List Known) (types at : ℕ) → ((token_at ts at).kind ≡ 2 → ⊥)
    → function_d ts full known types at ≡ no_function (refusal 7 at 0)
unfolding function_d header_d named_d then_named then_header pick
not-global ts full known types at h = rw (ne_eqb (token_at ts at).kind 2 h) refl

stop_there : (ts : List Tok) (room : ℕ) (p : Place) → ((token_at ts p.at).kind ≡ 2 → ⊥)
    → ((token_at ts p.at).kind ≡ 38 → ⊥)
    → functions_here ts room p ≡ program_stop (refusal 7 p.at 0)
unfolding functions_d look pick then_function
stop_there ts zero p g h =
    rw (ne_eqb (token_at ts p.at).kind 38 h, not-global ts true p.known p.types p.at g) refl
stop_there ts (suc room) p g h =
    rw (ne_eqb (token_at ts p.at).kind 38 h, not-global ts false p.known p.types p.at g) refl

-- the end token stands behind the function's tokens, and nowhere before
at_size : {old new : List Tok} {e : Edited old new} {alone : List Tok} (a : Alone e alone) (i : ℕ) → i ≤ a.size
    → (token_at alone i).kind ≡ 38 → i ≡ a.size
at_size a i h q = by (ℕ_discrete i a.size)
  where
    by : Dec (i ≡ a.size) → i ≡ a.size
    by (yes z) = z
    by (no z) = absurd (a.unended i (omega arith) q)

before-size : {old new : List Tok} {e : Edited old new} {alone : List Tok} (a : Alone e alone) (i : ℕ) → i ≤ a.size
    → ((token_at alone i).kind ≡ 38 → ⊥) → i < a.size
before-size {alone = alone} a i h q = by (ℕ_discrete i a.size)
  where
    by : Dec (i ≡ a.size) → i < a.size
    by (yes z) = absurd (q (ap (λ (k : ℕ). (token_at alone k).kind) z ∙ a.ends))
    by (no z) = omega arith

-- THE THEOREM. -------------------------------------------------------------------------------------------------------

-- the function read alone, with nothing known
abbrev read_alone : List Tok → FunctionAt
read_alone alone = function_d alone false [] 0 0

module _ {old new : List Tok} {e : Edited old new} {before behind : List Function} {replaced : Function}
    (r : Replaced e before replaced behind) {alone : List Tok} (a : Alone e alone)
    (k : Keeps a.spells replaced alone) where
  -- a function's typing alone, against the old headers
  abbrev typed-alone : Function → Typed
  typed-alone f = function_typed alone (λ x. global_spelt (a.spells x) (before ++ (replaced ∷ behind))) f untyped

  -- where the new function is read, in the new text
  new-at : (behind_all start (in_front r).functions).at ≡ a.inside.by + 0
  new-at = omega (arith, (in_front r).reached.at, stands r, e.still, a.begins)

  kept-name : {g g' : Identifier} → SimName a.inside g g' → a.spells g'.0 replaced.head.name.0 ≡ true
      → e.Spelt replaced.head.name.0 g.0
  kept-name (SimName.renamed x h) s = a.spelt_so x replaced.head.name.0 h s

  -- its name may be entered, with the replaced one's function type
  enters : (g : Identifier) (vs : List Variable) (ret : Ty)
      → UpToEntry new (behind_all start (in_front r).functions).at g vs ret
      → Enters (behind_all start (in_front r).functions).known (behind_all start (in_front r).functions).types
      replaced.head.type g vs ret
  enters g vs ret u =
      let h = header-moved a.tokens a.some (subst (λ (i : ℕ). UpToEntry new i g vs ret) new-at u) in
      let kept = k h.g' h.vs' ret h.up_to in
      enters_new e (known-front r) (in_front r).reached.types
      (kept-name h.name kept.name)
      (formal_types_s h.formals ∙ kept.formals) kept.result
      (function-entered old (behind_all start before).known (behind_all start before).types (behind_all start before).at
      replaced
      (its_turn r).read)

  -- so that it is read there as alone
  in_new : function_here new (behind_all start (in_front r).functions)
      ≡ retyped_function_at replaced.head.type (function_d new false [] 0 (a.inside.by + 0))
  in_new =
      function-known new (behind_all start (in_front r).functions).known
      (behind_all start (in_front r).functions).types
      replaced.head.type (behind_all start (in_front r).functions).at enters
      ∙ ap (λ (i : ℕ). retyped_function_at replaced.head.type (function_d new false [] 0 i)) new-at

  both : Rel a.inside a.size SimFunctionAt (function_d new false [] 0 (a.inside.by + 0)) (read_alone alone)
  both = function_s a.tokens Each.none 0 false 0 a.some

  refused-alone : (x' : Refusal) → read_alone alone ≡ no_function x' → RefusedAs new alone a.inside a.size x'
  refused-alone x' q =
      let b = refused-by x' both q in
      refused_as a.tokens b.0 x'
      (refused_there r b.0 (in_new ∙ ap (retyped_function_at replaced.head.type) b.1)) b.2

  module _ (f' : Function) (q : read_alone alone ≡ function f') where
    there : Found a.inside a.size (function_d new false [] 0 (a.inside.by + 0)) f'
    there = found-by both q

    -- the new function, in the new text
    abbrev new_function : Function
    new_function = retyped replaced.head.type there.found

    here : function_here new (behind_all start (in_front r).functions) ≡ function new_function
    here = in_new ∙ ap (retyped_function_at replaced.head.type) there.is

    left_over : f'.next < a.size → ((token_at alone f'.next).kind ≡ 2 → ⊥)
        → ((token_at alone f'.next).kind ≡ 38 → ⊥)
        → RefusedAs new alone a.inside a.size (refusal 7 f'.next 0)
    left_over h g l =
        let z : there.found.next ≡ a.inside.by + f'.next = there.same.next in
        let kind : (token_at new there.found.next).kind ≡ (token_at alone f'.next).kind =
        ap (λ (i : ℕ). (token_at new i).kind) z ∙ ap (λ (t : TokenAt). t.kind) (a.tokens.same f'.next h) in
        let stop = stop_there new (its_turn r).left (behind_one (behind_all start (in_front r).functions) new_function)
        (λ y. g (sym kind ∙ y)) (λ y. l (sym kind ∙ y)) in
        let program = read-front r
        ∙ ap (λ (u : Program). all_then (in_front r).functions u)
        (turn_read new (its_turn r).left (behind_all start (in_front r).functions) new_function (begun r) here) in
        refused_as a.tokens (refusal 7 (a.inside.by + f'.next) 0) (refusal 7 f'.next 0)
        (refused-unit new (refusal 7 (a.inside.by + f'.next) 0)
        (ap (λ (u : Program). u.end) program
        ∙ (then_end_lem (in_front r).functions _
        ∙ (ap (λ (u : Program). u.end) stop ∙ ap (λ (i : ℕ). Err (refusal 7 i 0)) z))))
        (SimE.moved 7 f'.next 0 h)

    same_head : SameHead e.Spelt replaced new_function
    same_head =
        let kept = k f'.head.name f'.head.formals f'.head.ret (function_up_to alone [] 0 0 f' q) in
        let s = there.same.head in
        record {
          name = kept-name s.name kept.name;
          ret = sym (s.ret ∙ kept.result);
          formals = sym (formal_types_s s.formals ∙ kept.formals);
          type = refl;
        }

    module _ (n : f'.next ≡ a.size) where
      there_ends : new_function.next ≡ e.new_back.by
      there_ends = omega (arith, there.same.next, n, a.begins, a.closes)

      rest : EditedBehind e (in_front r).functions behind new_function
      rest = read_there r here there_ends same_head

      abbrev all_new : List Function
      all_new = (in_front r).functions ++ (new_function ∷ rest.behind')

      same_heads : Each (SameHead e.Spelt) (before ++ (replaced ∷ behind)) all_new
      same_heads =
          each_append (heads_before e (in_front r).same)
          (Each.more same_head (heads_behind e rest.read_old rest.read-new))

      same_globals : SameGlobals a.inside (globals_of all_new)
          (λ x. global_spelt (a.spells x) (before ++ (replaced ∷ behind)))
      same_globals =
          record {
            same =
                λ x h. spelt_global e (a.spells x) (a.inside.name x) (λ y y' p. a.spelling x y y' h p) same_heads;
          }

      typed-both : SimTyped a.inside a.size (function_typed new (globals_of all_new) new_function untyped)
          (typed-alone f')
      typed-both =
          function_typed_s a.tokens same_globals (untyped_s a.fits)
          (retyped-same replaced.head.type there.same)

      refused_typing : (x' : Refusal) → (typed-alone f').end ≡ Err x'
          → RefusedAs new alone a.inside a.size x'
      refused_typing x' t =
          let b = mistyped_by x' typed-both t in
          refused_as a.tokens b.0 x' (rest.answer ∙ ap (λ (c : Result Unit Refusal). after_typing all_new c) b.1) b.2

      accepted-alone : (typed-alone f').end ≡ (Ok tt)
          → AcceptedAs e a.inside a.size alone before replaced behind (retyped replaced.head.type f')
      accepted-alone t =
          record {
            before' = (in_front r).functions;
            behind' = rest.behind';
            f = new_function;
            accepted_so = rest.answer ∙ ap (λ (c : Result Unit Refusal). after_typing all_new c) (fine-from typed-both t);
            same = retyped-same replaced.head.type there.same;
            head = same_head;
            read-before = (in_front r).same;
            own = rest.own;
            read_old = rest.read_old;
            read-new = rest.read-new;
          }

  -- behind a function that was read: the end, another function (40), or anything else (7)
  behind-brace : (f' : Function) → read_alone alone ≡ function f' → (b c : Bool)
      → eqb (token_at alone f'.next).kind 38 ≡ b → eqb (token_at alone f'.next).kind 2 ≡ c
      → Follows e before replaced behind alone a
      (then_function refuses (pick b (function f')
      (pick c (no_function (refusal 40 f'.next 0)) (no_function (refusal 7 f'.next 0)))) (λ f.
      typed_as f (typed-alone f)))
  unfolding pick then_function
  behind-brace f' q true c w g = by (typed-alone f').end refl
    where
      ended : f'.next ≡ a.size
      ended = at_size a f'.next (there f' q).same.within (eqb-true _ _ w)

      by : (k : Result Unit Refusal) → (typed-alone f').end ≡ k
          → Follows e before replaced behind alone a (as_typed f' (typed-alone f').table k)
      by (Ok tt) t = accepted-alone f' q ended t
      by (Err x') t = λ n. refused_typing f' q ended x' t
  behind-brace f' q false true w g = λ n. absurd (n refl)
  behind-brace f' q false false w g = λ n.
      left_over f' q (before-size a f'.next (there f' q).same.within (eqb-false _ _ w)) (eqb-false _ _ g)
      (eqb-false _ _ w)

  -- DEMAND 3 on token lists: what recheck says of the new function alone, the whole edited text is.
  pub verdict : Follows e before replaced behind alone a (alone_among alone a.spells (before ++ (replaced ∷ behind)))
  unfolding function_alone alone_d then_function look
  verdict = by (read_alone alone) refl
    where
      by : (x : FunctionAt) → read_alone alone ≡ x
          → Follows e before replaced behind alone a
          (then_function refuses
          (then_function no_function x (λ f.
          look (token_at alone f.next) (λ kind next.
          pick (eqb kind 38) (function f)
          (pick (eqb kind 2) (no_function (refusal 40 f.next 0)) (no_function (refusal 7 f.next 0)))))) (λ f.
          typed_as f (typed-alone f)))
      by (no_function x') q = λ n. refused-alone x' q
      by (function f') q = behind-brace f' q _ _ refl refl
