-- The simulation of demand 3 for one function: on related tokens its header, its body and its blocks are read alike,
-- moved and renamed, or refused alike. Names of functions are compared by equality alone, which the renaming keeps. At
-- the end, the same for all functions of a text, where both readings end behind the related tokens.
use Rattle.std.specs.Prelude.{Err, Ok, Result}
use Prim.Native.Nat.{ℕ, zero, suc, ◌+◌, ◌≤◌, ◌<◌}
use mathlib.Core.Path.{◌≡◌, refl, sym, subst}
use mathlib.Core.List.{List, [], ◌∷◌, ◌++◌}
use mathlib.Core.Bool.{Bool, true, false}
use native.Mathlib.Omega.{arith}
use borrow.Author.Tests.{ltb-true, ltb-false}
use lib.Dec.{eqb, ltb}
use Rattle.lexer.specs.Decoded.{Tok, token_at}
use Rattle.pieces.specs.declared.Identifier.{Identifier}
use Rattle.parser.specs.Step.{look, then_at}
use Rattle.parser.specs.Runs.{Variables}
use Rattle.body.specs.Body.{Item, Body, closed_items}
use Rattle.utils.specs.Bytes.{pick}
use Rattle.link.specs.Edges.{Resolved, resolve_d}
use Rattle.parser.specs.Moved.{Move, Sim, SimName, SimE, SimC, SimR, SimV, SimVs, SimNumber, SimClose, Each, Rel}
use Rattle.body.specs.Moved.{SimItem, SimBrace, SimBody}
use Rattle.link.specs.Moved.{SimResolved}
use Rattle.parser.specs.declared.Refusal.{Refusal}
use Rattle.parser.specs.declared.Ty.{Ty}
use Rattle.parser.specs.declared.Variable.{Variable}
use Rattle.parser.proofs.Sim.{pick_s, then_at_s, then_named_s, then_type_s, ended_s, eqb_s, look_s, kind_s, consume_s, global_s}
use Rattle.parser.proofs.Sim.{type_s, formals_s}
use Rattle.body.proofs.SimBody.{number_of, body_s}
use Rattle.body.proofs.SimItems.{count_s, closed_items_s}
use Rattle.link.proofs.SimBlocks.{body_blocks_s, resolve_s}
use Rattle.functions.specs.Known.{Known, formal_types, signature, type_number, types_after, expected_type}
use Rattle.functions.specs.Functions.{Header, HeaderAt, BuiltAt, FunctionAt, then_header, then_formals, then_entered}
use Rattle.functions.specs.Functions.{then_built, optional_formals, optional_type, entered_d, signature_d, header_d}
use Rattle.functions.specs.Functions.{blocks_in, resolved_items, built_d, is_void, function_d, known_of}
use Rattle.functions.specs.Functions.{Function, Program, program_end, program_stop, program_then, then_function}
use Rattle.functions.specs.Functions.{functions_d}
use Rattle.functions.specs.Moved.{SimKnown, SimEntered, SimHeader, SimHeaderAt, SimBuilt, SimFunction}
use Rattle.functions.specs.Moved.{SimFunctionAt, SimProgram}

-- Function types. -----------------------------------------------------------------------------------------------------

-- renamed formals have the same types
pub formal_types_s : {m : Move} {vs vs' : List Variable} → Each (SimV m) vs vs' → formal_types vs ≡ formal_types vs'
unfolding formal_types
formal_types_s Each.none = refl
formal_types_s (Each.more (SimV.of q t) r) = rw (formal_types_s r) refl

-- .. so that the function type is the same
pub signature_of_s : {m : Move} (ret : Ty) {vs vs' : List Variable} → Each (SimV m) vs vs'
    → signature ret vs ≡ signature ret vs'
signature_of_s ret r = rw (count_s r, formal_types_s r) refl

-- a function type has the same number among related functions
pub type_number_s : {m : Move} {ks ks' : List Known} (signed : List ℕ) (types : ℕ) → Each (SimKnown m) ks ks'
    → type_number ks signed types ≡ type_number ks' signed types
unfolding type_number
type_number_s signed types Each.none = refl
type_number_s signed types (Each.more q r) = rw (q.signed, q.type, type_number_s signed types r) refl

-- a renamed name has the same type already, or is new in both
pub expected_type_s : {m : Move} {ks ks' : List Known} {x x' : ℕ} (type : ℕ) → Each (SimKnown m) ks ks' → SimNumber m x x'
    → expected_type ks x type ≡ expected_type ks' x' type
unfolding expected_type
expected_type_s type Each.none p = refl
expected_type_s type (Each.more q r) (SimName.renamed x h) =
    rw (q.name x h, q.type, expected_type_s type r (SimName.renamed x h)) refl

-- related headers are related as later ones see them
pub known_of_s : {m : Move} {h h' : Header} → SimHeader m h h' → SimKnown m (known_of h) (known_of h')
known_of_s {h' = h'} q =
    record {
      name = λ x l. eqb_s (number_of q.name) (SimName.renamed x l);
      type = q.type;
      signed = rw q.ret (signature_of_s h'.ret q.formals);
    }

-- What follows a step, whatever it is. --------------------------------------------------------------------------------

module _ {A : Type 0} (T : Move → ℕ → A → A → Type 0) (m : Move) (n : ℕ) (f f' : Refusal → A) where
  -- what follows formals
  pub then_formals_s : {c c' : Variables} (k k' : List Variable → ℕ → A) → Rel m n SimVs c c'
      → ((e e' : Refusal) → SimE m n e e' → Rel m n T (f e) (f' e'))
      → ((vs vs' : List Variable) → Each (SimV m) vs vs' → (i : ℕ) → i < n → Rel m n T (k vs (m.by + i)) (k' vs' i))
      → Rel m n T (then_formals f c k) (then_formals f' c' k')
  unfolding then_formals
  then_formals_s {c} {c'} k k' (Rel.is q) w g =
      then_at_s T m n f f' (λ at. k c.list at) (λ at. k' c'.list at) (Rel.is q.end) w
      (λ i h. g c.list c'.list q.list i h)

  -- what follows a name that was entered
  pub then_entered_s : {c c' : Result (ℕ × ℕ) Refusal} (k k' : ℕ → ℕ → A) → Rel m n SimEntered c c'
      → ((e e' : Refusal) → SimE m n e e' → Rel m n T (f e) (f' e'))
      → ((type i : ℕ) → i < n → Rel m n T (k type (m.by + i)) (k' type i))
      → Rel m n T (then_entered f c k) (then_entered f' c' k')
  unfolding then_entered
  then_entered_s k k' (Rel.is (SimEntered.at type i h)) w g = g type i h
  then_entered_s k k' (Rel.is (SimEntered.refused e e' r)) w g = w e e' r

  -- what follows a header
  pub then_header_s : {c c' : HeaderAt} (k k' : Header → ℕ → A) → Rel m n SimHeaderAt c c'
      → ((e e' : Refusal) → SimE m n e e' → Rel m n T (f e) (f' e'))
      → ((h h' : Header) → SimHeader m h h' → (i : ℕ) → i < n → Rel m n T (k h (m.by + i)) (k' h' i))
      → Rel m n T (then_header f c k) (then_header f' c' k')
  unfolding then_header
  then_header_s k k' (Rel.is (SimHeaderAt.header {h} {h'} q i l)) w g = g h h' q i l
  then_header_s k k' (Rel.is (SimHeaderAt.refused e e' r)) w g = w e e' r

  -- what follows a body with its blocks
  pub then_built_s : {c c' : BuiltAt} (k k' : List Item → ℕ → A) → Rel m n SimBuilt c c'
      → ((e e' : Refusal) → SimE m n e e' → Rel m n T (f e) (f' e'))
      → ((is is' : List Item) → Each (SimItem m n) is is' → (i : ℕ) → i ≤ n → 1 ≤ i
      → Rel m n T (k is (m.by + i)) (k' is' i))
      → Rel m n T (then_built f c k) (then_built f' c' k')
  unfolding then_built
  then_built_s k k' (Rel.is (SimBuilt.built {is} {is'} q i h o)) w g = g is is' q i h o
  then_built_s k k' (Rel.is (SimBuilt.refused e e' r)) w g = w e e' r

module _ {m : Move} {n : ℕ} where
  -- related refusals, in the answer of each definition
  unentered : (e e' : Refusal) → SimE m n e e' → Rel m n SimEntered (Err e) (Err e')
  unentered e e' r = Rel.is (SimEntered.refused e e' r)

  unheaded : (e e' : Refusal) → SimE m n e e' → Rel m n SimHeaderAt (HeaderAt.no_header e) (HeaderAt.no_header e')
  unheaded e e' r = Rel.is (SimHeaderAt.refused e e' r)

  unbuilt : (e e' : Refusal) → SimE m n e e' → Rel m n SimBuilt (BuiltAt.not_built e) (BuiltAt.not_built e')
  unbuilt e e' r = Rel.is (SimBuilt.refused e e' r)

  unread : (e e' : Refusal) → SimE m n e e' → Rel m n SimFunctionAt (FunctionAt.no_function e) (FunctionAt.no_function e')
  unread e e' r = Rel.is (SimFunctionAt.refused e e' r)

  -- items whose blocks were taken in order, or their refusal (22, 14)
  resolved_s : {is is' : List Item} {r r' : Resolved} (i : ℕ) → Each (SimItem m n) is is' → i ≤ n → 1 ≤ i
      → SimResolved m n r r'
      → Rel m n SimBuilt (resolved_items is (m.by + i) r) (resolved_items is' i r')
  resolved_s i q h o SimResolved.fine = Rel.is (SimBuilt.built q i h o)
  resolved_s i q h o (SimResolved.refused e e' r) = unbuilt e e' r

  -- what a body gives with its blocks, from where its closing brace was asked for
  end_s : {c c' : Result ℕ Refusal} (is is' : List Item) (name : ℕ) → SimBrace m n c c' → Each (SimItem m n) is is'
      → SimResolved m n (resolve_d (m.by + name) (blocks_in is)) (resolve_d name (blocks_in is'))
      → Rel m n SimBuilt
      (then_at BuiltAt.not_built c (λ next. resolved_items is next (resolve_d (m.by + name) (blocks_in is))))
      (then_at BuiltAt.not_built c' (λ next. resolved_items is' next (resolve_d name (blocks_in is'))))
  unfolding then_at
  end_s is is' name (SimBrace.at i h o) q t = resolved_s i q h o t
  end_s is is' name (SimBrace.refused e e' r) q t = unbuilt e e' r

  -- .. for the items of a body with its added `ret`s
  close_s : {b b' : Body} (void : Bool) (name : ℕ) → name < n → Rel m n SimBody b b'
      → Rel m n SimBuilt
      (then_at BuiltAt.not_built b.end (λ next.
      resolved_items (closed_items void b.items) next
      (resolve_d (m.by + name) (blocks_in (closed_items void b.items)))))
      (then_at BuiltAt.not_built b'.end (λ next.
      resolved_items (closed_items void b'.items) next (resolve_d name (blocks_in (closed_items void b'.items)))))
  close_s {b} {b'} void name l (Rel.is q) =
      end_s (closed_items void b.items) (closed_items void b'.items) name q.end (closed_items_s void q.items)
      (resolve_s name l (body_blocks_s void q.items))

-- The definitions. ----------------------------------------------------------------------------------------------------

module _ {m : Move} {n : ℕ} {ts ts' : List Tok} (s : Sim m n ts ts') where
  -- optional formals
  pub optional_formals_s : (i : ℕ) → i < n → Rel m n SimVs (optional_formals ts (m.by + i)) (optional_formals ts' i)
  unfolding optional_formals
  optional_formals_s i h =
      look_s s SimVs i _ _ h (λ kind next near inner.
      pick_s SimVs m n _ _ _ _ _ (λ e. formals_s s next (kind_s s kind 25 next inner e refl))
      (ended_s _ _ (Rel.is (SimC.at i h))))

  -- an optional type
  pub optional_type_s : (i : ℕ) → i < n → Rel m n SimR (optional_type ts (m.by + i)) (optional_type ts' i)
  unfolding optional_type
  optional_type_s i h =
      look_s s SimR i _ _ h (λ kind next near inner.
      pick_s SimR m n _ _ _ _ _ (λ e. type_s s next (kind_s s kind 29 next inner e refl)) (Rel.is (SimR.at _ i h)))

  module _ {known known' : List Known} (r : Each (SimKnown m) known known') (types : ℕ) where
    -- the name entered: the same number, or 15 with the renamed name
    pub entered_s : {x x' : Identifier} (token : ℕ) → token < n → SimName m x x' → (signed : List ℕ) (i : ℕ) → i < n
        → Rel m n SimEntered (entered_d ts known types (m.by + token) x signed (m.by + i))
        (entered_d ts' known' types token x' signed i)
    unfolding entered_d
    entered_s {x} {x'} token l q signed i h =
        let type = type_number known' signed types in
        rw (type_number_s signed types r, expected_type_s type r (number_of q))
        (pick_s SimEntered m n (eqb (expected_type known' x'.0 type) type) _ _ _ _
        (λ _. then_at_s SimEntered m n Err Err _ _ (consume_s s i 27 h refl) unentered
        (λ next g. Rel.is (SimEntered.at type next g)))
        (unentered _ _ (SimE.named 15 token 4 4 q l)))

    -- what stands behind the name
    pub signature_s : {x x' : Identifier} (token : ℕ) → token < n → SimName m x x' → (i : ℕ) → i < n
        → Rel m n SimHeaderAt (signature_d ts known types (m.by + token) x (m.by + i))
        (signature_d ts' known' types token x' i)
    unfolding signature_d
    signature_s {x} {x'} token l q i h =
        then_formals_s SimHeaderAt m n HeaderAt.no_header HeaderAt.no_header _ _ (optional_formals_s i h) unheaded
        (λ vs vs' p at1 g1.
        then_type_s SimHeaderAt m n HeaderAt.no_header HeaderAt.no_header _ _ (optional_type_s at1 g1) unheaded
        (λ ret at2 g2.
        rw (signature_of_s ret p)
        (then_entered_s SimHeaderAt m n HeaderAt.no_header HeaderAt.no_header _ _
        (entered_s token l q (signature ret vs') at2 g2) unheaded
        (λ type next g.
        Rel.is (SimHeaderAt.header (record { name = q; formals = p; ret = refl; type = refl }) next g)))))

    -- a header, or its refusal; 35 with the moved name token
    pub header_s : (full : Bool) (i : ℕ) → i < n
        → Rel m n SimHeaderAt (header_d ts full known types (m.by + i)) (header_d ts' full known' types i)
    unfolding header_d
    header_s full i h =
        then_named_s SimHeaderAt m n HeaderAt.no_header HeaderAt.no_header _ _ (global_s s i h) unheaded (λ g g' q at1 l.
        pick_s SimHeaderAt m n full _ _ _ _ (λ _. unheaded _ _ (SimE.moved 35 i 0 h)) (signature_s i h q at1 l))

  -- a body with its blocks, from after the opening brace
  pub built_s : (void : Bool) (name i : ℕ) → name < n → i < n
      → Rel m n SimBuilt (built_d ts void (m.by + name) (m.by + i)) (built_d ts' void name i)
  unfolding built_d
  built_s void name i l h = close_s void name l (body_s s 4096 i Each.none refl h)

  -- THE SIMULATION of a function
  pub function_s : {known known' : List Known} → Each (SimKnown m) known known' → (types : ℕ) (full : Bool) (i : ℕ)
      → i < n
      → Rel m n SimFunctionAt (function_d ts full known types (m.by + i)) (function_d ts' full known' types i)
  unfolding function_d
  function_s r types full i h =
      then_header_s SimFunctionAt m n FunctionAt.no_function FunctionAt.no_function _ _ (header_s r types full i h) unread
      (λ a a' q at1 g.
      let body : Rel m n SimBuilt (built_d ts (is_void a.ret) (m.by + i) (m.by + at1))
      (built_d ts' (is_void a'.ret) i at1) =
      rw q.ret (built_s (is_void a'.ret) i at1 h g) in
      then_built_s SimFunctionAt m n FunctionAt.no_function FunctionAt.no_function _ _ body unread (λ is is' p next l o.
      Rel.is
      (SimFunctionAt.function
      (record { token = refl; head = q; items = p; next = refl; within = l; begins = h; closes = o }))))

-- All functions. ------------------------------------------------------------------------------------------------------

-- one related element more
pub each_more : {A : Type 0} {R : A → A → Type 0} {xs xs' : List A} {x x' : A} → Each R xs xs' → R x x'
    → Each R (xs ++ (x ∷ [])) (xs' ++ (x' ∷ []))
each_more Each.none q = Each.more q Each.none
each_more (Each.more p r) q = Each.more p (each_more r q)

module _ {m : Move} {n : ℕ} where
  unended : (e e' : Refusal) → SimE m n e e' → Rel m n SimProgram (program_stop e) (program_stop e')
  unended e e' r = Rel.is (record { functions = Each.none; end = SimClose.refused e e' r })

  ended_at : (i : ℕ) → i ≤ n → Rel m n SimProgram (program_end (Ok (m.by + i))) (program_end (Ok i))
  ended_at i h = Rel.is (record { functions = Each.none; end = SimClose.at i h })

  program_then_s : {f f' : Function} {u u' : Program} → SimFunction m n f f' → Rel m n SimProgram u u'
      → Rel m n SimProgram (program_then f u) (program_then f' u')
  program_then_s q (Rel.is r) = Rel.is (record { functions = Each.more q r.functions; end = r.end })

  -- what follows a function
  then_function_s : {a a' : FunctionAt} (k k' : Function → Program) → Rel m n SimFunctionAt a a'
      → ((f f' : Function) → SimFunction m n f f' → Rel m n SimProgram (k f) (k' f'))
      → Rel m n SimProgram (then_function program_stop a k) (then_function program_stop a' k')
  unfolding then_function
  then_function_s k k' (Rel.is (SimFunctionAt.function {f} {f'} q)) g = g f f' q
  then_function_s k k' (Rel.is (SimFunctionAt.refused e e' r)) g = unended e e' r

-- the end token here, or what follows
abbrev end_or : List Tok → ℕ → Program → Program
end_or ts at u = look (token_at ts at) (λ kind next. pick (eqb kind 38) (program_end (Ok at)) u)

module _ {m : Move} {n : ℕ} {ts ts' : List Tok} (s : Sim m n ts ts')
    (over : (token_at ts (m.by + n)).kind ≡ 38) (over' : (token_at ts' n).kind ≡ 38) where
  -- among the related tokens
  among_s : (i : ℕ) {u u' : Program} → i < n → Rel m n SimProgram u u'
      → Rel m n SimProgram (end_or ts (m.by + i) u) (end_or ts' i u')
  among_s i {u} {u'} h q =
      look_s s SimProgram i (λ kind next. pick (eqb kind 38) (program_end (Ok (m.by + i))) u)
      (λ kind next. pick (eqb kind 38) (program_end (Ok i)) u') h
      (λ kind next near inner. pick_s SimProgram m n (eqb kind 38) _ _ _ _ (λ _. ended_at i (omega arith)) q)

  -- behind them both readings end
  behind_s : (u u' : Program) → Rel m n SimProgram (end_or ts (m.by + n) u) (end_or ts' n u')
  unfolding look pick
  behind_s u u' = rw (over, over') (ended_at n (omega arith))

  end_or_s : (i : ℕ) (u u' : Program) → i ≤ n → (i < n → Rel m n SimProgram u u')
      → Rel m n SimProgram (end_or ts (m.by + i) u) (end_or ts' i u')
  end_or_s i u u' h g = by (ltb i n) refl
    where
      by : (b : Bool) → ltb i n ≡ b → Rel m n SimProgram (end_or ts (m.by + i) u) (end_or ts' i u')
      by true e = among_s i (ltb-true i n e) (g (ltb-true i n e))
      by false e =
          let z : i ≡ n = omega (arith, ltb-false i n e) in
          rw z (behind_s u u')

  -- THE SIMULATION of the functions of a text, from any of its tokens on
  pub functions_s : (room : ℕ) {known known' : List Known} → Each (SimKnown m) known known' → (types i : ℕ) → i ≤ n
      → Rel m n SimProgram (functions_d ts room known types (m.by + i)) (functions_d ts' room known' types i)
  unfolding functions_d
  functions_s zero r types i h =
      end_or_s i _ _ h (λ k.
      then_function_s _ _ (function_s s r types true i k) (λ f f' q. unended _ _ (SimE.moved 35 i 0 k)))
  functions_s (suc room) {known} {known'} r types i h =
      end_or_s i _ _ h (λ k. then_function_s _ _ (function_s s r types false i k) (λ f f' q.
      let seen = known ++ (known_of f.head ∷ []) in
      let seen' = known' ++ (known_of f'.head ∷ []) in
      let types' = types_after types f'.head.type in
      let more : Rel m n SimProgram (functions_d ts room seen types' (m.by + f'.next))
      (functions_d ts' room seen' types' f'.next) =
      functions_s room (each_more r (known_of_s q.head)) types' f'.next q.within in
      program_then_s q
      (subst (λ (type : ℕ). Rel m n SimProgram (functions_d ts room seen (types_after types type) f.next)
      (functions_d ts' room seen' types' f'.next)) (sym q.head.type) (rw q.next more))))
