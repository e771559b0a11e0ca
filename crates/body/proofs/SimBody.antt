-- The simulation of demand 3 for a body: its items are the other's, moved and renamed, and it ends or is refused alike.
use Rattle.std.specs.Prelude.{Ok, Result}
use Prim.Native.Nat.{ℕ, zero, suc, ◌+◌, ◌≤◌, ◌<◌}
use mathlib.Core.Path.{◌≡◌, refl, ap}
use mathlib.Core.List.{List, [], ◌∷◌, ◌++◌}
use mathlib.Core.Bool.{Bool, true, false}
use native.Mathlib.Omega.{arith}
use lib.Dec.{eqb, ltb}
use lib.ListN.{length, get_or}
use Rattle.lexer.specs.Decoded.{Tok, token_at, past, index_behind, with_next}
use Rattle.pieces.specs.declared.Identifier.{Identifier}
use Rattle.parser.specs.Step.{refusal, look, then_at}
use Rattle.parser.specs.Runs.{Calling}
use Rattle.utils.specs.Bytes.{pick}
use Rattle.body.specs.Body.{Item, ItemAt, Body, item_token, is_terminator, body_end, body_stop, body_then}
use Rattle.body.specs.Body.{called_item, parsed_item, item_d, then_item, behind, closes, body_d}
use Rattle.parser.specs.Moved.{Move, Sim, SimName, SimE, SimC, SimO, SimV, SimP, SimCalling, Each, SimNumber, Rel}
use Rattle.body.specs.Moved.{SimItem, SimItemAt, SimBrace, SimBody}
use Rattle.parser.specs.declared.Refusal.{Refusal}
use Rattle.parser.specs.declared.Variable.{Variable}
use Rattle.parser.specs.declared.Parsed.{Parsed}
use Rattle.body.proofs.Turning.{closes_kind}
use Rattle.parser.proofs.Sim.{pick_s, test_s, then_named_s, labelled_s, instruction_s, call_s}

-- an item's token is moved ..
pub token-moved : {m : Move} {n : ℕ} {i i' : Item} → SimItem m n i i' → item_token i ≡ m.by + item_token i'
token-moved (SimItem.label w q h) = refl
token-moved (SimItem.plain (SimO.binary w v x y h)) = refl
token-moved (SimItem.plain (SimO.unary w v x h)) = refl
token-moved (SimItem.plain (SimO.const w v h)) = refl
token-moved (SimItem.plain (SimO.jump w x h)) = refl
token-moved (SimItem.plain (SimO.branch w x y z h)) = refl
token-moved (SimItem.plain (SimO.ret w h)) = refl
token-moved (SimItem.plain (SimO.ret_value w x h)) = refl
token-moved (SimItem.plain (SimO.print w x h)) = refl
token-moved (SimItem.plain (SimO.nop w h)) = refl
token-moved (SimItem.call w q r h) = refl
token-moved (SimItem.call_into w v q r h) = refl

-- .. and is one of the first n
pub token-below : {m : Move} {n : ℕ} {i i' : Item} → SimItem m n i i' → item_token i' < n
token-below (SimItem.label w q h) = h
token-below (SimItem.plain (SimO.binary w v x y h)) = h
token-below (SimItem.plain (SimO.unary w v x h)) = h
token-below (SimItem.plain (SimO.const w v h)) = h
token-below (SimItem.plain (SimO.jump w x h)) = h
token-below (SimItem.plain (SimO.branch w x y z h)) = h
token-below (SimItem.plain (SimO.ret w h)) = h
token-below (SimItem.plain (SimO.ret_value w x h)) = h
token-below (SimItem.plain (SimO.print w x h)) = h
token-below (SimItem.plain (SimO.nop w h)) = h
token-below (SimItem.call w q r h) = h
token-below (SimItem.call_into w v q r h) = h

-- a terminator stays one
pub terminator_kept : {m : Move} {n : ℕ} {i i' : Item} → SimItem m n i i' → is_terminator i ≡ is_terminator i'
terminator_kept (SimItem.label w q h) = refl
terminator_kept (SimItem.plain (SimO.binary w v x y h)) = refl
terminator_kept (SimItem.plain (SimO.unary w v x h)) = refl
terminator_kept (SimItem.plain (SimO.const w v h)) = refl
terminator_kept (SimItem.plain (SimO.jump w x h)) = refl
terminator_kept (SimItem.plain (SimO.branch w x y z h)) = refl
terminator_kept (SimItem.plain (SimO.ret w h)) = refl
terminator_kept (SimItem.plain (SimO.ret_value w x h)) = refl
terminator_kept (SimItem.plain (SimO.print w x h)) = refl
terminator_kept (SimItem.plain (SimO.nop w h)) = refl
terminator_kept (SimItem.call w q r h) = refl
terminator_kept (SimItem.call_into w v q r h) = refl

-- one label more
pub number_of : {m : Move} {l l' : Identifier} → SimName m l l' → SimNumber m l.0 l'.0
number_of (SimName.renamed x h) = SimName.renamed x h

pub each_snoc : {m : Move} {xs xs' : List ℕ} {l l' : Identifier} → Each (SimNumber m) xs xs' → SimName m l l'
    → Each (SimNumber m) (xs ++ (l.0 ∷ [])) (xs' ++ (l'.0 ∷ []))
each_snoc Each.none q = Each.more (number_of q) Each.none
each_snoc (Each.more p r) q = Each.more p (each_snoc r q)

-- a closing brace is followed by the next index
brace-past : (ts : List Tok) (at : ℕ) → (token_at ts at).kind ≡ 28 → 1 ≤ (token_at ts at).next
unfolding token_at pick
brace-past ts at = by (ltb at (length ts)) (get_or ts at past)
  where
    by : (b : Bool) (t : Tok) → (pick b (with_next t (index_behind t.kind at)) (with_next past at)).kind ≡ 28
        → 1 ≤ (pick b (with_next t (index_behind t.kind at)) (with_next past at)).next
    by true t e = rw e (omega arith)
    by false t e = absurd (omega (arith, e))

module _ {m : Move} {n : ℕ} where
  ended : (i : ℕ) → i ≤ n → 1 ≤ i → Rel m n SimBody (body_end (Ok (m.by + i))) (body_end (Ok i))
  ended i h g = Rel.is (record { items = Each.none; end = SimBrace.at i h g })

  stopped : (e e' : Refusal) → SimE m n e e' → Rel m n SimBody (body_stop e) (body_stop e')
  stopped e e' r = Rel.is (record { items = Each.none; end = SimBrace.refused e e' r })

  with_item : {i i' : Item} (r r' : Body) → SimItem m n i i' → Rel m n SimBody r r'
      → Rel m n SimBody (body_then i r) (body_then i' r')
  with_item r r' q (Rel.is p) = Rel.is (record { items = Each.more q p.items; end = p.end })

  -- 12, with the item's own token
  twelfth : {i i' : Item} → SimItem m n i i'
      → Rel m n SimBody (body_stop (refusal 12 (item_token i) 0)) (body_stop (refusal 12 (item_token i') 0))
  twelfth q = rw (token-moved q) (stopped _ _ (SimE.moved 12 _ 0 (token-below q)))

  -- an item that was read, or its refusal
  read : {i i' : Item} → SimItem m n i i' → (at : ℕ) → at < n
      → Rel m n SimItemAt (ItemAt.item i (m.by + at)) (ItemAt.item i' at)
  read q at h = Rel.is (SimItemAt.item q at h)

  unread : (e e' : Refusal) → SimE m n e e' → Rel m n SimItemAt (ItemAt.refused e) (ItemAt.refused e')
  unread e e' r = Rel.is (SimItemAt.refused e e' r)

  -- a call's end, whatever the call is made into
  after_end : {c c' : Result ℕ Refusal} (i i' : Item) → SimC m n c c' → SimItem m n i i'
      → Rel m n SimItemAt (then_at ItemAt.refused c (λ at. ItemAt.item i at))
      (then_at ItemAt.refused c' (λ at. ItemAt.item i' at))
  unfolding then_at
  after_end i i' (SimC.at at h) q = read q at h
  after_end i i' (SimC.refused e e' r) q = unread e e' r

  after_call : {c c' : Calling} (make make' : Identifier → List Variable → Item) → Rel m n SimCalling c c'
      → ((g g' : Identifier) (xs xs' : List Variable) → SimName m g g' → Each (SimV m) xs xs'
      → SimItem m n (make g xs) (make' g' xs'))
      → Rel m n SimItemAt (called_item c make) (called_item c' make')
  unfolding called_item then_at
  after_call make make' (Rel.is (SimCalling.called {g} {g'} {r} {r'} q v)) go =
      after_end (make g r.list) (make' g' r'.list) v.end (go g g' r.list r'.list q v.list)
  after_call make make' (Rel.is (SimCalling.refused e e' r)) go = unread e e' r

  after_item : {a a' : ItemAt} (k k' : Item → ℕ → Body) → Rel m n SimItemAt a a'
      → ((i i' : Item) → SimItem m n i i' → (at : ℕ) → at < n → Rel m n SimBody (k i (m.by + at)) (k' i' at))
      → Rel m n SimBody (then_item body_stop a k) (then_item body_stop a' k')
  unfolding then_item
  after_item k k' (Rel.is (SimItemAt.item q at h)) go = go _ _ q at h
  after_item k k' (Rel.is (SimItemAt.refused e e' r)) go = stopped e e' r

module _ {m : Move} {n : ℕ} {ts ts' : List Tok} (s : Sim m n ts ts') where
  parsed : {p p' : Result Parsed Refusal} → Rel m n SimP p p'
      → Rel m n SimItemAt (parsed_item ts p) (parsed_item ts' p')
  unfolding parsed_item
  parsed (Rel.is (SimP.done q i h)) = read (SimItem.plain q) i h
  parsed (Rel.is (SimP.call i h)) = after_call _ _ (call_s s i h) (λ g g' xs xs' p q. SimItem.call i p q h)
  parsed (Rel.is (SimP.call_into v i h)) = after_call _ _ (call_s s i h)
      (λ g g' xs xs' p q. SimItem.call_into i v p q h)
  parsed (Rel.is (SimP.refused e e' r)) = unread e e' r

  pub item_s : (i : ℕ) → i < n → Rel m n SimItemAt (item_d ts (m.by + i)) (item_d ts' i)
  unfolding item_d
  item_s i h = parsed (instruction_s s i h)

  -- a look at a token that may be the closing brace
  look-closing : (i : ℕ) (k k' : ℕ → ℕ → Body) → i < n
      → ((kind next : ℕ) → next ≤ n → (kind ≡ 28 → 1 ≤ next) → Rel m n SimBody (k kind (m.by + next)) (k' kind next))
      → Rel m n SimBody (look (token_at ts (m.by + i)) k) (look (token_at ts' i) k')
  unfolding look
  look-closing i k k' h g =
      rw (s.same i h) (g (token_at ts' i).kind (token_at ts' i).next (s.near i h) (brace-past ts' i))

  -- THE SIMULATION of a body
  pub body_s : (room : ℕ) {ls ls' : List ℕ} {before before' : ℕ} (i : ℕ)
      → Each (SimNumber m) ls ls' → before ≡ before' → i < n
      → Rel m n SimBody (body_d ts room ls before (m.by + i)) (body_d ts' room ls' before' i)
  unfolding body_d closes behind
  body_s zero i r c h = stopped _ _ (SimE.moved 0 i 0 h)
  body_s (suc room) {before = before} {before' = before'} i r c h =
      look-closing i _ _ h (λ kind next near past.
      test_s SimBody m n (closes before kind) (closes before' kind) _ _ _ _ (ap (λ (b : ℕ). closes b kind) c)
      (λ e. ended next near (past (closes_kind before' kind e)))
      (pick_s SimBody m n _ _ _ _ _
      (λ _. then_named_s SimBody m n body_stop body_stop _ _ (labelled_s s r i h) stopped (λ l l' q at1 g.
      with_item _ _ (SimItem.label i q h) (body_s room at1 (each_snoc r q) refl g)))
      (after_item _ _ (item_s i h) (λ j j' q at1 g.
      test_s SimBody m n (eqb before 3) (eqb before' 3) _ _ _ _ (ap (λ (b : ℕ). eqb b 3) c) (λ _. twelfth q)
      (with_item _ _ q (body_s room at1 r (ap (λ (b : Bool). pick b 3 2) (terminator_kept q)) g))))))
