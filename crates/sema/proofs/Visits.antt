-- A name's type never changes once it is entered, so that the table which a function's typing leaves has for every
-- operand the type that was found at its visit.
use Rattle.std.specs.Prelude.{Err, Ok, Result}
use Prim.Native.Nat.{ℕ}
use mathlib.Core.Path.{◌≡◌, refl, sym, ap, subst, ◌∙◌}
use mathlib.Core.List.{List, [], ◌∷◌}
use mathlib.Core.Bool.{Bool, true, false}
use native.Mathlib.Omega.{arith}
use borrow.Author.Tests.{eqb-true, eqb-false}
use lib.Dec.{eqb, leb}
use lib.ListN.{length, get_or, set}
use lib.Seq.{get_or-set_other}
use Rattle.utils.specs.Bytes.{pick}
use Rattle.lexer.specs.Decoded.{Tok, token_at}
use Rattle.pieces.specs.declared.Identifier.{Identifier}
use Rattle.parser.specs.Step.{refusal}
use Rattle.parser.specs.Runs.{type_cell}
use Rattle.body.specs.Body.{Item, label, plain, call, call_into, is_terminator, item_token}
use Rattle.parser.specs.declared.Refusal.{Refusal}
use Rattle.parser.specs.declared.Variable.{Variable}
use Rattle.parser.specs.declared.Operation.{Operation}
use Rattle.parser.specs.declared.Operation.TheVariants as O
use Rattle.functions.specs.Functions.{Function}
use Rattle.sema.specs.Symbols.{Typed, on, stop, then_end, then_typed, facts, no_name, enter_d, then_look, then_same}
use Rattle.parser.specs.Types.{int, bool, void}
use Rattle.sema.specs.Typing.{then_three, operands_d, type_binary_d, operand_d, type_unary_d, type_const_d}
use Rattle.sema.specs.Typing.{type_ret_value_d, type_ret_d, Global, absent, global, present_d, types_of, same_all}
use Rattle.sema.specs.Typing.{type_arguments_d, then_global, type_call_d, type_call_into_d, type_plain_d, type_item_d}
use Rattle.sema.specs.Blocks.{type_items_d, type_end_d, type_block_d, enter_formals_d, type_blocks_d, type_function_d}
use Rattle.sema.specs.Program.{globals_of, ordered_blocks, type_program_d}
use Rattle.sema.specs.Visits.{looks_of, operation_looks, looks, looked_in, visit, items_visits, blocks_visits}
use Rattle.sema.specs.Visits.{function_visits, items_looks, blocks_looks, Keeps, AllFound, ItemsFound, BlocksFound}
use Rattle.sema.specs.Visits.{typed_function, Final, EachFinal}

pub keeps_same : (t : List ℕ) → Keeps t t
keeps_same t x h = refl

pub keeps_on : (t t₁ t₂ : List ℕ) → Keeps t t₁ → Keeps t₁ t₂ → Keeps t t₂
keeps_on t t₁ t₂ a b x h = b x (λ e. h (sym (a x h) ∙ e)) ∙ a x h

-- Steps. ------------------------------------------------------------------------------------------------------------

pub enter-keeps : (t : List ℕ) (token : ℕ) (name : Identifier) (type : ℕ) → Keeps t (enter_d t token name type).table
unfolding enter_d pick
enter-keeps t token name type = by (eqb (get_or t name.0 0) 0) refl (eqb (get_or t name.0 0) type)
  where
    by : (b : Bool) → eqb (get_or t name.0 0) 0 ≡ b → (e : Bool)
        → Keeps t
        (pick b (on (set t name.0 type))
        (pick e (on t) (stop t (facts 15 token (get_or t name.0 0) type name)))).table
    by true q e x h =
        get_or-set_other t name.0 x type 0
        (λ z. h (ap (λ (k : ℕ). get_or t k 0) z ∙ eqb-true (get_or t name.0 0) 0 q))
    by false q true x h = refl
    by false q false x h = refl

pick-keeps : (t : List ℕ) (b : Bool) (u v : Typed) → Keeps t u.table → Keeps t v.table
    → Keeps t (pick b u v).table
unfolding pick
pick-keeps t true u v p q = p
pick-keeps t false u v p q = q

then_keeps : (t : List ℕ) (this : Typed) (k : List ℕ → Typed) → Keeps t this.table
    → ((t₁ : List ℕ) → Keeps t₁ (k t₁).table) → Keeps t (then_typed this k).table
unfolding then_typed then_end
then_keeps t this k p q = by this.end
  where
    by : (e : Result Unit Refusal) → Keeps t (then_end e (k this.table) this).table
    by (Ok tt) = keeps_on t this.table (k this.table).table p (q this.table)
    by (Err e) = p

same-keeps : (t t₁ : List ℕ) (token found wanted : ℕ) (next : Typed) → Keeps t t₁ → Keeps t next.table
    → Keeps t (then_same t₁ token found wanted next).table
unfolding then_same
same-keeps t t₁ token found wanted next p q =
    pick-keeps t (eqb found wanted) next (stop t₁ (facts 17 token wanted found no_name)) q p

look-keeps : (t : List ℕ) (token : ℕ) (x : Identifier) (k : ℕ → Typed) → ((n : ℕ) → Keeps t (k n).table)
    → Keeps t (then_look t token x k).table
unfolding then_look
look-keeps t token x k q =
    pick-keeps t (eqb (get_or t x.0 0) 0) (stop t (facts 16 token 0 0 x)) (k (get_or t x.0 0)) (keeps_same t)
    (q (get_or t x.0 0))

-- Operations. -------------------------------------------------------------------------------------------------------

three_keeps : (t : List ℕ) (token result left right a b : ℕ) → Keeps t (then_three t token result left right a b).table
unfolding then_three
three_keeps t token result left right a b =
    same-keeps t t token result a _ (keeps_same t)
    (same-keeps t t token left b _ (keeps_same t)
    (same-keeps t t token right b (on t) (keeps_same t) (keeps_same t)))

operands_keep : (t : List ℕ) (kind token result left right : ℕ)
    → Keeps t (operands_d t kind token result left right).table
unfolding operands_d
operands_keep t kind token result left right =
    pick-keeps t (leb kind 9) _ _ (three_keeps t token result left right int int)
    (pick-keeps t (eqb kind 12) _ _
    (same-keeps t t token right left _ (keeps_same t)
    (same-keeps t t token result bool (on t) (keeps_same t) (keeps_same t)))
    (pick-keeps t (leb kind 16) _ _ (three_keeps t token result left right bool int)
    (three_keeps t token result left right bool bool)))

operand_keeps : (t : List ℕ) (kind token type operand : ℕ) → Keeps t (operand_d t kind token type operand).table
unfolding operand_d
operand_keeps t kind token type operand =
    pick-keeps t (eqb kind 37) _ _ (same-keeps t t token operand type (on t) (keeps_same t) (keeps_same t))
    (same-keeps t t token type bool _ (keeps_same t)
    (same-keeps t t token operand bool (on t) (keeps_same t) (keeps_same t)))

present_keeps : (t : List ℕ) (token : ℕ) (xs : List Variable) → Keeps t (present_d t token xs).table
unfolding present_d
present_keeps t token [] = keeps_same t
present_keeps t token (x ∷ xs) =
    look-keeps t token x.id (λ type. present_d t token xs) (λ n. present_keeps t token xs)

all_keep : (t : List ℕ) (token : ℕ) (fs ws : List ℕ) → Keeps t (same_all t token fs ws).table
unfolding same_all
all_keep t token [] ws = keeps_same t
all_keep t token (f ∷ fs) [] = keeps_same t
all_keep t token (f ∷ fs) (w ∷ ws) =
    same-keeps t t token f w (same_all t token fs ws) (keeps_same t) (all_keep t token fs ws)

arguments_keep : (t : List ℕ) (token : ℕ) (formals : List ℕ) (xs : List Variable)
    → Keeps t (type_arguments_d t token formals xs).table
unfolding type_arguments_d
arguments_keep t token formals xs =
    pick-keeps t (eqb (length formals) (length xs)) _ _
    (then_keeps t (present_d t token xs) (λ t₁. same_all t₁ token (types_of t₁ xs) formals) (present_keeps t token xs)
    (λ t₁. all_keep t₁ token (types_of t₁ xs) formals))
    (keeps_same t)

plain-keeps : (ts : List Tok) (ret : ℕ) (t : List ℕ) (o : Operation) → Keeps t (type_plain_d ts ret t o).table
unfolding type_plain_d type_binary_d type_unary_d type_const_d type_ret_value_d type_ret_d
plain-keeps ts ret t (O.BinaryOp w v x y) =
    look-keeps t w x _ (λ left.
    look-keeps t w y _ (λ right.
    then_keeps t (enter_d t w v.id (type_cell v.ty))
    (λ t₁. operands_d t₁ (token_at ts w).kind w (type_cell v.ty) left right)
    (enter-keeps t w v.id (type_cell v.ty))
    (λ t₁. operands_keep t₁ (token_at ts w).kind w (type_cell v.ty) left right)))
plain-keeps ts ret t (O.UnaryOp w v x) =
    look-keeps t w x _ (λ operand.
    then_keeps t (enter_d t w v.id (type_cell v.ty))
    (λ t₁. operand_d t₁ (token_at ts w).kind w (type_cell v.ty) operand)
    (enter-keeps t w v.id (type_cell v.ty))
    (λ t₁. operand_keeps t₁ (token_at ts w).kind w (type_cell v.ty) operand))
plain-keeps ts ret t (O.Const w v) =
    same-keeps t t w (pick (eqb (token_at ts w).kind 4) int bool) (type_cell v.ty)
    (enter_d t w v.id (type_cell v.ty)) (keeps_same t) (enter-keeps t w v.id (type_cell v.ty))
plain-keeps ts ret t (O.Jump w l) = keeps_same t
plain-keeps ts ret t (O.Branch w x l m) = keeps_same t
plain-keeps ts ret t (O.Ret w) =
    pick-keeps t (eqb ret void) (on t) (stop t (refusal 19 w 0)) (keeps_same t) (keeps_same t)
plain-keeps ts ret t (O.RetValue w x) =
    look-keeps t w x _ (λ found.
    pick-keeps t (eqb ret void) (stop t (refusal 18 w 0)) (then_same t w found ret (on t)) (keeps_same t)
    (same-keeps t t w found ret (on t) (keeps_same t) (keeps_same t)))
plain-keeps ts ret t (O.Print w x) = keeps_same t
plain-keeps ts ret t (O.Nop w) = keeps_same t

call-keeps : (t : List ℕ) (g : Global) (token : ℕ) (callee : Identifier) (xs : List Variable)
    → Keeps t (type_call_d t g token callee xs).table
unfolding type_call_d then_global
call-keeps t absent token callee xs = keeps_same t
call-keeps t (global ret formals) token callee xs =
    pick-keeps t (eqb ret void) (type_arguments_d t token formals xs) (stop t (refusal 19 token 0))
    (arguments_keep t token formals xs) (keeps_same t)

call_into-keeps : (t : List ℕ) (g : Global) (token : ℕ) (result : Identifier) (type : ℕ) (callee : Identifier)
    (xs : List Variable) → Keeps t (type_call_into_d t g token result type callee xs).table
unfolding type_call_into_d then_global
call_into-keeps t absent token result type callee xs = keeps_same t
call_into-keeps t (global ret formals) token result type callee xs =
    pick-keeps t (eqb ret void) (stop t (refusal 18 token 0)) _ (keeps_same t)
    (same-keeps t t token type ret _ (keeps_same t)
    (then_keeps t (enter_d t token result type) (λ t₁. type_arguments_d t₁ token formals xs) (enter-keeps t token result
    type)
    (λ t₁. arguments_keep t₁ token formals xs)))

-- Items, blocks, functions. -----------------------------------------------------------------------------------------

module _ (ts : List Tok) (globals : ℕ → Global) (ret : ℕ) where
  pub analyze_keeps : (t : List ℕ) (i : Item) → Keeps t (type_item_d ts globals ret t i).table
  unfolding type_item_d
  analyze_keeps t (label w l) = keeps_same t
  analyze_keeps t (plain o) = plain-keeps ts ret t o
  analyze_keeps t (call w g xs) = call-keeps t (globals g.0) w g xs
  analyze_keeps t (call_into w v g xs) = call_into-keeps t (globals g.0) w v.id (type_cell v.ty) g xs

  pub items_keep : (is : List Item) (t : List ℕ) → Keeps t (type_items_d ts globals ret t is).table
  unfolding type_items_d
  items_keep [] t = keeps_same t
  items_keep (i ∷ is) t =
      then_keeps t (type_item_d ts globals ret t i) (λ t₁. type_items_d ts globals ret t₁ is) (analyze_keeps t i)
      (λ t₁. items_keep is t₁)

  end-keeps : (is : List Item) (t : List ℕ) → Keeps t (type_end_d t is).table
  unfolding type_end_d
  end-keeps [] t = keeps_same t
  end-keeps (i ∷ []) t =
      pick-keeps t (is_terminator i) (on t) (stop t (refusal 21 (item_token i) 0)) (keeps_same t) (keeps_same t)
  end-keeps (i ∷ j ∷ is) t = end-keeps (j ∷ is) t

  pub block-keeps : (is : List Item) (t : List ℕ) → Keeps t (type_block_d ts globals ret t is).table
  unfolding type_block_d
  block-keeps is t =
      then_keeps t (type_items_d ts globals ret t is) (λ t₁. type_end_d t₁ is) (items_keep is t) (λ t₁. end-keeps is t₁)

  pub blocks_keep : (bs : List (List Item)) (t : List ℕ) → Keeps t (type_blocks_d ts globals ret t bs).table
  unfolding type_blocks_d
  blocks_keep [] t = keeps_same t
  blocks_keep (b ∷ bs) t =
      then_keeps t (type_block_d ts globals ret t b) (λ t₁. type_blocks_d ts globals ret t₁ bs) (block-keeps b t)
      (λ t₁. blocks_keep bs t₁)

  pub formals_keep : (token : ℕ) (vs : List Variable) (t : List ℕ) → Keeps t (enter_formals_d t token vs).table
  unfolding enter_formals_d
  formals_keep token [] t = keeps_same t
  formals_keep token (v ∷ vs) t =
      then_keeps t (enter_d t token v.id (type_cell v.ty)) (λ t₁. enter_formals_d t₁ token vs)
      (enter-keeps t token v.id (type_cell v.ty)) (λ t₁. formals_keep token vs t₁)

  -- A NAME'S TYPE NEVER CHANGES once it is entered
  pub kept : (token : ℕ) (formals : List Variable) (blocks : List (List Item)) (t : List ℕ)
      → Keeps t (type_function_d ts globals ret token formals blocks t).table
  unfolding type_function_d
  kept token formals blocks t =
      then_keeps t (enter_formals_d t token formals) (λ t₁. type_blocks_d ts globals ret t₁ blocks)
      (formals_keep token formals t)
      (λ t₁. blocks_keep blocks t₁)

-- What a fine end says. ---------------------------------------------------------------------------------------------

refused-fine : {e : Refusal} → ◌≡◌ {A = Result Unit Refusal} (Err e) (Ok tt) → ⊥
refused-fine h = let z : ◌≡◌ {A = ℕ} 0 1 = cc in omega arith

end_of : (u v : Typed) → u ≡ v → u.end ≡ Ok tt → v.end ≡ Ok tt
end_of u v e h = ap (λ (x : Typed). x.end) (sym e) ∙ h

fine_then : (this : Typed) (k : List ℕ → Typed) → (then_typed this k).end ≡ Ok tt
    → (this.end ≡ Ok tt) × (then_typed this k ≡ k this.table)
unfolding then_typed then_end
fine_then this k h = by this.end refl h
  where
    by : (e : Result Unit Refusal) → this.end ≡ e → (then_end e (k this.table) this).end ≡ Ok tt
        → (this.end ≡ Ok tt) × (then_end e (k this.table) this ≡ k this.table)
    by (Ok tt) q g = (q, refl)
    by (Err e) q g = absurd (refused-fine (sym q ∙ g))

fine-first : (b : Bool) (u : Typed) (t : List ℕ) (e : Refusal) → (pick b u (stop t e)).end ≡ Ok tt
    → pick b u (stop t e) ≡ u
unfolding pick
fine-first true u t e h = refl
fine-first false u t e h = absurd (refused-fine h)

fine_second : (b : Bool) (u : Typed) (t : List ℕ) (e : Refusal) → (pick b (stop t e) u).end ≡ Ok tt
    → (b ≡ false) × (pick b (stop t e) u ≡ u)
unfolding pick
fine_second true u t e h = absurd (refused-fine h)
fine_second false u t e h = (refl, refl)

fine-same : (t : List ℕ) (token found wanted : ℕ) (next : Typed) → (then_same t token found wanted next).end ≡ Ok tt
    → then_same t token found wanted next ≡ next
unfolding then_same
fine-same t token found wanted next h =
    fine-first (eqb found wanted) next t (facts 17 token wanted found no_name) h

fine-look : (t : List ℕ) (token : ℕ) (x : Identifier) (k : ℕ → Typed) → (then_look t token x k).end ≡ Ok tt
    → (get_or t x.0 0 ≡ 0 → ⊥) × ((k (get_or t x.0 0)).end ≡ Ok tt)
unfolding then_look
fine-look t token x k h =
    let known : ℕ = get_or t x.0 0 in
    let p = fine_second (eqb known 0) (k known) t (facts 16 token 0 0 x) h in
    (eqb-false known 0 p.0, end_of (pick (eqb known 0) (stop t (facts 16 token 0 0 x)) (k known)) (k known) p.1 h)

-- Operands that are looked up have a type at their visit. ------------------------------------------------------------

present_found : (t : List ℕ) (token : ℕ) (xs : List Variable) → (present_d t token xs).end ≡ Ok tt
    → AllFound (looks_of t xs)
unfolding present_d looks_of
present_found t token [] h = tt
present_found t token (x ∷ xs) h =
    let p = fine-look t token x.id (λ type. present_d t token xs) h in
    (p.0, present_found t token xs p.1)

arguments-found : (t : List ℕ) (token : ℕ) (formals : List ℕ) (xs : List Variable)
    → (type_arguments_d t token formals xs).end ≡ Ok tt → AllFound (looks_of t xs)
unfolding type_arguments_d
arguments-found t token formals xs h =
    let u : Typed = then_typed (present_d t token xs) (λ t₁. same_all t₁ token (types_of t₁ xs) formals) in
    let e : Refusal = facts 20 token (length formals) (length xs) no_name in
    let b : Bool = eqb (length formals) (length xs) in
    let p = end_of (pick b u (stop t e)) u (fine-first b u t e h) h in
    present_found t token xs
    (fine_then (present_d t token xs) (λ t₁. same_all t₁ token (types_of t₁ xs) formals) p).0

plain-found : (ts : List Tok) (ret : ℕ) (t : List ℕ) (o : Operation) → (type_plain_d ts ret t o).end ≡ Ok tt
    → AllFound (operation_looks t o)
unfolding type_plain_d type_binary_d type_unary_d type_ret_value_d
plain-found ts ret t (O.BinaryOp w v x y) h =
    let p = fine-look t w x _ h in
    let q = fine-look t w y _ p.1 in
    (p.0, (q.0, tt))
plain-found ts ret t (O.UnaryOp w v x) h = ((fine-look t w x _ h).0, tt)
plain-found ts ret t (O.Const w v) h = tt
plain-found ts ret t (O.Jump w l) h = tt
plain-found ts ret t (O.Branch w x l m) h = tt
plain-found ts ret t (O.Ret w) h = tt
plain-found ts ret t (O.RetValue w x) h = ((fine-look t w x _ h).0, tt)
plain-found ts ret t (O.Print w x) h = tt
plain-found ts ret t (O.Nop w) h = tt

call-found : (t : List ℕ) (g : Global) (token : ℕ) (callee : Identifier) (xs : List Variable)
    → (type_call_d t g token callee xs).end ≡ Ok tt → AllFound (looks_of t xs)
unfolding type_call_d then_global
call-found t absent token callee xs h = absurd (refused-fine h)
call-found t (global ret formals) token callee xs h =
    let u : Typed = type_arguments_d t token formals xs in
    let e : Refusal = refusal 19 token 0 in
    arguments-found t token formals xs
    (end_of (pick (eqb ret void) u (stop t e)) u (fine-first (eqb ret void) u t e h) h)

-- a call with a result: arguments in the table with the result
call_into-found : (t : List ℕ) (g : Global) (token : ℕ) (result : Identifier) (type : ℕ) (callee : Identifier)
    (xs : List Variable) → (type_call_into_d t g token result type callee xs).end ≡ Ok tt
    → AllFound (looks_of (enter_d t token result type).table xs)
    × Keeps (enter_d t token result type).table (type_call_into_d t g token result type callee xs).table
unfolding type_call_into_d then_global
call_into-found t absent token result type callee xs h = absurd (refused-fine h)
call_into-found t (global ret formals) token result type callee xs h =
    let t₁ : List ℕ = (enter_d t token result type).table in
    let last : Typed = type_arguments_d t₁ token formals xs in
    let then : Typed = then_typed (enter_d t token result type) (λ t₁. type_arguments_d t₁ token formals xs) in
    let same : Typed = then_same t token type ret then in
    let e : Refusal = refusal 18 token 0 in
    let all : Typed = pick (eqb ret void) (stop t e) same in
    let p : all ≡ same = (fine_second (eqb ret void) same t e h).1 in
    let q : same ≡ then = fine-same t token type ret then (end_of all same p h) in
    let r : then ≡ last =
    (fine_then (enter_d t token result type) (λ t₁. type_arguments_d t₁ token formals xs)
    (end_of all then (p ∙ q) h)).1 in
    let is : last ≡ all = sym (p ∙ q ∙ r) in (
      arguments-found t₁ token formals xs (end_of all last (sym is) h),
      subst (λ (u : Typed). Keeps t₁ u.table) is (arguments_keep t₁ token formals xs),
    )

-- The last table. ---------------------------------------------------------------------------------------------------

looks_of-same : (t t' : List ℕ) (xs : List Variable) → Keeps t t' → AllFound (looks_of t xs)
    → looks_of t xs ≡ looks_of t' xs
unfolding looks_of
looks_of-same t t' [] k h = refl
looks_of-same t t' (x ∷ xs) k h = rw (k x.id.0 h.0, looks_of-same t t' xs k h.1)

operation-same : (t t' : List ℕ) (o : Operation) → Keeps t t' → AllFound (operation_looks t o)
    → operation_looks t o ≡ operation_looks t' o
operation-same t t' (O.BinaryOp w v x y) k h = rw (k x.0 h.0, k y.0 h.1.0)
operation-same t t' (O.UnaryOp w v x) k h = rw (k x.0 h.0)
operation-same t t' (O.Const w v) k h = refl
operation-same t t' (O.Jump w l) k h = refl
operation-same t t' (O.Branch w x l m) k h = refl
operation-same t t' (O.Ret w) k h = refl
operation-same t t' (O.RetValue w x) k h = rw (k x.0 h.0)
operation-same t t' (O.Print w x) k h = refl
operation-same t t' (O.Nop w) k h = refl

looks-same : (t t' : List ℕ) (i : Item) → Keeps t t' → AllFound (looks t i) → looks t i ≡ looks t' i
unfolding looks
looks-same t t' (label w l) k h = refl
looks-same t t' (plain o) k h = operation-same t t' o k h
looks-same t t' (call w g xs) k h = looks_of-same t t' xs k h
looks-same t t' (call_into w v g xs) k h = looks_of-same t t' xs k h

module _ (ts : List Tok) (globals : ℕ → Global) (ret : ℕ) where
  -- one item, at its visit
  pub analyze_found : (t : List ℕ) (i : Item) → (type_item_d ts globals ret t i).end ≡ Ok tt
      → AllFound (visit t i) × Keeps (looked_in t i) (type_item_d ts globals ret t i).table
  unfolding type_item_d looks looked_in
  analyze_found t (label w l) h = (tt, keeps_same t)
  analyze_found t (plain o) h = (plain-found ts ret t o h, plain-keeps ts ret t o)
  analyze_found t (call w g xs) h = (call-found t (globals g.0) w g xs h, call-keeps t (globals g.0) w g xs)
  analyze_found t (call_into w v g xs) h =
      call_into-found t (globals g.0) w v.id (type_cell v.ty) g xs h

  items_final : (is : List Item) (t last : List ℕ) → (type_items_d ts globals ret t is).end ≡ Ok tt
      → Keeps (type_items_d ts globals ret t is).table last
      → (items_visits ts globals ret t is ≡ items_looks last is) × ItemsFound (items_visits ts globals ret t is)
  unfolding type_items_d items_visits items_looks
  items_final [] t last h k = (refl, tt)
  items_final (i ∷ is) t last h k =
      let this : Typed = type_item_d ts globals ret t i in
      let t₁ : List ℕ = this.table in
      let rest : Typed = type_items_d ts globals ret t₁ is in
      let all : Typed = then_typed this (λ t₁. type_items_d ts globals ret t₁ is) in
      let p = fine_then this (λ t₁. type_items_d ts globals ret t₁ is) h in
      let k₁ : Keeps rest.table last = subst (λ (u : Typed). Keeps u.table last) p.1 k in
      let a = analyze_found t i p.0 in
      let more = items_final is t₁ last (end_of all rest p.1 h) k₁ in
      let far : Keeps (looked_in t i) last =
      keeps_on (looked_in t i) t₁ last a.1 (keeps_on t₁ rest.table last (items_keep ts globals ret is t₁) k₁) in
      (rw (looks-same (looked_in t i) last i far a.0, more.0), (a.0, more.1))

  blocks_final : (bs : List (List Item)) (t last : List ℕ) → (type_blocks_d ts globals ret t bs).end ≡ Ok tt
      → Keeps (type_blocks_d ts globals ret t bs).table last
      → (blocks_visits ts globals ret t bs ≡ blocks_looks last bs) × BlocksFound (blocks_visits ts globals ret t bs)
  unfolding type_block_d type_blocks_d blocks_visits blocks_looks
  blocks_final [] t last h k = (refl, tt)
  blocks_final (b ∷ bs) t last h k =
      let items : Typed = type_items_d ts globals ret t b in
      let this : Typed = type_block_d ts globals ret t b in
      let t₁ : List ℕ = this.table in
      let rest : Typed = type_blocks_d ts globals ret t₁ bs in
      let all : Typed = then_typed this (λ t₁. type_blocks_d ts globals ret t₁ bs) in
      let p = fine_then this (λ t₁. type_blocks_d ts globals ret t₁ bs) h in
      let k₁ : Keeps rest.table last = subst (λ (u : Typed). Keeps u.table last) p.1 k in
      let q = fine_then items (λ t₁. type_end_d t₁ b) p.0 in
      let ended : Keeps items.table t₁ =
      subst (λ (u : Typed). Keeps items.table u.table) (sym q.1) (end-keeps ts globals ret b items.table) in
      let far : Keeps items.table last =
      keeps_on items.table t₁ last ended
      (keeps_on t₁ rest.table last (blocks_keep ts globals ret bs t₁) k₁) in
      let one = items_final b t last q.0 far in
      let more = blocks_final bs t₁ last (end_of all rest p.1 h) k₁ in
      (rw (one.0, more.0), (one.1, more.1))

  -- THE LAST TABLE gives each operand the type that was found at its visit, and at its visit it had one
  pub final_types : (token : ℕ) (formals : List Variable) (blocks : List (List Item)) (t : List ℕ)
      → (type_function_d ts globals ret token formals blocks t).end ≡ Ok tt
      → (function_visits ts globals ret token formals blocks t
      ≡ blocks_looks (type_function_d ts globals ret token formals blocks t).table blocks)
      × BlocksFound (function_visits ts globals ret token formals blocks t)
  unfolding type_function_d
  final_types token formals blocks t h =
      let this : Typed = enter_formals_d t token formals in
      let rest : Typed = type_blocks_d ts globals ret this.table blocks in
      let all : Typed = then_typed this (λ t₁. type_blocks_d ts globals ret t₁ blocks) in
      let p = fine_then this (λ t₁. type_blocks_d ts globals ret t₁ blocks) h in
      let k : Keeps rest.table all.table =
      subst (λ (u : Typed). Keeps rest.table u.table) (sym p.1) (keeps_same rest.table) in
      blocks_final blocks this.table all.table (end_of all rest p.1 h) k

-- All functions. ----------------------------------------------------------------------------------------------------

function_final : (ts : List Tok) (all : List Function) (blank : List ℕ) (f : Function)
    → (typed_function ts all blank f).end ≡ Ok tt → Final ts all blank f
function_final ts all blank f h =
    let p =
    final_types ts (globals_of all) (type_cell f.head.ret) f.token f.head.formals (ordered_blocks f.items)
    blank h in
    record { fine = h; found = p.1; same = p.0 }

-- each function of a text whose functions are typed
pub program_final : (ts : List Tok) (all fs : List Function) (blank : List ℕ) → (type_program_d ts all fs blank).end
    ≡ Ok tt
    → EachFinal ts all blank fs
unfolding type_program_d
program_final ts all [] blank h = tt
program_final ts all (f ∷ fs) blank h =
    let this : Typed = typed_function ts all blank f in
    let rest : Typed = type_program_d ts all fs blank in
    let p = fine_then this (λ t. type_program_d ts all fs blank) h in
    let next : rest.end ≡ Ok tt = end_of (then_typed this (λ t. type_program_d ts all fs blank)) rest p.1 h in
    (function_final ts all blank f p.0, program_final ts all fs blank next)
