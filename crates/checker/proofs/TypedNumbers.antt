-- Every refusal of typing has one of document 01's numbers for check, definition by definition.
use Rattle.std.specs.Prelude.{Err, Ok}
use Prim.Native.Nat.{ℕ}
use mathlib.Core.List.{List, [], ◌∷◌}
use Rattle.lexer.specs.Decoded.{Tok}
use Rattle.pieces.specs.declared.Identifier.{Identifier}
use Rattle.body.specs.Body.{Item}
use Rattle.parser.specs.declared.Refusal.{Refusal}
use Rattle.parser.specs.declared.Variable.{Variable}
use Rattle.parser.specs.declared.Operation.{Operation}
use Rattle.parser.specs.declared.Operation.TheVariants as O
use Rattle.functions.specs.Functions.{Function}
use Rattle.sema.specs.Symbols.{Typed, typed, then_typed, then_end, enter_d, then_look, then_same}
use Rattle.sema.specs.Typing.{then_three, operands_d, type_binary_d, operand_d, type_unary_d, type_const_d, type_ret_value_d}
use Rattle.sema.specs.Typing.{type_ret_d, Global, absent}
use Rattle.sema.specs.Typing.{global, present_d, same_all, type_arguments_d, then_global, type_call_d, type_call_into_d}
use Rattle.sema.specs.Typing.{type_plain_d, type_item_d}
use Rattle.sema.specs.Blocks.{type_items_d, type_end_d, type_block_d, enter_formals_d, type_blocks_d, type_function_d}
use Rattle.sema.specs.Program.{function_typed, type_program_d}
use Rattle.checker.proofs.ParsedNumbers.{Fine, Is, pick_f}

pub data FineT : Typed → Type 0 where
  fine : (t : List ℕ) → FineT (typed t (Ok tt))
  refused : (t : List ℕ) (e : Refusal) → Fine e → FineT (typed t (Err e))

-- Steps. ------------------------------------------------------------------------------------------------------------

then_typed_f : {x : Typed} (k : List ℕ → Typed) → Is FineT x → ((t : List ℕ) → Is FineT (k t))
    → Is FineT (then_typed x k)
unfolding then_typed then_end
then_typed_f k (Is.so (FineT.fine t)) g = g t
then_typed_f k (Is.so (FineT.refused t e h)) g = Is.so (FineT.refused t e h)

ruleset shapes = (Is.so, pick_f, Fine.low, FineT.fine, FineT.refused, then_typed_f)

enter_f : (t : List ℕ) (token : ℕ) (name : Identifier) (type : ℕ) → Is FineT (enter_d t token name type)
unfolding enter_d
enter_f t token name type = search shapes depth 14

then_look_f : (t : List ℕ) (token : ℕ) (name : Identifier) (k : ℕ → Typed) → ((known : ℕ) → Is FineT (k known))
    → Is FineT (then_look t token name k)
unfolding then_look
then_look_f t token name k g = search shapes depth 14

then_same_f : (t : List ℕ) (token found wanted : ℕ) (next : Typed) → Is FineT next
    → Is FineT (then_same t token found wanted next)
unfolding then_same
then_same_f t token found wanted next h = search shapes depth 14

then_global_f : (t : List ℕ) (token : ℕ) (callee : Identifier) (g : Global) (k : ℕ → List ℕ → Typed)
    → ((ret : ℕ) (formals : List ℕ) → Is FineT (k ret formals)) → Is FineT (then_global t token callee g k)
unfolding then_global
then_global_f t token callee absent k h = search shapes depth 14
then_global_f t token callee (global ret formals) k h = h ret formals

ruleset steps = (shapes, enter_f, then_look_f, then_same_f, then_global_f)

-- Operations. -------------------------------------------------------------------------------------------------------

plain_f : (ts : List Tok) (ret : ℕ) (t : List ℕ) (o : Operation) → Is FineT (type_plain_d ts ret t o)
unfolding type_plain_d type_binary_d operands_d then_three type_unary_d operand_d type_const_d type_ret_d type_ret_value_d
plain_f ts ret t (O.BinaryOp w v x y) = search steps depth 24
plain_f ts ret t (O.UnaryOp w v x) = search steps depth 20
plain_f ts ret t (O.Const w v) = search steps depth 14
plain_f ts ret t (O.Jump w l) = search steps
plain_f ts ret t (O.Branch w x l m) = search steps
plain_f ts ret t (O.Ret w) = search steps depth 14
plain_f ts ret t (O.RetValue w x) = search steps depth 14
plain_f ts ret t (O.Print w x) = search steps
plain_f ts ret t (O.Nop w) = search steps

present_f : (t : List ℕ) (token : ℕ) (xs : List Variable) → Is FineT (present_d t token xs)
unfolding present_d
present_f t token [] = search steps
present_f t token (x ∷ xs) = search (steps, present_f t token xs) depth 14

same_all_f : (t : List ℕ) (token : ℕ) (fs ws : List ℕ) → Is FineT (same_all t token fs ws)
unfolding same_all
same_all_f t token [] ws = search steps
same_all_f t token (f ∷ fs) [] = search steps
same_all_f t token (f ∷ fs) (w ∷ ws) = search (steps, same_all_f t token fs ws) depth 14

-- Blocks, functions. ------------------------------------------------------------------------------------------------

end_f : (t : List ℕ) (xs : List Item) → Is FineT (type_end_d t xs)
unfolding type_end_d
end_f t [] = search steps
end_f t (x ∷ []) = search steps depth 14
end_f t (x ∷ y ∷ xs) = end_f t (y ∷ xs)

formals_f : (t : List ℕ) (token : ℕ) (vs : List Variable) → Is FineT (enter_formals_d t token vs)
unfolding enter_formals_d
formals_f t token [] = search steps
formals_f t token (v ∷ vs) = then_typed_f _ (enter_f t token v.id _) (λ t1. formals_f t1 token vs)

module _ (ts : List Tok) (globals : ℕ → Global) (ret : ℕ) where
  analyze_f : (t : List ℕ) (x : Item) → Is FineT (type_item_d ts globals ret t x)
  unfolding type_item_d type_call_d type_call_into_d type_arguments_d
  analyze_f t (Item.label w l) = search steps
  analyze_f t (Item.plain o) = plain_f ts ret t o
  analyze_f t (Item.call w g xs) = search (steps, present_f, same_all_f) depth 20
  analyze_f t (Item.call_into w v g xs) = search (steps, present_f, same_all_f) depth 20

  items_f : (t : List ℕ) (xs : List Item) → Is FineT (type_items_d ts globals ret t xs)
  unfolding type_items_d
  items_f t [] = search steps
  items_f t (x ∷ xs) = then_typed_f _ (analyze_f t x) (λ t1. items_f t1 xs)

  blocks_f : (t : List ℕ) (bs : List (List Item)) → Is FineT (type_blocks_d ts globals ret t bs)
  unfolding type_blocks_d type_block_d
  blocks_f t [] = search steps
  blocks_f t (b ∷ bs) = then_typed_f _ (then_typed_f _ (items_f t b) (λ t1. end_f t1 b)) (λ t1. blocks_f t1 bs)

pub function-fine : (ts : List Tok) (globals : ℕ → Global) (f : Function) (blank : List ℕ)
    → Is FineT (function_typed ts globals f blank)
unfolding type_function_d
function-fine ts globals f blank = then_typed_f _ (formals_f blank _ _) (λ t. blocks_f ts _ _ t _)

pub typed-fine : (ts : List Tok) (all fs : List Function) (blank : List ℕ) → Is FineT (type_program_d ts all fs blank)
unfolding type_program_d
typed-fine ts all [] blank = search steps
typed-fine ts all (f ∷ fs) blank = then_typed_f _ (function-fine ts _ f blank) (λ t. typed-fine ts all fs blank)
