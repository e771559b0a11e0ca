-- The grammar of one operation (parse_instruction and parse_type of parser.rs), over the tokens and an index. `T.int`
-- and so on are the kinds of tokens (Kinds.antt).
use Rattle.std.specs.Prelude.{Err, Ok, Result, ℕ, List, Bool, true, false, leb, eqb}
use Rattle.pieces.specs.declared.Identifier.{Identifier}
use Rattle.parser.specs.declared.Refusal.{Refusal}
use Rattle.parser.specs.declared.Ty.{Ty}
use Rattle.utils.specs.Bytes.{pick}
use Rattle.lexer.specs.Decoded.{Tok, token_at}
use Rattle.pieces.specs.Kinds as T
use Rattle.parser.specs.Step.{refusal, look, then_at, then_named, then_type, then_defined}
use Rattle.parser.specs.declared.Ty.TheVariants as Y
use Rattle.parser.specs.declared.Variable.{Variable}
use Rattle.parser.specs.declared.Operation.{Operation}
use Rattle.parser.specs.declared.Operation.TheVariants as O
use Rattle.parser.specs.declared.Parsed.{Parsed}
use Rattle.parser.specs.declared.Parsed.TheVariants as P

-- 't' expected (5).
unfoldable pub consume_d : List Tok → ℕ → ℕ → Result ℕ Refusal
consume_d ts at kind =
    look (token_at ts at) (λ k next. pick (eqb k kind) (Ok next) (Err (refusal 5 at kind)))

-- A name of this kind; Local / Global / Label identifier expected (6, 7, 8).
unfoldable pub named_d : List Tok → ℕ → ℕ → ℕ → Result (Identifier × ℕ) Refusal
named_d ts at kind number =
    let t = token_at ts at in
    pick (eqb t.kind kind) (Ok (t.name, t.next)) (Err (refusal number at 0))

abbrev pub local_d : List Tok → ℕ → Result (Identifier × ℕ) Refusal
local_d ts at = named_d ts at T.local 6

abbrev pub global_d : List Tok → ℕ → Result (Identifier × ℕ) Refusal
global_d ts at = named_d ts at T.global 7

abbrev pub label_d : List Tok → ℕ → Result (Identifier × ℕ) Refusal
label_d ts at = named_d ts at T.label 8

-- Types are `int`, `bool`. Type expected (9).
unfoldable pub type_d : List Tok → ℕ → Result (Ty × ℕ) Refusal
type_d ts at =
    look (token_at ts at) (λ k next.
    pick (eqb k T.int) (Ok (Y.Int, next))
    (pick (eqb k T.bool) (Ok (Y.Bool, next))
    (Err (refusal 9 at 0))))

-- The end of an operation: its semicolon.
abbrev pub end_d : List Tok → Operation → ℕ → Result Parsed Refusal
end_d ts operation at = then_at Err (consume_d ts at T.semicolon) (λ i. Ok (P.Done operation i))

-- Statements: `word` is the index of the operation's word, `at` of the token after it. ------------------------------

unfoldable pub print_d : List Tok → ℕ → ℕ → Result Parsed Refusal
print_d ts word at = then_named Err (local_d ts at) (λ x at1. end_d ts (O.Print word x) at1)

unfoldable pub ret_d : List Tok → ℕ → ℕ → Result Parsed Refusal
ret_d ts word at =
    look (token_at ts at) (λ k next.
    pick (eqb k T.semicolon) (Ok (P.Done (O.Ret word) next))
    (then_named Err (local_d ts at) (λ x at1. end_d ts (O.RetValue word x) at1)))

unfoldable pub jump_d : List Tok → ℕ → ℕ → Result Parsed Refusal
jump_d ts word at = then_named Err (label_d ts at) (λ l at1. end_d ts (O.Jump word l) at1)

unfoldable pub branch_d : List Tok → ℕ → ℕ → Result Parsed Refusal
branch_d ts word at =
    then_named Err (local_d ts at) (λ x at1.
    then_named Err (label_d ts at1) (λ l at2.
    then_named Err (label_d ts at2) (λ m at3.
    end_d ts (O.Branch word x l m) at3)))

unfoldable pub nop_d : List Tok → ℕ → ℕ → Result Parsed Refusal
nop_d ts word at = end_d ts (O.Nop word) at

-- Operations with a result. -----------------------------------------------------------------------------------------

-- `x: type =`
unfoldable pub defined_d : List Tok → ℕ → Result (Variable × ℕ) Refusal
defined_d ts at =
    then_named Err (local_d ts at) (λ x at1.
    then_at Err (consume_d ts at1 T.colon) (λ at2.
    then_type Err (type_d ts at2) (λ t at3.
    then_at Err (consume_d ts at3 T.define) (λ at4.
    Ok ((record { id = x; ty = t }), at4)))))

-- `true`, `false` or an integer
unfoldable pub is_constant : ℕ → Bool
is_constant k = pick (eqb k T.integer) true (pick (eqb k T.true_word) true (eqb k T.false_word))

-- Integer or boolean constant expected (10), with the word `const`; the operation's token is the value.
unfoldable pub const_d : List Tok → Variable → ℕ → ℕ → Result Parsed Refusal
const_d ts v word at =
    look (token_at ts at) (λ k next.
    pick (is_constant k) (end_d ts (O.Const at v) next)
    (Err (refusal 10 word 0)))

unfoldable pub unary_d : List Tok → Variable → ℕ → ℕ → Result Parsed Refusal
unary_d ts v word at = then_named Err (local_d ts at) (λ x at1. end_d ts (O.UnaryOp word v x) at1)

unfoldable pub binary_d : List Tok → Variable → ℕ → ℕ → Result Parsed Refusal
binary_d ts v word at =
    then_named Err (local_d ts at) (λ x at1.
    then_named Err (local_d ts at1) (λ y at2.
    end_d ts (O.BinaryOp word v x y) at2))

-- `id`, `not`
unfoldable pub is_unary : ℕ → Bool
is_unary k = pick (eqb k T.not_word) true (eqb k T.id)

-- `add` `mul` `sub` `div` `mod`, `eq` `lt` `gt` `le` `ge`, `and` `or`. The kinds stand in this order: an integer, the
-- first five words, `true` and `false`, the next five, `not`, and the last two.
unfoldable pub is_binary : ℕ → Bool
is_binary k =
    pick (leb k T.integer) false
    (pick (leb k T.«mod») true
    (pick (leb k T.false_word) false
    (pick (leb k T.ge) true
    (pick (eqb k T.and) true (eqb k T.or)))))

-- What stands after `=`: a call, a constant, a unary or a binary operation. Unexpected token (11).
unfoldable pub value_d : List Tok → Variable → ℕ → Result Parsed Refusal
value_d ts v at =
    look (token_at ts at) (λ k next.
    pick (eqb k T.call) (Ok (P.CallInto v at))
    (pick (eqb k T.const) (const_d ts v at next)
    (pick (is_unary k) (unary_d ts v at next)
    (pick (is_binary k) (binary_d ts v at next)
    (Err (refusal 11 at 0))))))

unfoldable pub definition_d : List Tok → ℕ → Result Parsed Refusal
definition_d ts at = then_defined Err (defined_d ts at) (λ v at1. value_d ts v at1)

-- An operation by its first token; a label before it is the body's.
unfoldable pub instruction_d : List Tok → ℕ → Result Parsed Refusal
instruction_d ts at =
    look (token_at ts at) (λ k next.
    pick (eqb k T.print) (print_d ts at next)
    (pick (eqb k T.ret) (ret_d ts at next)
    (pick (eqb k T.jmp) (jump_d ts at next)
    (pick (eqb k T.br) (branch_d ts at next)
    (pick (eqb k T.nop) (nop_d ts at next)
    (pick (eqb k T.call) (Ok (P.Call at))
    (definition_d ts at)))))))
