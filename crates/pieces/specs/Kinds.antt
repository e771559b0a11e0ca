-- The kinds of tokens by name, for the definitions that ask for one: words as texts spell them (`true_word`, `false_word`
-- and `not_word` where the word has a meaning here already), all else by the Rust's name. The table at the end holds
-- each against its variant in the Rust's enum. Other modules write `T.semicolon` for the kind of the Rust's
-- `T.Semicolon`.
use Rattle.std.specs.Prelude.{ℕ, ◌≡◌, refl, List, [], ◌∷◌}
use Rattle.pieces.specs.Tokens.{kind_of}
use Rattle.pieces.specs.declared.Identifier.{Identifier}
use Rattle.pieces.specs.declared.TokenValue.{TokenValue}
use Rattle.pieces.specs.declared.TokenValue.TheVariants as T

-- names, and integers
abbrev pub local : ℕ
local = 1

abbrev pub global : ℕ
global = 2

abbrev pub label : ℕ
label = 3

abbrev pub integer : ℕ
integer = 4

-- words of arithmetic
abbrev pub add : ℕ
add = 5

abbrev pub mul : ℕ
mul = 6

abbrev pub sub : ℕ
sub = 7

abbrev pub div : ℕ
div = 8

abbrev pub «mod» : ℕ
«mod» = 9

-- boolean constants
abbrev pub true_word : ℕ
true_word = 10

abbrev pub false_word : ℕ
false_word = 11

-- comparisons
abbrev pub eq : ℕ
eq = 12

abbrev pub lt : ℕ
lt = 13

abbrev pub gt : ℕ
gt = 14

abbrev pub le : ℕ
le = 15

abbrev pub ge : ℕ
ge = 16

-- boolean operators
abbrev pub not_word : ℕ
not_word = 17

abbrev pub and : ℕ
and = 18

abbrev pub or : ℕ
or = 19

-- terminators and calls
abbrev pub jmp : ℕ
jmp = 20

abbrev pub br : ℕ
br = 21

abbrev pub call : ℕ
call = 22

abbrev pub ret : ℕ
ret = 23

-- the signs `=` `(` `)` `{` `}` `:` `;` `,`
abbrev pub define : ℕ
define = 24

abbrev pub left_paren : ℕ
left_paren = 25

abbrev pub right_paren : ℕ
right_paren = 26

abbrev pub left_brace : ℕ
left_brace = 27

abbrev pub right_brace : ℕ
right_brace = 28

abbrev pub colon : ℕ
colon = 29

abbrev pub semicolon : ℕ
semicolon = 30

abbrev pub comma : ℕ
comma = 31

-- types
abbrev pub int : ℕ
int = 32

abbrev pub bool : ℕ
bool = 33

-- the other words
abbrev pub const : ℕ
const = 34

abbrev pub print : ℕ
print = 35

abbrev pub nop : ℕ
nop = 36

abbrev pub id : ℕ
id = 37

-- the end token
abbrev pub end_of_file : ℕ
end_of_file = 38

-- Each name with its variant; what a variant carries doesn't matter.
record Row : Type 0 where
  kind : ℕ
  value : TokenValue

abbrev row : ℕ → TokenValue → Row
row k v = record { kind = k; value = v }

abbrev any : Identifier
any = record { 0 = 0 }

rows : List Row
rows =
    row local (T.Local any) ∷
    row global (T.Global any) ∷
    row label (T.Label any) ∷
    row integer (T.Integer 0) ∷
    row add T.Add ∷
    row mul T.Mul ∷
    row sub T.Sub ∷
    row div T.Div ∷
    row «mod» T.Mod ∷
    row true_word T.True ∷
    row false_word T.False ∷
    row eq T.Equal ∷
    row lt T.LessThan ∷
    row gt T.GreaterThan ∷
    row le T.LessThanOrEq ∷
    row ge T.GreaterThanOrEq ∷
    row not_word T.Not ∷
    row and T.And ∷
    row or T.Or ∷
    row jmp T.Jump ∷
    row br T.Branch ∷
    row call T.Call ∷
    row ret T.Return ∷
    row define T.Define ∷
    row left_paren T.LeftParen ∷
    row right_paren T.RightParen ∷
    row left_brace T.LeftBrace ∷
    row right_brace T.RightBrace ∷
    row colon T.Colon ∷
    row semicolon T.Semicolon ∷
    row comma T.Comma ∷
    row int T.Int ∷
    row bool T.Bool ∷
    row const T.Const ∷
    row print T.Print ∷
    row nop T.Nop ∷
    row id T.Identity ∷
    row end_of_file T.EndOfFile ∷
    []

named : List Row → List ℕ
named [] = []
named (r ∷ rs) = r.kind ∷ named rs

numbered : List Row → List ℕ
numbered [] = []
numbered (r ∷ rs) = kind_of r.value ∷ numbered rs

-- THE CLAIM
all_right : named rows ≡ numbered rows
unfolding rows named numbered
all_right = refl
