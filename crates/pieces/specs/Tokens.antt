-- Token values with the Rust's names, the kind that a token's cell holds for each, the 25 words and the eight tokens of
-- one byte.
use Rattle.std.specs.Prelude.{ℕ, List, [], ◌∷◌, eqb, Option, Some, None}
use Prim.Native.String.{String}
use Rattle.utils.specs.Bytes.{pick, bytes, same_bytes}
use Rattle.pieces.specs.declared.TokenValue.{TokenValue}
use Rattle.pieces.specs.declared.TokenValue.TheVariants as T
use Rattle.pieces.specs.declared.Kinded.{Kinded}
use Rattle.pieces.specs.declared.NameKind.{NameKind}
use Rattle.pieces.specs.declared.NameKind.TheVariants as N
use Rattle.pieces.specs.declared.Token.{Token}

-- The kind of a value, in the order of the Rust's enum. 0 is no kind: it fills unused room.
abbrev pub kind_of : TokenValue → ℕ
kind_of (T.Local i) = 1
kind_of (T.Global i) = 2
kind_of (T.Label i) = 3
kind_of (T.Integer n) = 4
kind_of T.Add = 5
kind_of T.Mul = 6
kind_of T.Sub = 7
kind_of T.Div = 8
kind_of T.Mod = 9
kind_of T.True = 10
kind_of T.False = 11
kind_of T.Equal = 12
kind_of T.LessThan = 13
kind_of T.GreaterThan = 14
kind_of T.LessThanOrEq = 15
kind_of T.GreaterThanOrEq = 16
kind_of T.Not = 17
kind_of T.And = 18
kind_of T.Or = 19
kind_of T.Jump = 20
kind_of T.Branch = 21
kind_of T.Call = 22
kind_of T.Return = 23
kind_of T.Define = 24
kind_of T.LeftParen = 25
kind_of T.RightParen = 26
kind_of T.LeftBrace = 27
kind_of T.RightBrace = 28
kind_of T.Colon = 29
kind_of T.Semicolon = 30
kind_of T.Comma = 31
kind_of T.Int = 32
kind_of T.Bool = 33
kind_of T.Const = 34
kind_of T.Print = 35
kind_of T.Nop = 36
kind_of T.Identity = 37
kind_of T.EndOfFile = 38

-- The kind of a name's token.
abbrev pub name_kind : NameKind → ℕ
name_kind N.Local = 1
name_kind N.Global = 2
name_kind N.Label = 3

-- What a value carries: a name's number, an integer's 32 bits, or nothing.
abbrev pub carried : TokenValue → ℕ
carried (T.Local i) = i.0
carried (T.Global i) = i.0
carried (T.Label i) = i.0
carried (T.Integer n) = n
carried T.Add = 0
carried T.Mul = 0
carried T.Sub = 0
carried T.Div = 0
carried T.Mod = 0
carried T.True = 0
carried T.False = 0
carried T.Equal = 0
carried T.LessThan = 0
carried T.GreaterThan = 0
carried T.LessThanOrEq = 0
carried T.GreaterThanOrEq = 0
carried T.Not = 0
carried T.And = 0
carried T.Or = 0
carried T.Jump = 0
carried T.Branch = 0
carried T.Call = 0
carried T.Return = 0
carried T.Define = 0
carried T.LeftParen = 0
carried T.RightParen = 0
carried T.LeftBrace = 0
carried T.RightBrace = 0
carried T.Colon = 0
carried T.Semicolon = 0
carried T.Comma = 0
carried T.Int = 0
carried T.Bool = 0
carried T.Const = 0
carried T.Print = 0
carried T.Nop = 0
carried T.Identity = 0
carried T.EndOfFile = 0

abbrev pub kinded_of : TokenValue → Kinded
kinded_of v = record { kind = kind_of v; carried = carried v }

-- The value of a kind; a number that is no kind is read as the end. A value comes back from its kind and what it
-- carries: `value_of-kind`.
unfoldable pub value_of : ℕ → ℕ → TokenValue
value_of k x =
    pick (eqb k 1) (T.Local (record { 0 = x }))
    (pick (eqb k 2) (T.Global (record { 0 = x }))
    (pick (eqb k 3) (T.Label (record { 0 = x }))
    (pick (eqb k 4) (T.Integer x)
    (pick (eqb k 5) T.Add
    (pick (eqb k 6) T.Mul
    (pick (eqb k 7) T.Sub
    (pick (eqb k 8) T.Div
    (pick (eqb k 9) T.Mod
    (pick (eqb k 10) T.True
    (pick (eqb k 11) T.False
    (pick (eqb k 12) T.Equal
    (pick (eqb k 13) T.LessThan
    (pick (eqb k 14) T.GreaterThan
    (pick (eqb k 15) T.LessThanOrEq
    (pick (eqb k 16) T.GreaterThanOrEq
    (pick (eqb k 17) T.Not
    (pick (eqb k 18) T.And
    (pick (eqb k 19) T.Or
    (pick (eqb k 20) T.Jump
    (pick (eqb k 21) T.Branch
    (pick (eqb k 22) T.Call
    (pick (eqb k 23) T.Return
    (pick (eqb k 24) T.Define
    (pick (eqb k 25) T.LeftParen
    (pick (eqb k 26) T.RightParen
    (pick (eqb k 27) T.LeftBrace
    (pick (eqb k 28) T.RightBrace
    (pick (eqb k 29) T.Colon
    (pick (eqb k 30) T.Semicolon
    (pick (eqb k 31) T.Comma
    (pick (eqb k 32) T.Int
    (pick (eqb k 33) T.Bool
    (pick (eqb k 34) T.Const
    (pick (eqb k 35) T.Print
    (pick (eqb k 36) T.Nop
    (pick (eqb k 37) T.Identity
    T.EndOfFile))))))))))))))))))))))))))))))))))))

-- A token's four cells: kind, value, line, place.
abbrev pub token_cells : Token → List ℕ
token_cells t = kind_of t.value ∷ carried t.value ∷ t.line.0 ∷ t.place ∷ []

-- The words of the language.
pub record Word : Type 0 where
  pub spelling : List ℕ
  pub value : TokenValue

abbrev pub word : String → TokenValue → Word
word s v = record { spelling = bytes s; value = v }

unfoldable pub words : List Word
words =
    word "add" T.Add ∷
    word "mul" T.Mul ∷
    word "div" T.Div ∷
    word "sub" T.Sub ∷
    word "mod" T.Mod ∷
    word "true" T.True ∷
    word "false" T.False ∷
    word "eq" T.Equal ∷
    word "lt" T.LessThan ∷
    word "gt" T.GreaterThan ∷
    word "le" T.LessThanOrEq ∷
    word "ge" T.GreaterThanOrEq ∷
    word "not" T.Not ∷
    word "and" T.And ∷
    word "or" T.Or ∷
    word "jmp" T.Jump ∷
    word "br" T.Branch ∷
    word "call" T.Call ∷
    word "ret" T.Return ∷
    word "const" T.Const ∷
    word "print" T.Print ∷
    word "nop" T.Nop ∷
    word "id" T.Identity ∷
    word "int" T.Int ∷
    word "bool" T.Bool ∷
    []

unfoldable pub word_in : List Word → List ℕ → Option TokenValue
word_in [] s = None
word_in (w ∷ ws) s = let more = word_in ws s in pick (same_bytes w.spelling s) (Some w.value) more

-- The value of a word of the language, or nothing: then the letters are a local's name.
abbrev pub keyword : List ℕ → Option TokenValue
keyword s = word_in words s

-- The tokens of one byte.
unfoldable pub symbol : ℕ → Option TokenValue
symbol b =
    pick (eqb b 40) (Some T.LeftParen)
    (pick (eqb b 41) (Some T.RightParen)
    (pick (eqb b 123) (Some T.LeftBrace)
    (pick (eqb b 125) (Some T.RightBrace)
    (pick (eqb b 58) (Some T.Colon)
    (pick (eqb b 59) (Some T.Semicolon)
    (pick (eqb b 61) (Some T.Define)
    (pick (eqb b 44) (Some T.Comma)
    None)))))))
