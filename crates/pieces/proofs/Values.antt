-- A value comes back from its kind and what it carries, so a record of cells loses nothing of its token.
use mathlib.Core.Path.{◌≡◌, refl}
use Rattle.utils.specs.Bytes.{pick}
use Rattle.pieces.specs.Tokens.{kind_of, carried, value_of}
use Rattle.pieces.specs.declared.TokenValue.{TokenValue}
use Rattle.pieces.specs.declared.TokenValue.TheVariants as T

pub value_of-kind : (v : TokenValue) → value_of (kind_of v) (carried v) ≡ v
unfolding value_of pick
value_of-kind (T.Local x) = refl
value_of-kind (T.Global x) = refl
value_of-kind (T.Label x) = refl
value_of-kind (T.Integer x) = refl
value_of-kind T.Add = refl
value_of-kind T.Mul = refl
value_of-kind T.Sub = refl
value_of-kind T.Div = refl
value_of-kind T.Mod = refl
value_of-kind T.True = refl
value_of-kind T.False = refl
value_of-kind T.Equal = refl
value_of-kind T.LessThan = refl
value_of-kind T.GreaterThan = refl
value_of-kind T.LessThanOrEq = refl
value_of-kind T.GreaterThanOrEq = refl
value_of-kind T.Not = refl
value_of-kind T.And = refl
value_of-kind T.Or = refl
value_of-kind T.Jump = refl
value_of-kind T.Branch = refl
value_of-kind T.Call = refl
value_of-kind T.Return = refl
value_of-kind T.Define = refl
value_of-kind T.LeftParen = refl
value_of-kind T.RightParen = refl
value_of-kind T.LeftBrace = refl
value_of-kind T.RightBrace = refl
value_of-kind T.Colon = refl
value_of-kind T.Semicolon = refl
value_of-kind T.Comma = refl
value_of-kind T.Int = refl
value_of-kind T.Bool = refl
value_of-kind T.Const = refl
value_of-kind T.Print = refl
value_of-kind T.Nop = refl
value_of-kind T.Identity = refl
value_of-kind T.EndOfFile = refl
