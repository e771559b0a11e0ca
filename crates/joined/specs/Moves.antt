-- What was read of a text, moved: places go on by `by`, lines by `down`. So reads the same text behind `by` bytes.
use Rattle.std.specs.Prelude.{ℕ, ◌+◌, Result, Ok, Err}
use Rattle.pieces.specs.Pieces.{cursor, token, name}
use Rattle.pieces.specs.declared.Cursor.{Cursor}
use Rattle.pieces.specs.declared.Token.{Token}
use Rattle.pieces.specs.declared.Name.{Name}
use Rattle.pieces.specs.declared.Refusal.{Refusal}
use Rattle.pieces.specs.declared.Refusal.TheVariants as R
use Rattle.pieces.specs.declared.Lexed.{Lexed}
use Rattle.pieces.specs.declared.Lexed.TheVariants as L

abbrev pub move_cursor : ℕ → ℕ → Cursor → Cursor
move_cursor by down c = cursor (by + c.place) (down + c.line)

abbrev pub move_token : ℕ → ℕ → Token → Token
move_token by down t = token t.value (down + t.line.0) (by + t.place)

abbrev pub move_name : ℕ → ℕ → Name → Name
move_name by down n = name n.kind (by + n.place) n.len (down + n.line.0)

abbrev pub move_refusal : ℕ → ℕ → Refusal → Refusal
move_refusal by down (R.NotAscii line) = R.NotAscii (down + line)
move_refusal by down (R.CommentNotClosed c) = R.CommentNotClosed (move_cursor by down c)
move_refusal by down (R.UnexpectedByte b c) = R.UnexpectedByte b (move_cursor by down c)
move_refusal by down (R.NumberExpected c) = R.NumberExpected (move_cursor by down c)
move_refusal by down (R.NumberOutOfRange c) = R.NumberOutOfRange (move_cursor by down c)
move_refusal by down R.TooManyBytes = R.TooManyBytes
move_refusal by down (R.TooManyTokens c) = R.TooManyTokens (move_cursor by down c)
move_refusal by down (R.TooManyNames c) = R.TooManyNames (move_cursor by down c)
move_refusal by down (R.NameTooLong c) = R.NameTooLong (move_cursor by down c)

-- one piece
abbrev pub move_piece : ℕ → ℕ → Result Lexed Refusal → Result Lexed Refusal
move_piece by down (Ok (L.Skipped c)) = Ok (L.Skipped (move_cursor by down c))
move_piece by down (Ok (L.Name n c)) = Ok (L.Name (move_name by down n) (move_cursor by down c))
move_piece by down (Ok (L.Token t c)) = Ok (L.Token (move_token by down t) (move_cursor by down c))
move_piece by down (Ok (L.End c)) = Ok (L.End (move_cursor by down c))
move_piece by down (Err r) = Err (move_refusal by down r)
