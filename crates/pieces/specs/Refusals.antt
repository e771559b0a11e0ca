-- Document 01, "Numbers the reader answers with", for the refusals that reading gives: number, line, place, message.
-- 30 is not among them: it is the gate's (`Read`), and writes no message.
use Rattle.std.specs.Prelude.{ℕ, List, [], ◌∷◌, ◌++◌}
use Rattle.utils.specs.Bytes.{bytes}
use Rattle.utils.specs.Message.{reported}
use Rattle.pieces.specs.declared.Cursor.{Cursor}
use Rattle.pieces.specs.declared.Refusal.{Refusal}
use Rattle.pieces.specs.declared.Refusal.TheVariants as R

pub record Facts : Type 0 where
  pub number : ℕ
  pub line : ℕ
  pub place : ℕ
  pub text : List ℕ

abbrev pub facts : ℕ → ℕ → ℕ → List ℕ → Facts
facts n l p t = record { number = n; line = l; place = p; text = t }

-- a refusal at a cursor: its line, and its place
abbrev pub facts_at : ℕ → Cursor → List ℕ → Facts
facts_at n c t = facts n c.line c.place t

-- a byte that begins nothing, in quotes
abbrev pub unexpected : ℕ → List ℕ
unexpected b = bytes "Unexpected token: '" ++ (b ∷ bytes "'.")

abbrev pub facts_of : Refusal → Facts
facts_of (R.NotAscii line) = facts 1 line 0 (bytes "Only ASCII input is supported.")
facts_of (R.CommentNotClosed c) = facts_at 2 c (bytes "Multiline comment no closed.")
facts_of (R.UnexpectedByte b c) = facts_at 3 c (unexpected b)
facts_of (R.NumberExpected c) = facts_at 4 c (bytes "Expected number after '-'.")
facts_of (R.NumberOutOfRange c) = facts_at 43 c (bytes "Number out of range.")
facts_of R.TooManyBytes = facts 31 0 0 (bytes "too many bytes.")
facts_of (R.TooManyTokens c) = facts_at 32 c (bytes "too many tokens.")
facts_of (R.TooManyNames c) = facts_at 33 c (bytes "too many names.")
facts_of (R.NameTooLong c) = facts_at 34 c (bytes "name too long.")

-- `[line N] Error : TEXT` and a newline
abbrev pub message_of : Refusal → List ℕ
message_of r = reported (facts_of r).line [] (facts_of r).text
