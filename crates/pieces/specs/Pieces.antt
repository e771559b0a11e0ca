-- Document 01, "Text to tokens", from the left: one piece of a text at a place, and all pieces up to the end or the
-- first refusal 2 to 4 or 43. No table of names and no limit has a part in it.
use Rattle.std.specs.Prelude.{ℕ, zero, suc, ◌+◌, ◌-◌, ◌*◌, ◌%◌, List, [], ◌∷◌, Bool, false, leb, eqb, get_or, length}
use Rattle.std.specs.Prelude.{drop, Option, Some, None, Result, Ok, Err}
use Rattle.std.proofs.Math.Seq.{slice}
use Rattle.utils.specs.Bytes.{pick}
use Rattle.pieces.specs.Classes.{is_blank, is_digit, is_letter, is_name_part}
use Rattle.pieces.specs.Tokens.{keyword, symbol}
use Rattle.pieces.specs.declared.Cursor.{Cursor}
use Rattle.pieces.specs.declared.Token.{Token}
use Rattle.pieces.specs.declared.TokenValue.{TokenValue}
use Rattle.pieces.specs.declared.TokenValue.TheVariants as T
use Rattle.pieces.specs.declared.Name.{Name}
use Rattle.pieces.specs.declared.NameKind.{NameKind}
use Rattle.pieces.specs.declared.NameKind.TheVariants as N
use Rattle.pieces.specs.declared.Number.{Number}
use Rattle.pieces.specs.declared.Refusal.{Refusal}
use Rattle.pieces.specs.declared.Refusal.TheVariants as R
use Rattle.pieces.specs.declared.Lexed.{Lexed}
use Rattle.pieces.specs.declared.Lexed.TheVariants as L

abbrev pub cursor : ℕ → ℕ → Cursor
cursor place line = record { place = place; line = line }

abbrev pub token : TokenValue → ℕ → ℕ → Token
token v line place = record { value = v; line = record { 0 = line }; place = place }

abbrev pub name : NameKind → ℕ → ℕ → ℕ → Name
name kind place len line = record { kind = kind; place = place; len = len; line = record { 0 = line } }

-- Each scan goes over what is left of the text, whose first byte stands at the place given.

-- `#` and `//` run through the next newline
unfoldable pub line_end : List ℕ → ℕ → ℕ
line_end [] at = at
line_end (b ∷ r) at = let more = line_end r (at + 1) in pick (eqb b 10) (at + 1) more

-- whether a byte closes the comment: a `/` behind a star
unfoldable pub closes : Bool → ℕ → Bool
closes star b = pick star (eqb b 47) false

-- After a star the next byte is consumed whether or not it is `/`: so no star behind a star is one to look behind.
unfoldable pub star_after : Bool → ℕ → Bool
star_after star b = pick star false (eqb b 42)

-- `/* */`, after its opening
unfoldable pub comment_end : Bool → List ℕ → ℕ → Option ℕ
comment_end star [] at = None
comment_end star (b ∷ r) at =
    let more = comment_end (star_after star b) r (at + 1) in
    pick (closes star b) (Some (at + 1)) more

abbrev pub number : ℕ → ℕ → Number
number value end = record { value = value; end = end }

-- Digits form a number.
unfoldable pub digits_from : List ℕ → ℕ → ℕ → Number
digits_from [] at v = number v at
digits_from (b ∷ r) at v = let more = digits_from r (at + 1) (v * 10 + (b - 48)) in pick (is_digit b) more (number v at)

unfoldable pub name_end : List ℕ → ℕ → ℕ
name_end [] at = at
name_end (b ∷ r) at = let more = name_end r (at + 1) in pick (is_name_part b) more at

-- The number that stands at a place.
abbrev pub number_at : List ℕ → ℕ → Number
number_at s at = digits_from (drop at s) at 0

-- Where a name that begins at a place ends.
abbrev pub name_end_at : List ℕ → ℕ → ℕ
name_end_at s at = name_end (drop (at + 1) s) (at + 1)

-- the 32 bits of a number with a minus
abbrev pub negated : ℕ → ℕ
negated v = (4294967296 - v) % 4294967296

-- One piece, of the text s at a place and a line. ------------------------------------------------------------------

-- In `/* */` newlines are not counted either. A comment that is not closed is 2, a slash alone 3.
abbrev pub on_comment : ℕ → ℕ → Option ℕ → Result Lexed Refusal
on_comment at line (Some end) = Ok (L.Skipped (cursor end line))
on_comment at line None = Err (R.CommentNotClosed (cursor at line))

unfoldable pub slash_at : List ℕ → ℕ → ℕ → Result Lexed Refusal
slash_at s at line =
    pick (eqb (get_or s (at + 1) 0) 47) (Ok (L.Skipped (cursor (line_end (drop (at + 2) s) (at + 2)) line)))
    (pick (eqb (get_or s (at + 1) 0) 42) (on_comment at line (comment_end false (drop (at + 2) s) (at + 2)))
    (Err (R.UnexpectedByte 47 (cursor at line))))

-- "A positive number out of range is now refused by the lexer": 43, at the number's first byte (document 02, A2).
unfoldable pub digit_at : List ℕ → ℕ → ℕ → Result Lexed Refusal
digit_at s at line =
    let n = number_at s at in
    pick (leb n.value 2147483647) (Ok (L.Token (token (T.Integer n.value) line at) (cursor n.end line)))
    (Err (R.NumberOutOfRange (cursor at line)))

-- `-` and digits: below -2147483648, or no digit, is 4.
unfoldable pub minus_at : List ℕ → ℕ → ℕ → Result Lexed Refusal
minus_at s at line =
    let n = number_at s (at + 1) in
    let expected = Err (R.NumberExpected (cursor at line)) in
    let integer = Ok (L.Token (token (T.Integer (negated n.value)) line at) (cursor n.end line)) in
    pick (is_digit (get_or s (at + 1) 0)) (pick (leb n.value 2147483648) integer expected) expected

-- A name from its first byte, its sigil with it, to its end. The kind is a local's, a global's or a label's.
unfoldable pub name_at : NameKind → List ℕ → ℕ → ℕ → Result Lexed Refusal
name_at kind s at line =
    let end = name_end_at s at in
    Ok (L.Name (name kind at (end - at) line) (cursor end line))

-- `@` or `.` and a letter begin a global or label; the name keeps its sigil.
unfoldable pub sigil_at : NameKind → List ℕ → ℕ → ℕ → Result Lexed Refusal
sigil_at kind s at line =
    pick (is_letter (get_or s (at + 1) 0)) (name_at kind s at line)
    (Err (R.UnexpectedByte (get_or s at 0) (cursor at line)))

-- A letter begins a keyword or local.
unfoldable pub then_value : Option TokenValue → (TokenValue → Result Lexed Refusal) → Result Lexed Refusal
    → Result Lexed Refusal
then_value (Some v) found none = found v
then_value None found none = none

unfoldable pub word_at : List ℕ → ℕ → ℕ → Result Lexed Refusal
word_at s at line =
    let end = name_end_at s at in
    then_value (keyword (slice at end s)) (λ v. Ok (L.Token (token v line at) (cursor end line)))
    (name_at N.Local s at line)

-- A token of one byte; any other byte is 3.
unfoldable pub symbol_at : List ℕ → ℕ → ℕ → Result Lexed Refusal
symbol_at s at line =
    then_value (symbol (get_or s at 0)) (λ v. Ok (L.Token (token v line at) (cursor (at + 1) line)))
    (Err (R.UnexpectedByte (get_or s at 0) (cursor at line)))

-- What is neither blank nor comment.
unfoldable pub token_from : List ℕ → ℕ → ℕ → Result Lexed Refusal
token_from s at line =
    let b = get_or s at 0 in
    pick (eqb b 45) (minus_at s at line)
    (pick (eqb b 64) (sigil_at N.Global s at line)
    (pick (eqb b 46) (sigil_at N.Label s at line)
    (pick (is_digit b) (digit_at s at line)
    (pick (is_letter b) (word_at s at line)
    (symbol_at s at line)))))

-- Blank: space, tab, CR. Newline is blank and adds 1 to the line.
-- `#` and `//` run through the next newline, which is not counted.
unfoldable pub piece_at : List ℕ → ℕ → ℕ → Result Lexed Refusal
piece_at s at line =
    let b = get_or s at 0 in
    pick (leb (length s) at) (Ok (L.End (cursor at line)))
    (pick (eqb b 10) (Ok (L.Skipped (cursor (at + 1) (line + 1))))
    (pick (is_blank b) (Ok (L.Skipped (cursor (at + 1) line)))
    (pick (eqb b 35) (Ok (L.Skipped (cursor (line_end (drop (at + 1) s) (at + 1)) line)))
    (pick (eqb b 47) (slash_at s at line)
    (token_from s at line)))))

-- All pieces of a text. ---------------------------------------------------------------------------------------------

pub data Pieces : Type 0 where
  spelled : Name → Pieces → Pieces
  plain : Token → Pieces → Pieces
  -- the text's end: its last line, and its length
  end : Cursor → Pieces
  refused : Refusal → Pieces
  -- more pieces than the bound allowed, which no text has (`pieces_end`)
  cut : Pieces

unfoldable pub on_piece : (Cursor → Pieces) → Result Lexed Refusal → Pieces
on_piece more (Ok (L.Skipped c)) = more c
on_piece more (Ok (L.Name n c)) = spelled n (more c)
on_piece more (Ok (L.Token t c)) = plain t (more c)
on_piece more (Ok (L.End c)) = end c
on_piece more (Err r) = refused r

-- Every piece is a byte long or longer, so one turn more than the text has bytes is enough.
unfoldable pub pieces_from : ℕ → List ℕ → ℕ → ℕ → Pieces
pieces_from zero s at line = cut
pieces_from (suc turns) s at line =
    on_piece (λ c. pieces_from turns s c.place c.line) (piece_at s at line)

-- the pieces of a whole text whose first line has this number
abbrev pub pieces : List ℕ → ℕ → Pieces
pieces s line = pieces_from (suc (length s)) s 0 line
