-- What the reader's loop does at one turn: a piece, its name numbered, and the names' cells that it adds.
-- `numbered_from` says the same of all pieces; that turns add up to it is shown in `proofs/Turns.antt`.
use Rattle.std.specs.Prelude.{ℕ, ◌+◌, ◌*◌, ◌%◌, ◌≤◌, ◌<◌, ◌≡◌, List, [], ◌∷◌, ltb, length, get_or, take, Result, Ok}
use Rattle.std.specs.Prelude.{Err}
use Rattle.std.proofs.lemmas.List.Edits.{sets}
use Rattle.std.proofs.Math.Seq.{slice}
use Rattle.utils.specs.Bytes.{pick}
use Rattle.pieces.specs.Tokens.{token_cells}
use Rattle.pieces.specs.Pieces.{token}
use Rattle.utils.specs.Limits.{most_names, most_tokens}
use Rattle.lexer.specs.Sizes.{names_size, token_width, name_width}
use Rattle.lexer.specs.Numbered.{Part, part, at_token, identified, named}
use Rattle.pieces.specs.declared.Cursor.{Cursor}
use Rattle.pieces.specs.declared.Token.{Token}
use Rattle.pieces.specs.declared.TokenValue.TheVariants as T
use Rattle.pieces.specs.declared.Name.{Name}
use Rattle.lexer.specs.declared.Identified.{Identified}
use Rattle.lexer.specs.declared.Identified.TheVariants as I
use Rattle.pieces.specs.declared.Lexed.{Lexed}
use Rattle.pieces.specs.declared.Lexed.TheVariants as L
use Rattle.lexer.specs.declared.Next.{Next}
use Rattle.lexer.specs.declared.Next.TheVariants as N
use Rattle.pieces.specs.declared.Refusal.{Refusal}
use Rattle.pieces.specs.declared.Refusal.TheVariants as R

-- the names that cells hold, two cells a name
unfoldable pub parts_of : List ℕ → List Part
parts_of (a ∷ n ∷ r) = part a n ∷ parts_of r
parts_of (a ∷ []) = []
parts_of [] = []

-- each name lies in a text of this length
abbrev pub Within : ℕ → List Part → Type 0
Within n [] = Unit
Within n (p ∷ ps) = (p.place + p.len ≤ n) × Within n ps

-- the first `count` names that cells hold
abbrev pub first_names : ℕ → List ℕ → List Part
first_names count cells = parts_of (take (count * name_width) cells)

-- what the code may rely on of the table of names
pub record Table (text cells : List ℕ) (count : ℕ) : Type 0 where
  pub few : count ≤ most_names
  pub room : names_size ≤ length cells
  pub small : length text < 4294967296
  pub within : Within (length text) (first_names count cells)

-- A number that equal spellings share. The code keeps it for each name beside the table, and looks at a name's bytes
-- only where it agrees. No answer depends on how it is chosen.
unfoldable pub print_from : ℕ → List ℕ → ℕ
print_from sum [] = sum
print_from sum (b ∷ s) = print_from ((sum * 129 + b) % 4294967296) s

abbrev pub print_of : List ℕ → ℕ
print_of s = print_from 0 s

-- the spelling of the name that record k of the cells holds
abbrev pub spelled_at : List ℕ → List ℕ → ℕ → List ℕ
spelled_at text cells k =
    let place = get_or cells (k * name_width) 0 in
    slice place (place + get_or cells (k * name_width + 1) 0) text

-- they are kept of the first `count` names
pub record Prints (text cells : List ℕ) (count : ℕ) (prints : List ℕ) : Type 0 where
  pub room : most_names ≤ length prints
  pub each : (k : ℕ) → k < count → get_or prints k 0 ≡ print_of (spelled_at text cells k)

-- what a name adds to the names' cells
abbrev pub new_cells : Name → Result Identified Refusal → List ℕ
new_cells n (Ok (I.Known i)) = []
new_cells n (Ok (I.New i)) = n.place ∷ n.len ∷ []
new_cells n (Err r) = []

-- a name that has its number, and how many names there are then
abbrev pub next_name : ℕ → Name → Cursor → Result Identified Refusal → Result Next Refusal
next_name count n c (Ok (I.Known i)) = Ok (N.Token (named n i) c count)
next_name count n c (Ok (I.New i)) = Ok (N.Token (named n i) c (count + 1))
next_name count n c (Err r) = Err r

unfoldable pub next_of : List ℕ → List Part → ℕ → Result Lexed Refusal → Result Next Refusal
next_of s names count (Ok (L.Skipped c)) = Ok (N.Skipped c)
next_of s names count (Ok (L.Name n c)) = next_name count n c (identified s names n)
next_of s names count (Ok (L.Token t c)) = Ok (N.Token t c count)
next_of s names count (Ok (L.End c)) = Ok (N.End (token T.EndOfFile c.line c.place))
next_of s names count (Err r) = Err r

-- what a piece adds to the names' cells
unfoldable pub added_by : List ℕ → List Part → Result Lexed Refusal → List ℕ
added_by s names (Ok (L.Skipped c)) = []
added_by s names (Ok (L.Name n c)) = new_cells n (identified s names n)
added_by s names (Ok (L.Token t c)) = []
added_by s names (Ok (L.End c)) = []
added_by s names (Err r) = []

-- whether there is room for a token behind `count` others: the token one too many is 32
unfoldable pub room_for : ℕ → Token → Result Unit Refusal
room_for count t = pick (ltb count most_tokens) (Ok tt) (Err (R.TooManyTokens (at_token t)))

-- the tokens' cells with one token more, where there is room for it
unfoldable pub pushed : List ℕ → ℕ → Token → List ℕ
pushed cells count t = pick (ltb count most_tokens) (sets cells (count * token_width) (token_cells t)) cells
