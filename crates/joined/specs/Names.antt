-- The tokens that stand for the items of a text, by a table of spellings; and names that are the same in two tables.
use Rattle.std.specs.Prelude.{ℕ, ◌+◌, ◌≤◌, ◌<◌, ◌≡◌, List, [], ◌∷◌, ◌++◌, length, get_or, Option, Some, None}
use Rattle.pieces.specs.Tokens.{kind_of, name_kind}
use Rattle.pieces.specs.Pieces.{Pieces, token}
use Rattle.pieces.specs.Kinds as K
use Rattle.utils.specs.Limits.{most_name_bytes}
use Rattle.pieces.specs.declared.Cursor.{Cursor}
use Rattle.pieces.specs.declared.Token.{Token}
use Rattle.pieces.specs.declared.TokenValue.TheVariants as T
use Rattle.lexer.specs.Numbered.{Part, spellings, spelling_of, index_of, named}
use Rattle.lexer.specs.Decoded.{Tok, tok, is_name}
use Rattle.parser.specs.Moved.{Move}
use Rattle.utils.specs.Bytes.{pick}
use Rattle.joined.specs.Runs.{Item, before}
use Rattle.pieces.specs.declared.Identifier.{Identifier}

-- two lists, element by element
pub data Both {A B : Type 0} (R : A → B → Type 0) : List A → List B → Type 0 where
  none : Both R [] []
  more : {x : A} {y : B} {xs : List A} {ys : List B} → R x y → Both R xs ys → Both R (x ∷ xs) (y ∷ ys)

-- The token t stands for an item of the text s: a name's carries the number of its spelling in the table.
abbrev pub Stands : List ℕ → List (List ℕ) → Item → Token → Type 0
Stands s ws (Item.spelled n) t =
    (k : ℕ) × (k < length ws) × (get_or ws k [] ≡ spelling_of s n) × (n.len ≤ most_name_bytes)
    × (t ≡ named n (record { 0 = k }))
Stands s ws (Item.plain u) t = t ≡ u

-- the words of items: the spellings of their names
unfoldable pub words_of : List ℕ → List Item → List (List ℕ)
words_of s [] = []
words_of s (Item.spelled n ∷ is) = spelling_of s n ∷ words_of s is
words_of s (Item.plain t ∷ is) = words_of s is

-- A table after words were entered, from left to right: each that isn't there is put at its end.
abbrev pub with_word : List (List ℕ) → List ℕ → Option Identifier → List (List ℕ)
with_word ws w (Some i) = ws
with_word ws w None = ws ++ (w ∷ [])

unfoldable pub entered : List (List ℕ) → List (List ℕ) → List (List ℕ)
entered ws [] = ws
entered ws (w ∷ us) = entered (with_word ws w (index_of w ws 0)) us

-- a word of a table; all words of a list
abbrev pub In : List (List ℕ) → List ℕ → Type 0
In ws w = (k : ℕ) × (k < length ws) × (get_or ws k [] ≡ w)

abbrev pub AllIn : List (List ℕ) → List (List ℕ) → Type 0
AllIn ws [] = Unit
AllIn ws (w ∷ us) = In ws w × AllIn ws us

-- What an accepted numbering is, from tokens and names that were there before: the pieces are items and the end, the
-- names are those from before and new ones, and one token more stands for each item, then the end token.
pub record Numbers (s : List ℕ) (ts : List Token) (ns : List Part) (ps : Pieces) (ts' : List Token) (ns' : List Part)
    : Type 0 where
  pub items : List Item
  pub end : Cursor
  pub same : ps ≡ before items (Pieces.end end)
  pub new : List Part
  pub names : ns' ≡ ns ++ new
  pub toks : List Token
  pub tokens : ts' ≡ ts ++ (toks ++ (token T.EndOfFile end.line end.place ∷ []))
  pub stand : Both (Stands s (spellings s ns')) items toks
  -- the names by their spellings: the new ones are entered behind those from before
  pub table : spellings s ns' ≡ entered (spellings s ns) (words_of s items)

-- no two names of a table are spelled alike
abbrev pub Distinct : List (List ℕ) → Type 0
Distinct ws = (i j : ℕ) → i < length ws → j < length ws → get_or ws i [] ≡ get_or ws j [] → i ≡ j

-- A name of one table by its number in another: found by its spelling; one that isn't there gets a number behind all
-- others, so that no two names get one number.
abbrev pub found_or : ℕ → Option Identifier → ℕ
found_or other (Some i) = i.0
found_or other None = other

abbrev pub renamed : List (List ℕ) → List (List ℕ) → ℕ → ℕ
renamed ws ws' x = found_or (length ws + x) (index_of (get_or ws' x []) ws 0)

-- An item lies in a text of n bytes; a name is of a kind from 1 to 3, and a token of a kind from 4 to 37.
abbrev pub Inside : ℕ → Item → Type 0
Inside n (Item.spelled x) = (x.place + x.len ≤ n) × (K.local ≤ name_kind x.kind) × (name_kind x.kind ≤ K.label)
Inside n (Item.plain t) = (K.integer ≤ kind_of t.value) × (kind_of t.value < K.end_of_file)

abbrev pub AllInside : ℕ → List Item → Type 0
AllInside n [] = Unit
AllInside n (i ∷ is) = Inside n i × AllInside n is

-- A token's cells, moved: on by bytes, down by lines, and a name's number by a renaming (`move_t`, which adds the index
-- to go on at).
abbrev pub move_tok : ℕ → ℕ → (ℕ → ℕ) → Tok → Tok
move_tok on down name t =
    tok t.kind (pick (is_name t.kind) (name t.value) t.value) (down + t.line) (on + t.place)

-- a renaming that gives no two names one number
abbrev pub Apart : List (List ℕ) → List (List ℕ) → Type 0
Apart ws ws' = (x y : ℕ) → x < length ws' → y < length ws' → renamed ws ws' x ≡ renamed ws ws' y → x ≡ y

-- The move of a part (`Moved`): on by tokens, down by lines, on by bytes, and names by their spellings from the table
-- ws' of the part to the table ws of the whole.
abbrev pub move_of : (by down on : ℕ) (ws ws' : List (List ℕ)) → Apart ws ws' → Move
move_of by down on ws ws' apart =
    record { by = by; down = down; on = on; names = length ws'; name = renamed ws ws'; apart = apart }

-- nothing moved, and none of n names renamed
abbrev pub still : ℕ → Move
still n = record { by = 0; down = 0; on = 0; names = n; name = λ x. x; apart = λ x y _ _ e. e }
