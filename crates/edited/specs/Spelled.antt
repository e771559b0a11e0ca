-- Names of two texts that are spelled alike, by their tables of spellings and by their cells; and how the parts of an
-- edited text are moved.
use Rattle.std.specs.Prelude.{ℕ, ◌+◌, ◌-◌, ◌<◌, ◌≡◌, Bool, List, [], ◌∷◌, ◌++◌, length, get_or}
use Rattle.utils.specs.Bytes.{same_bytes}
use Rattle.pieces.specs.declared.Token.{Token}
use Rattle.lexer.specs.Numbered.{Part, spellings, tokens_cells}
use Rattle.lexer.specs.Decoded.{Tok, tokens_of, name_of}
use Rattle.lexer.specs.Sound.{no_token}
use Rattle.parser.specs.Moved.{Move}
use Rattle.joined.specs.Names.{move_of, still}
use Rattle.joined.specs.Edits.{Edit}
use Rattle.joined.specs.Readings.{Readings}

-- name x of the one table and name y of the other
abbrev pub SpeltIn : List (List ℕ) → List (List ℕ) → ℕ → ℕ → Type 0
SpeltIn ws us x y = (x < length ws) × (y < length us) × (get_or ws x [] ≡ get_or us y [])

-- whether name x of the new text is spelled as name y of the old one
abbrev pub spelled_alike : (old old_names new new_names : List ℕ) → ℕ → ℕ → Bool
spelled_alike old old_names new new_names x y = same_bytes (name_of old old_names y) (name_of new new_names x)

-- the tokens of a text, of the cells that `read_of` has of it
abbrev pub tokens_in : List Token → List Tok
tokens_in ts = tokens_of (tokens_cells ts)

-- the cells of names by their spellings: each at no place, with its length
unfoldable pub word_cells : List (List ℕ) → List ℕ
word_cells [] = []
word_cells (w ∷ ws) = 0 ∷ length w ∷ word_cells ws

-- How the parts of an edited text are moved, from where they stand in another text: its front from the old text, the
-- new function from the new text alone, and what is behind it, from its own tokens, to the old text and to the edited
-- one.
module _ {pre f post new : List ℕ} {line first : ℕ} {e : Edit pre f post new line first} {ts : List Token}
    {ns : List Part} (r : Readings pre f post new line first e ts ns) where
  abbrev pub front_move : Move
  front_move = still r.front-names

  abbrev pub inside_move : Move
  inside_move =
      move_of e.opening 0 (length pre) (spellings (pre ++ (new ++ post)) ns) (spellings new e.new_names)
      r.new_apart

  abbrev pub old_back_move : Move
  old_back_move =
      move_of (e.closing + 1) (get_or e.old_tokens e.closing no_token).line.0 (length pre + length f)
      (spellings (pre ++ (f ++ post)) e.old_names) r.rest-words r.old_apart

  abbrev pub new_back_move : Move
  new_back_move =
      move_of (e.opening + (length e.tokens_new - 1)) (get_or e.tokens_new e.new_closing no_token).line.0
      (length pre + length new) (spellings (pre ++ (new ++ post)) ns) r.rest-words r.rest-apart
