-- What demand 3 needs of lexing: where one function of an accepted text is replaced and the edited text is accepted,
-- which tokens are the same in the old text, in the new text alone, and in the edited text.
use Rattle.std.specs.Prelude.{ℕ, ◌+◌, ◌-◌, ◌≤◌, ◌<◌, ◌≡◌, List, [], ◌++◌, length, get_or}
use Rattle.utils.specs.Bytes.{pad_to}
use Rattle.pieces.specs.Tokens.{kind_of}
use Rattle.pieces.specs.Kinds as K
use Rattle.pieces.specs.declared.Token.{Token}
use Rattle.lexer.specs.Numbered.{Part, spellings, tokens_cells}
use Rattle.lexer.specs.Decoded.{Tok, tokens_of}
use Rattle.lexer.specs.Sound.{no_token}
use Rattle.parser.specs.Moved.{Sim}
use Rattle.joined.specs.Names.{Distinct, renamed, Apart, move_of, still}
use Rattle.joined.specs.Edits.{Edit}

-- the tokens that a slice of w cells holds
abbrev pub held : ℕ → List Token → List Tok
held w ts = tokens_of (pad_to w (tokens_cells ts))

-- a name of one table is in another, with the same spelling, by its number there
abbrev pub SameWord : List (List ℕ) → List (List ℕ) → ℕ → Type 0
SameWord ws ws' x = (renamed ws ws' x < length ws) × (get_or ws (renamed ws ws' x) [] ≡ get_or ws' x [])

-- The edited text's tokens are ts, its names ns.
pub record Readings (pre f post new : List ℕ) (line first : ℕ) (e : Edit pre f post new line first) (ts : List Token)
    (ns : List Part) : Type 0 where
  -- no two names of the edited text are spelled alike: names of its parts are one name where their spellings are one
  pub distinct : Distinct (spellings (pre ++ (new ++ post)) ns)
  -- before the replaced function: the old text's tokens, with the same names, which come first in both tables
  pub front-names : ℕ
  pub front-known : front-names ≤ length ns
  pub front-known_old : front-names ≤ length e.old_names
  pub front-spelled : (x : ℕ) → x < front-names
      → get_or (spellings (pre ++ (new ++ post)) ns) x [] ≡ get_or (spellings (pre ++ (f ++ post)) e.old_names) x []
  pub front_same : (i : ℕ) → i < e.opening → get_or ts i no_token ≡ get_or e.old_tokens i no_token
  -- so they are related as they stand, where the last of them is a closing brace or there is none
  pub front-still : ((i : ℕ) → i + 1 ≡ e.opening → kind_of (get_or e.old_tokens i no_token).value ≡ K.right_brace)
      → (w w' : ℕ)
      → Sim (still front-names) e.opening (held w ts) (held w' e.old_tokens)
  -- then the new text's, without its end token: moved by the tokens and the bytes of pre, on the same lines, and
  -- renamed by spelling
  pub new_apart : Apart (spellings (pre ++ (new ++ post)) ns) (spellings new e.new_names)
  pub new-moved : (w w' : ℕ)
      → Sim (move_of e.opening 0 (length pre) (spellings (pre ++ (new ++ post)) ns)
      (spellings new e.new_names) new_apart)
      (length e.tokens_new - 1) (held w ts) (held w' e.tokens_new)
  pub new-spelled : (x : ℕ) → x < length e.new_names
      → SameWord (spellings (pre ++ (new ++ post)) ns) (spellings new e.new_names) x
  -- then the rest's, with the end token: the tokens of post alone from line 0, with its own names, which are names of
  -- the old text, are moved and renamed to their place in the old text and to their place in the edited one
  pub rest : List Token
  pub rest-words : List (List ℕ)
  pub rest-few : length rest-words ≤ length e.old_names
  pub counted : length ts ≡ e.opening + (length e.tokens_new - 1) + length rest
  pub counted_old : length e.old_tokens ≡ e.closing + 1 + length rest
  pub old_apart : Apart (spellings (pre ++ (f ++ post)) e.old_names) rest-words
  pub rest_old : (w w' : ℕ)
      → Sim (move_of (e.closing + 1) (get_or e.old_tokens e.closing no_token).line.0 (length pre + length f)
      (spellings (pre ++ (f ++ post)) e.old_names) rest-words old_apart)
      (length rest) (held w e.old_tokens) (held w' rest)
  pub old_spelled : (x : ℕ) → x < length rest-words
      → SameWord (spellings (pre ++ (f ++ post)) e.old_names) rest-words x
  pub rest-apart : Apart (spellings (pre ++ (new ++ post)) ns) rest-words
  pub rest-new : (w w' : ℕ)
      → Sim (move_of (e.opening + (length e.tokens_new - 1)) (get_or e.tokens_new e.new_closing no_token).line.0
      (length pre + length new) (spellings (pre ++ (new ++ post)) ns) rest-words rest-apart)
      (length rest) (held w ts) (held w' rest)
  pub rest-spelled : (x : ℕ) → x < length rest-words → SameWord (spellings (pre ++ (new ++ post)) ns) rest-words x
