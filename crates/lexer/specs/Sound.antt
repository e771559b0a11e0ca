-- What callers rely on of an accepted reading, by parts with names. That every accepted reading has it is `read_sound`
-- (proofs/Sound.antt); how the cells hold it is shown in proofs/Cells.antt and proofs/Accepted.antt.
use Rattle.std.specs.Prelude.{ℕ, ◌+◌, ◌≤◌, ◌<◌, ◌≡◌, List, [], ◌∷◌, ◌++◌, true, length, get_or}
use Rattle.std.proofs.Math.Seq.{slice}
use Rattle.pieces.specs.Classes.{is_ascii}
use Rattle.pieces.specs.Tokens.{kind_of, carried}
use Rattle.pieces.specs.Refusals.{facts_of}
use Rattle.pieces.specs.Pieces.{token}
use Rattle.pieces.specs.Kinds as K
use Rattle.utils.specs.Limits.{most_bytes, most_tokens, most_names, most_name_bytes}
use Rattle.lexer.specs.Numbered.{Part, part}
use Rattle.pieces.specs.declared.Token.{Token}
use Rattle.pieces.specs.declared.TokenValue.TheVariants as T
use Rattle.pieces.specs.declared.Refusal.{Refusal}

-- Every element of a list, and every two of them in their order; d is what `get_or` reads past the end.
abbrev pub Each : {A : Type 0} → A → (A → Type 0) → List A → Type 0
Each d P l = (i : ℕ) → i < length l → P (get_or l i d)

abbrev pub Pairs : {A : Type 0} → A → (A → A → Type 0) → List A → Type 0
Pairs d R l = (i j : ℕ) → i < j → j < length l → R (get_or l i d) (get_or l j d)

abbrev pub no_token : Token
no_token = token T.EndOfFile 0 0

abbrev pub no_part : Part
no_part = part 0 0

-- the bytes of a name
abbrev pub spelling : List ℕ → Part → List ℕ
spelling s p = slice p.place (p.place + p.len) s

-- the name whose number a token carries
abbrev pub part_of : List Part → Token → Part
part_of ns t = get_or ns (carried t.value) no_part

-- Of a token. A name's, of a kind from 1 to 3, carries the number of a name, and the text has that name's bytes there.
abbrev pub HasNumber : List Part → Token → Type 0
HasNumber ns t = kind_of t.value ≤ K.label → carried t.value < length ns

abbrev pub HasSpelling : List ℕ → List Part → Token → Type 0
HasSpelling s ns t =
    kind_of t.value ≤ K.label → spelling s (part t.place (part_of ns t).len) ≡ spelling s (part_of ns t)

-- A global or a label, of kind 2 or 3, has a letter behind its sigil.
abbrev pub HasLetter : List Part → Token → Type 0
HasLetter ns t = K.global ≤ kind_of t.value → kind_of t.value ≤ K.label → 2 ≤ (part_of ns t).len

-- No line comes before the first, a byte adds a line at most, and no token begins past the text's end.
abbrev pub InRange : List ℕ → ℕ → Token → Type 0
InRange s line t = (line ≤ t.line.0) × (t.line.0 ≤ line + t.place) × (t.place ≤ length s)

-- Of two tokens in their order: places rise, and lines never fall.
abbrev pub Rises : Token → Token → Type 0
Rises t u = (t.place < u.place) × (t.line.0 ≤ u.line.0)

-- Of a name: it lies in the text, 1 to 64 bytes long. Of two names: they differ.
abbrev pub InText : List ℕ → Part → Type 0
InText s p = (1 ≤ p.len) × (p.len ≤ most_name_bytes) × (p.place + p.len ≤ length s)

abbrev pub Differ : List ℕ → Part → Part → Type 0
Differ s p q = spelling s p ≡ spelling s q → ⊥

-- The text s, the number of its first line, its tokens and its names.
pub record Sound (s : List ℕ) (line : ℕ) (ts : List Token) (ns : List Part) : Type 0 where
  pub short : length s ≤ most_bytes
  pub ascii : is_ascii s ≡ true
  -- The last token is the end token, at the text's length, and no other is one.
  pub front : List Token
  pub last_line : ℕ
  pub ends : ts ≡ front ++ (token T.EndOfFile last_line (length s) ∷ [])
  pub inner : Each no_token (λ t. kind_of t.value < K.end_of_file) front
  pub some : 1 ≤ length ts
  pub few : length ts ≤ most_tokens
  pub few_names : length ns ≤ most_names
  pub numbered : Each no_token (HasNumber ns) ts
  pub spelled : Each no_token (HasSpelling s ns) ts
  pub lettered : Each no_token (HasLetter ns) ts
  pub ranges : Each no_token (InRange s line) ts
  pub rise : Pairs no_token Rises ts
  pub within : Each no_part (InText s) ns
  pub distinct : Pairs no_part (Differ s) ns

-- Of a refusal: where it stands.
pub record SoundRefusal (s : List ℕ) (line : ℕ) (r : Refusal) : Type 0 where
  pub place_in : (facts_of r).place ≤ length s
  pub place_small : (facts_of r).place ≤ most_bytes
  pub line_to : (facts_of r).line ≤ line + (facts_of r).place
