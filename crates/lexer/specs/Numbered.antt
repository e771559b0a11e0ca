-- A fold over the pieces: names are numbered and the limits applied, from left to right.
use Rattle.std.specs.Prelude.{ℕ, ◌+◌, List, [], ◌∷◌, ◌++◌, ltb, length, Option, Some, None, Result, Ok, Err}
use Rattle.std.proofs.Math.Seq.{slice}
use Rattle.utils.specs.Bytes.{pick, same_bytes}
use Rattle.pieces.specs.Tokens.{name_kind, value_of, token_cells}
use Rattle.pieces.specs.Pieces.{Pieces, cursor, token, pieces}
use Rattle.utils.specs.Limits.{most_names, most_name_bytes, most_tokens}
use Rattle.pieces.specs.declared.Cursor.{Cursor}
use Rattle.pieces.specs.declared.Identifier.{Identifier}
use Rattle.pieces.specs.declared.Token.{Token}
use Rattle.pieces.specs.declared.TokenValue.TheVariants as T
use Rattle.pieces.specs.declared.Name.{Name}
use Rattle.lexer.specs.declared.Identified.{Identified}
use Rattle.lexer.specs.declared.Identified.TheVariants as I
use Rattle.pieces.specs.declared.Refusal.{Refusal}
use Rattle.pieces.specs.declared.Refusal.TheVariants as R

-- A name of the table: the place of its first appearance, and its length.
pub record Part : Type 0 where
  pub place : ℕ
  pub len : ℕ

abbrev pub part : ℕ → ℕ → Part
part place len = record { place = place; len = len }

-- The spelling of each name, sigil and all: one table for all kinds.
unfoldable pub spellings : List ℕ → List Part → List (List ℕ)
spellings s [] = []
spellings s (p ∷ ps) = slice p.place (p.place + p.len) s ∷ spellings s ps

-- The number of the first that is spelled so.
unfoldable pub index_of : List ℕ → List (List ℕ) → ℕ → Option Identifier
index_of w [] k = None
index_of w (x ∷ xs) k = let more = index_of w xs (k + 1) in pick (same_bytes x w) (Some (record { 0 = k })) more

abbrev pub spelling_of : List ℕ → Name → List ℕ
spelling_of s n = slice n.place (n.place + n.len) s

-- where a token or a name begins
abbrev pub at_token : Token → Cursor
at_token t = cursor t.place t.line.0

abbrev pub at_name : Name → Cursor
at_name n = cursor n.place n.line.0

-- Names are numbered from 0 in order of first appearance; 1,024 names.
abbrev pub on_found : ℕ → Name → Option Identifier → Result Identified Refusal
on_found count n (Some i) = Ok (I.Known i)
on_found count n None =
    pick (ltb count most_names) (Ok (I.New (record { 0 = count }))) (Err (R.TooManyNames (at_name n)))

-- 64 bytes a name with its sigil. For one name 34 comes before 33.
unfoldable pub identified : List ℕ → List Part → Name → Result Identified Refusal
identified s names n =
    pick (ltb most_name_bytes n.len) (Err (R.NameTooLong (at_name n)))
    (on_found (length names) n (index_of (spelling_of s n) (spellings s names) 0))

-- the token of a name that has its number
abbrev pub named : Name → Identifier → Token
named n i = token (value_of (name_kind n.kind) i.0) n.line.0 n.place

pub data Outcome : Type 0 where
  done : List Token → List Part → Outcome
  refused : Refusal → Outcome
  -- of pieces that were cut, which no text has
  cut : Outcome

-- what follows a name's number, with the table then
unfoldable pub then_identified : List Part → Name → Result Identified Refusal → (Identifier → List Part → Outcome)
    → Outcome
then_identified names n (Ok (I.Known i)) k = k i names
then_identified names n (Ok (I.New i)) k = k i (names ++ (part n.place n.len ∷ []))
then_identified names n (Err r) k = refused r

-- 4,096 tokens with the end token; the token one too many is 32.
unfoldable pub then_room : List Token → Token → Outcome → Outcome
then_room tokens t more = pick (ltb (length tokens) most_tokens) more (refused (R.TooManyTokens (at_token t)))

-- The tokens and the names so far, and the pieces that are left. For one name 34 and 33 come before 32.
unfoldable pub numbered_from : List ℕ → List Token → List Part → Pieces → Outcome
numbered_from s tokens names (Pieces.spelled n rest) =
    then_identified names n (identified s names n) (λ i names'.
    then_room tokens (named n i) (numbered_from s (tokens ++ (named n i ∷ [])) names' rest))
numbered_from s tokens names (Pieces.plain t rest) =
    then_room tokens t (numbered_from s (tokens ++ (t ∷ [])) names rest)
-- The end token carries the last line. Its place is the text's length.
numbered_from s tokens names (Pieces.end c) =
    let t = token T.EndOfFile c.line c.place in
    then_room tokens t (done (tokens ++ (t ∷ [])) names)
numbered_from s tokens names (Pieces.refused r) = refused r
numbered_from s tokens names Pieces.cut = cut

-- a whole text whose first line has this number
unfoldable pub numbered : List ℕ → ℕ → Outcome
numbered s line = numbered_from s [] [] (pieces s line)

-- the cells of tokens and of names
unfoldable pub tokens_cells : List Token → List ℕ
tokens_cells [] = []
tokens_cells (t ∷ ts) = token_cells t ++ tokens_cells ts

unfoldable pub names_cells : List Part → List ℕ
names_cells [] = []
names_cells (p ∷ ps) = p.place ∷ p.len ∷ names_cells ps
