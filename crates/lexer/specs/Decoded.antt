-- What the cells that `read` writes hold, for callers: the tokens as a list, the token at an index, a name's spelling.
use Rattle.std.specs.Prelude.{ℕ, ◌+◌, ◌*◌, List, [], ◌∷◌, Bool, false, ltb, leb, eqb, length, get_or}
use Rattle.std.proofs.Math.Seq.{slice}
use Rattle.utils.specs.Bytes.{pick}
use Rattle.pieces.specs.Kinds as K
use Rattle.lexer.specs.Sizes.{name_width}
use Rattle.pieces.specs.declared.Identifier.{Identifier}
use Rattle.lexer.specs.declared.TokenAt.{TokenAt}

-- a token as its four cells hold it
pub record Tok : Type 0 where
  pub kind : ℕ
  pub value : ℕ
  pub line : ℕ
  pub place : ℕ

abbrev pub tok : ℕ → ℕ → ℕ → ℕ → Tok
tok k v l p = record { kind = k; value = v; line = l; place = p }

-- the end token's kind, at no place: what is read past the slice's last record
abbrev pub past : Tok
past = tok K.end_of_file 0 0 0

unfoldable pub tokens_of : List ℕ → List Tok
tokens_of (k ∷ v ∷ l ∷ p ∷ s) = tok k v l p ∷ tokens_of s
tokens_of (k ∷ v ∷ l ∷ []) = []
tokens_of (k ∷ v ∷ []) = []
tokens_of (k ∷ []) = []
tokens_of [] = []

-- locals, globals and labels, the first kinds
unfoldable pub is_name : ℕ → Bool
is_name k = pick (leb k 0) false (leb k K.label)

-- What a token carries, of its kind and its second cell: a name's number, or an integer's bits (kind 4); 0 where it
-- carries none.
unfoldable pub name_in : ℕ → ℕ → Identifier
name_in kind carried = record { 0 = pick (is_name kind) carried 0 }

unfoldable pub integer_in : ℕ → ℕ → ℕ
integer_in kind carried = pick (eqb kind K.integer) carried 0

-- The index to go on at: one more, but the end token is followed by itself (the Rust's `advance`).
abbrev pub index_behind : ℕ → ℕ → ℕ
index_behind kind at = pick (eqb kind K.end_of_file) at (at + 1)

abbrev pub with_next : Tok → ℕ → TokenAt
with_next t n =
    record {
      kind = t.kind;
      name = name_in t.kind t.value;
      integer = integer_in t.kind t.value;
      line = record { 0 = t.line };
      place = t.place;
      next = n;
    }

-- The token at an index.
unfoldable pub token_at : List Tok → ℕ → TokenAt
token_at ts at =
    let t = get_or ts at past in
    pick (ltb at (length ts)) (with_next t (index_behind t.kind at)) (with_next past at)

-- The part of the text that a name's record names; nothing where it lies outside the text.
unfoldable pub name_of : List ℕ → List ℕ → ℕ → List ℕ
name_of text names i =
    let place = get_or names (i * name_width) 0 in
    let len = get_or names (i * name_width + 1) 0 in
    pick (leb (place + len) (length text)) (slice place (place + len) text) []
