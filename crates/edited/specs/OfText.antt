-- The two premises of demand 3 that are stated by recheck's answer, no 40 and no 41, as premises on the new text alone,
-- by its tokens. That they give them is `text_decides` (proofs/OfText.antt): 40 and 41 come from these tests alone. The
-- first and the last are recheck's own (recheck/specs/Recheck.antt).
use Rattle.std.specs.Prelude.{ℕ, ◌+◌, ◌≡◌, true, List}
use Rattle.utils.specs.Bytes.{same_bytes}
use Rattle.lexer.specs.Read.{read_from}
use Rattle.lexer.specs.Decoded.{Tok, tokens_of, token_at}
use Rattle.functions.specs.Rows.{signed_at}
use Rattle.headers.specs.Spelled.{row_name}
use Rattle.headers.specs.Kept.{is_whole, keeps}
use Rattle.pieces.specs.Kinds as K
use Rattle.edited.specs.Demand3.{table_of, line_of}

-- the new text's tokens
abbrev pub new_tokens : List ℕ → ℕ → List ℕ → List Tok
new_tokens old k new = tokens_of (read_from (line_of old k) new).tokens

pub record OneFunction (old : List ℕ) (k : ℕ) (new : List ℕ) : Type 0 where
  -- "runs from its @ name to a closing brace as last byte"
  pub whole : is_whole new (new_tokens old k new) ≡ true
  -- "holds no second function": no global stands right behind a closing brace
  pub single : (i : ℕ) → (token_at (new_tokens old k new) i).kind ≡ K.right_brace
      → (token_at (new_tokens old k new) (i + 1)).kind ≡ 2 → ⊥
  -- "keeping name, parameter types and return type"
  pub kept : keeps (same_bytes (row_name old (table_of old) k)) (signed_at (table_of old) k) new
      (read_from (line_of old k) new).names (new_tokens old k new)
      ≡ true
