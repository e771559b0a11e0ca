-- DEMAND 3 (the mission): "Take an accepted text and replace one function, keeping name, parameter types and return
-- type. Rechecking the new function against the old headers alone accepts exactly when the whole edited text, read
-- afresh, is accepted; otherwise both give the same number at the same line and place. On acceptance its reading is
-- the fresh one, and all others read as before, but for name numbers and moved lines and places. Premises: the new
-- text lexes alone, runs from its @ name to a closing brace as last byte, holds no second function, and the edited
-- text stays inside the limits on bytes, tokens and names." That it holds of every text, number and new text is
-- `demand_3` (proofs/Demand3.antt).
use Rattle.std.specs.Prelude.{ℕ, ◌+◌, ◌<◌, ◌≡◌, List, ◌++◌, get_or, take, drop}
use Rattle.utils.specs.Bytes.{pad_to}
use Rattle.lexer.specs.Read.{read_from, read_of}
use Rattle.lexer.specs.Decoded.{tokens_of, token_at}
use Rattle.functions.specs.Columns.{close_at, place_at, line_at, table_size}
use Rattle.checker.specs.Check.{Checking, check_of}
use Rattle.recheck.specs.Recheck.{recheck_of}
use Rattle.edited.specs.Reading.{reading_of, moved_reading}

-- The edited text. ---------------------------------------------------------------------------------------------------

-- the header table as check leaves it in a slice of its size. "For a table that check didn't write, only demands 1 and
-- 2 apply."
abbrev pub table_of : List ℕ → List ℕ
table_of old = pad_to table_size (check_of old).unit.functions

-- where function k begins: its name's place; and its line
abbrev pub begins_at : List ℕ → ℕ → ℕ
begins_at old k = get_or (table_of old) (place_at k) 0

abbrev pub line_of : List ℕ → ℕ → ℕ
line_of old k = get_or (table_of old) (line_at k) 0

-- where it ends: behind its closing token, a brace
abbrev pub ends_at : List ℕ → ℕ → ℕ
ends_at old k = (token_at (tokens_of (check_of old).tokens) (get_or (table_of old) (close_at k) 0)).place + 1

-- "replace one function": from its name to its closing brace
abbrev pub edited_text : List ℕ → ℕ → List ℕ → List ℕ
edited_text old k new = take (begins_at old k) old ++ (new ++ drop (ends_at old k) old)

-- recheck's answer for the new text
abbrev pub rechecked_as : List ℕ → ℕ → List ℕ → Checking
rechecked_as old k new = recheck_of old (table_of old) k new

-- The premises. ------------------------------------------------------------------------------------------------------

-- "Demand 3 speaks where the answer is no lexical number and none of 30, 40, 41, 42." (30 is the gate's, and with this
-- table there is no 42.)
pub record Edits (old : List ℕ) (k : ℕ) (new : List ℕ) : Type 0 where
  -- "Take an accepted text and replace one function"
  pub accepted : (check_of old).answer.number ≡ 0
  pub one : k < (check_of old).answer.functions
  -- "the new text lexes alone", from the replaced function's line on: it has no lexical number (`Lexical` of
  -- lexer/specs/Numbers.antt, 43 among them)
  pub lexes : (read_from (line_of old k) new).answer.number ≡ 0
  -- "runs from its @ name to a closing brace as last byte, holds no second function": recheck doesn't answer with 40.
  -- (A text that is refused before its second function is met is spoken of, too.)
  pub whole : (rechecked_as old k new).answer.number ≡ 40 → ⊥
  -- "keeping name, parameter types and return type": nor with 41, likewise
  pub keeps : (rechecked_as old k new).answer.number ≡ 41 → ⊥
  -- "the edited text stays inside the limits on bytes, tokens and names"
  pub bytes_few : (read_of (edited_text old k new)).answer.number ≡ 31 → ⊥
  pub tokens_few : (read_of (edited_text old k new)).answer.number ≡ 32 → ⊥
  pub names_few : (read_of (edited_text old k new)).answer.number ≡ 33 → ⊥

-- What follows. ------------------------------------------------------------------------------------------------------

-- "otherwise both give the same number at the same line and place", and "fresh places count from the replaced
-- function's first byte"
pub record SameRefusal (p : ℕ) (fresh alone : Checking) : Type 0 where
  pub number : fresh.answer.number ≡ alone.answer.number
  pub line : fresh.answer.line ≡ alone.answer.line
  pub place : fresh.answer.place ≡ p + alone.answer.place

pub record Demand3 (old : List ℕ) (k : ℕ) (new : List ℕ) : Type 0 where
  -- "accepts exactly when the whole edited text, read afresh, is accepted"
  pub accepts_fresh : (rechecked_as old k new).answer.number ≡ 0 → (check_of (edited_text old k new)).answer.number ≡ 0
  pub fresh_accepts : (check_of (edited_text old k new)).answer.number ≡ 0 → (rechecked_as old k new).answer.number ≡ 0
  pub refuses : ((check_of (edited_text old k new)).answer.number ≡ 0 → ⊥)
      → SameRefusal (begins_at old k) (check_of (edited_text old k new)) (rechecked_as old k new)
  -- "On acceptance its reading is the fresh one", lines as they are
  pub new_reads : (check_of (edited_text old k new)).answer.number ≡ 0
      → reading_of (edited_text old k new) (check_of (edited_text old k new)) k ≡ reading_of new (rechecked_as old k new) 0
  -- .. where the replaced one stood
  pub new_begins : (check_of (edited_text old k new)).answer.number ≡ 0
      → begins_at (edited_text old k new) k ≡ begins_at old k
  -- "and all others read as before, but for name numbers and moved lines and places"
  pub as_many : (check_of (edited_text old k new)).answer.number ≡ 0
      → (check_of (edited_text old k new)).answer.functions ≡ (check_of old).answer.functions
  pub others_read : (check_of (edited_text old k new)).answer.number ≡ 0
      → (j : ℕ) → j < (check_of old).answer.functions → (j ≡ k → ⊥)
      → moved_reading (edited_text old k new) (check_of (edited_text old k new)) j ≡ moved_reading old (check_of old) j
