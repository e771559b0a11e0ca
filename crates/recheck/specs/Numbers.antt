-- Document 01's numbers for recheck.
use Rattle.std.specs.Prelude.{ℕ, ◌≤◌, ◌≡◌, ◌⊎◌, List, true, get_or}
use Rattle.pieces.specs.declared.Token.{Token}
use Rattle.lexer.specs.Numbered.{Part, Outcome, tokens_cells, names_cells}
use Rattle.lexer.specs.Read.{lexed_from}
use Rattle.lexer.specs.Numbers.{Lexical}
use Rattle.lexer.specs.Decoded.{tokens_of}
use Rattle.functions.specs.Functions.{Function}
use Rattle.functions.specs.Columns.{line_at}
use Rattle.headers.specs.Table.{is_table}
use Rattle.headers.specs.Kept.{is_whole}
use Rattle.recheck.specs.Recheck.{accepts, verdict_d}

-- The refusals of a new text: check's but 35, since there is no 65th function; 40, 41. 42 is the table's.
abbrev pub Listed : ℕ → Type 0
Listed n = Lexical n ⊎ ((5 ≤ n) × (n ≤ 22)) ⊎ ((36 ≤ n) × (n ≤ 38)) ⊎ ((40 ≤ n) × (n ≤ 41))

-- A header table in range and a new function that is accepted against it: lexing, the look at the first and the last
-- token, parsing and typing find nothing to refuse.
pub record Accepts (old table : List ℕ) (number : ℕ) (new : List ℕ) : Type 0 where
  pub tokens : List Token
  pub names : List Part
  pub function : Function
  -- the names that its typing left
  pub symbols : List ℕ
  pub good : is_table old table number ≡ true
  pub lexed : lexed_from (get_or table (line_at number) 0) new ≡ Outcome.done tokens names
  pub whole : is_whole new (tokens_of (tokens_cells tokens)) ≡ true
  pub typed : verdict_d old table number new (names_cells names) (tokens_of (tokens_cells tokens))
      ≡ accepts function symbols

-- 0 exactly for a new function that is accepted, a listed number or 42 for every other
abbrev pub Numbered : List ℕ → List ℕ → ℕ → List ℕ → ℕ → Type 0
Numbered old table number new n =
    (Accepts old table number new × (n ≡ 0)) ⊎ ((Accepts old table number new → ⊥) × (Listed n ⊎ (n ≡ 42)))
