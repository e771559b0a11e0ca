-- Document 01's numbers for check: "An answer is accepted (0) or a refusal number".
use Rattle.std.specs.Prelude.{ℕ, ◌≤◌, ◌≡◌, ◌⊎◌, List}
use Rattle.pieces.specs.declared.Token.{Token}
use Rattle.lexer.specs.Numbered.{Part, Outcome, tokens_cells}
use Rattle.lexer.specs.Read.{lexed_from}
use Rattle.lexer.specs.Numbers.{Lexical}
use Rattle.lexer.specs.Decoded.{tokens_of}
use Rattle.functions.specs.Functions.{Function}
use Rattle.unit.specs.Outcome.{checked, unit_d}

-- the refusals of a text: lexing's, parsing's and typing's; 30 is the gate's (`check_def`), 40 to 42 are recheck's
abbrev pub Listed : ℕ → Type 0
Listed n = Lexical n ⊎ ((5 ≤ n) × (n ≤ 22)) ⊎ ((35 ≤ n) × (n ≤ 38))

-- A text in which lexing, parsing and typing find nothing to refuse.
pub record Accepts (text : List ℕ) : Type 0 where
  pub tokens : List Token
  pub names : List Part
  pub functions : List Function
  pub lexed : lexed_from 1 text ≡ Outcome.done tokens names
  pub typed : unit_d (tokens_of (tokens_cells tokens)) ≡ checked functions

-- 0 exactly for a text that is accepted, a listed number for every other
abbrev pub Numbered : List ℕ → ℕ → Type 0
Numbered text n = (Accepts text × (n ≡ 0)) ⊎ ((Accepts text → ⊥) × Listed n)
