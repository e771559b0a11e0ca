-- The numbers of a reading: "An answer is accepted (0) or a refusal number".
use Rattle.std.specs.Prelude.{ℕ, ◌≤◌, ◌≡◌, ◌⊎◌, List}
use Rattle.pieces.specs.declared.Token.{Token}
use Rattle.lexer.specs.Numbered.{Part, Outcome}
use Rattle.lexer.specs.Read.{lexed_from}

-- The lexical numbers: "31, 1 to 4 and 32 to 34" (document 01), and 43 (document 02, A2). 30 is the gate's (`read_def`).
abbrev pub Lexical : ℕ → Type 0
Lexical n = ((1 ≤ n) × (n ≤ 4)) ⊎ ((31 ≤ n) × (n ≤ 34)) ⊎ (n ≡ 43)

-- A text in which lexing finds nothing to refuse.
pub record Lexes (line : ℕ) (text : List ℕ) : Type 0 where
  pub tokens : List Token
  pub names : List Part
  pub lexed : lexed_from line text ≡ Outcome.done tokens names

-- 0 exactly for a text that lexes, a lexical number for every other
abbrev pub Numbered : ℕ → List ℕ → ℕ → Type 0
Numbered line text n = (Lexes line text × (n ≡ 0)) ⊎ ((Lexes line text → ⊥) × Lexical n)
