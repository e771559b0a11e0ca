-- Every number of a reading is one of document 01's and 02's: 0 for a text that lexes, a lexical one for any other. By
-- cases over the refusals, and over the outcome of lexing, which is never cut (`never_cut`).
use Prim.Native.Nat.{ℕ, ◌≤◌}
use mathlib.Core.Path.{◌≡◌, refl}
use mathlib.Core.Logic.{inl, inr}
use mathlib.Core.List.{List}
use native.Mathlib.Omega.{arith}
use Rattle.pieces.specs.Refusals.{facts_of}
use Rattle.pieces.specs.declared.Refusal.{Refusal}
use Rattle.pieces.specs.declared.Refusal.TheVariants as R
use Rattle.lexer.specs.Numbered.{Outcome}
use Rattle.lexer.specs.Read.{lexed_from, read_from}
use Rattle.lexer.specs.Numbers.{Lexical, Numbered}
use Rattle.lexer.proofs.Sound.{never_cut}

pub refusal_lexical : (r : Refusal) → Lexical (facts_of r).number
refusal_lexical (R.NotAscii line) = inl (omega arith, omega arith)
refusal_lexical (R.CommentNotClosed c) = inl (omega arith, omega arith)
refusal_lexical (R.UnexpectedByte b c) = inl (omega arith, omega arith)
refusal_lexical (R.NumberExpected c) = inl (omega arith, omega arith)
refusal_lexical (R.NumberOutOfRange c) = inr (inr refl)
refusal_lexical R.TooManyBytes = inr (inl (omega arith, omega arith))
refusal_lexical (R.TooManyTokens c) = inr (inl (omega arith, omega arith))
refusal_lexical (R.TooManyNames c) = inr (inl (omega arith, omega arith))
refusal_lexical (R.NameTooLong c) = inr (inl (omega arith, omega arith))

-- a number that is not 0, not 30, which is the gate's, and not 42, which is the header table's
pub record Refuses (n : ℕ) : Type 0 where
  pub above : 1 ≤ n
  pub not_gate : n ≡ 30 → ⊥
  pub not_table : n ≡ 42 → ⊥

pub below_gate : {n : ℕ} → 1 ≤ n → n ≤ 22 → Refuses n
below_gate h g = record { above = h; not_gate = λ e. omega (arith, g); not_table = λ e. omega (arith, g) }

pub behind_gate : {n : ℕ} → 31 ≤ n → n ≤ 41 → Refuses n
behind_gate h g =
    record { above = omega (arith, h); not_gate = λ e. omega (arith, h); not_table = λ e. omega (arith, g) }

pub lexical_refuses : (n : ℕ) → Lexical n → Refuses n
lexical_refuses n (inl h) = below_gate h.0 (omega (arith, h.1))
lexical_refuses n (inr (inl h)) = behind_gate h.0 (omega (arith, h.1))
lexical_refuses n (inr (inr h)) =
    record { above = omega (arith, h); not_gate = λ e. omega (arith, h, e); not_table = λ e. omega (arith, h, e) }

pub refusal-number : (r : Refusal) → (facts_of r).number ≡ 0 → ⊥
refusal-number r e = omega (arith, e, (lexical_refuses _ (refusal_lexical r)).above)

-- EVERY NUMBER OF A READING IS 0, exactly where the text lexes, OR LEXICAL
pub every_number : (line : ℕ) (text : List ℕ) → Numbered line text (read_from line text).answer.number
every_number line text = by_lexing (lexed_from line text) refl
  where
    by_lexing : (o : Outcome) → lexed_from line text ≡ o → Numbered line text (read_from line text).answer.number
    by_lexing (Outcome.done ts ns) p = inl (record { tokens = ts; names = ns; lexed = p }, rw p)
    by_lexing (Outcome.refused r) p =
        inr (λ a. absurd (let z : ◌≡◌ {A = ℕ} 0 1 = cc in omega arith), rw p (refusal_lexical r))
    by_lexing Outcome.cut p = absurd (never_cut line text p)
