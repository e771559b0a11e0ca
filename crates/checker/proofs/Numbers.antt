-- Every number of `check` is one of document 01's: 0 for a text that is accepted, a listed one for any other, and 30
-- where a lent slice is too short. By cases over lexing, then over what parsing and typing make of the tokens.
use Rattle.std.specs.Prelude.{Result}
use Prim.Native.Nat.{ℕ, ◌≤◌}
use mathlib.Core.Path.{◌≡◌, refl}
use mathlib.Core.Logic.{inl, inr}
use mathlib.Core.Bool.{Bool, true, false}
use mathlib.Core.List.{List, []}
use native.Mathlib.Omega.{arith}
use borrow.Author.Tests.{leb-true, ne_eqb}
use Rattle.utils.specs.Bytes.{pick}
use Rattle.pieces.specs.declared.Token.{Token}
use Rattle.lexer.specs.Numbered as lexes
use Rattle.lexer.specs.Numbered.{Part, tokens_cells}
use Rattle.lexer.specs.Read.{lexed_from, read_of}
use Rattle.lexer.specs.Decoded.{Tok, tokens_of}
use Rattle.lexer.proofs.Sound.{never_cut}
use Rattle.lexer.proofs.Numbers.{Refuses, below_gate, behind_gate, lexical_refuses, refusal_lexical, refusal-number}
use Rattle.parser.specs.declared.Refusal.{Refusal}
use Rattle.body.specs.Room.{Within}
use Rattle.functions.specs.Functions.{Function}
use Rattle.functions.specs.Answer.{Slices}
use Rattle.sema.specs.Symbols.{Typed}
use Rattle.unit.specs.Outcome.{UnitOutcome, checked, refused, after_typing, after_parsing, untyped, unit_d}
use Rattle.checker.specs.Check.{check_of}
use Rattle.checker.specs.Promise.{all_sized, check_def}
use Rattle.checker.specs.Numbers.{Listed, Accepts, Numbered}
use Rattle.checker.proofs.Lexed.{within, lexed_itself}
use Rattle.checker.proofs.ParsedNumbers.{Fine, FineEnd, Is, functions-fine}
use Rattle.checker.proofs.TypedNumbers.{FineT, typed-fine}

fine-listed : {e : Refusal} → Fine e → Listed e.number
fine-listed {e} (Fine.low h g) = inr (inl (leb-true _ _ h, leb-true _ _ g))
fine-listed {e} (Fine.high h g) = inr (inr (omega (arith, leb-true 36 e.number h), leb-true _ _ g))

-- What parsing and typing make of the tokens. -----------------------------------------------------------------------

abbrev pub IfRefused : UnitOutcome → Type 0
IfRefused (checked fs) = Unit
IfRefused (refused e) = Listed e.number

typing_listed : (fs : List Function) {x : Typed} → Is FineT x → IfRefused (after_typing fs x.end)
typing_listed fs (Is.so (FineT.fine t)) = tt
typing_listed fs (Is.so (FineT.refused t e h)) = fine-listed h

parsing_listed : (ts : List Tok) (fs : List Function) {c : Result ℕ Refusal} → FineEnd c
    → IfRefused (after_parsing ts fs c)
parsing_listed ts fs (FineEnd.found i) = typing_listed fs (typed-fine ts fs fs untyped)
parsing_listed ts fs (FineEnd.refused e h) = fine-listed h
parsing_listed ts fs (FineEnd.many e h) = inr (inr (omega (arith, h), omega (arith, h)))

pub unit-listed : (ts : List Tok) → Within ts 0 → IfRefused (unit_d ts)
unfolding unit_d
unit-listed ts w = parsing_listed ts _ (functions-fine ts w.last w.ends w.few 64 [] 0 0 w.reached)

-- The whole. --------------------------------------------------------------------------------------------------------

accepted-zero : (text : List ℕ) → Accepts text → (check_of text).answer.number ≡ 0
unfolding check_of read_of pick
accepted-zero text a = rw (a.lexed, a.typed)

accepted_silent : (text : List ℕ) → Accepts text → (check_of text).message ≡ []
unfolding check_of read_of pick
accepted_silent text a = rw (a.lexed, a.typed)

listed-refuses : (n : ℕ) → Listed n → Refuses n
listed-refuses n (inl h) = lexical_refuses n h
listed-refuses n (inr (inl h)) = below_gate (omega (arith, h.0)) h.1
listed-refuses n (inr (inr h)) = behind_gate (omega (arith, h.0)) (omega (arith, h.1))

pub listed_above : (n : ℕ) → Listed n → 1 ≤ n
listed_above n l = (listed-refuses n l).above

refused-numbered : (text : List ℕ) → Listed (check_of text).answer.number
    → Numbered text (check_of text).answer.number
refused-numbered text l = inr (λ a. omega (arith, accepted-zero text a, listed_above _ l), l)

-- EVERY NUMBER OF A TEXT IS LISTED, and is 0 exactly where the text is accepted
pub every_number : (text : List ℕ) → Numbered text (check_of text).answer.number
unfolding check_of read_of pick
every_number text = by_lexing (lexed_from 1 text) refl
  where
    by-unit : (toks : List Token) (ns : List Part) → lexed_from 1 text ≡ lexes.Outcome.done toks ns → (o : UnitOutcome)
        → unit_d (tokens_of (tokens_cells toks)) ≡ o → IfRefused o → Numbered text (check_of text).answer.number
    by-unit toks ns p (checked fs) q h =
        inl (record { tokens = toks; names = ns; functions = fs; lexed = p; typed = q }, rw (p, q))
    by-unit toks ns p (refused e) q h = refused-numbered text (rw (p, q) h)

    by_lexing : (o : lexes.Outcome) → lexed_from 1 text ≡ o → Numbered text (check_of text).answer.number
    by_lexing (lexes.Outcome.done toks ns) p =
        by-unit toks ns p (unit_d (tokens_of (tokens_cells toks))) refl
        (unit-listed _ (rw p at (within (lexed_itself 1 text (rw p)))))
    by_lexing (lexes.Outcome.refused r) p =
        refused-numbered text (rw (p, ne_eqb _ _ (refusal-number r)) (inl (refusal_lexical r)))
    by_lexing lexes.Outcome.cut p = absurd (never_cut 1 text p)

-- an accepted text has no message
pub silent : (text : List ℕ) → (check_of text).answer.number ≡ 0 → (check_of text).message ≡ []
silent text z = by (check_of text).answer.number z (every_number text)
  where
    by : (n : ℕ) → n ≡ 0 → Numbered text n → (check_of text).message ≡ []
    by n h (inl a) = accepted_silent text a.0
    by n h (inr l) = absurd (omega (arith, h, listed_above n l.1))

never_thirty : (text : List ℕ) (n : ℕ) → Numbered text n → n ≡ 30 → ⊥
never_thirty text n (inl h) z = omega (arith, h.1)
never_thirty text n (inr (f, l)) z = (listed-refuses n l).not_gate z

module _ (text m t n : List ℕ) (u : Slices) where
  -- 30 IS THE GATE'S: it is given exactly where a lent slice is shorter than its size
  pub thirty_is_the_gate : (check_def text m t n u).answer.number ≡ 30 → all_sized m t n u ≡ false
  unfolding check_def pick
  thirty_is_the_gate = by (all_sized m t n u) refl
    where
      by : (b : Bool) → all_sized m t n u ≡ b → (check_def text m t n u).answer.number ≡ 30 → b ≡ false
      by true e h = absurd (never_thirty text _ (every_number text) (rw e at h))
      by false e h = refl

  pub gate_gives_thirty : all_sized m t n u ≡ false → (check_def text m t n u).answer.number ≡ 30
  unfolding check_def pick
  gate_gives_thirty e = rw e
