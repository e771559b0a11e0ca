-- Every number of `recheck` is one of document 01's: 0 for a new function that is accepted, 42 for a header table that
-- isn't one, a listed number for any other, and 30 where a lent slice is too short. By cases over the table, over
-- lexing, then over what parsing and typing make of the tokens.
use Prim.Native.Nat.{ℕ, ◌≤◌}
use mathlib.Core.Path.{◌≡◌, refl, sym, ap, subst, ◌∙◌}
use mathlib.Core.Logic.{◌⊎◌, inl, inr}
use mathlib.Core.Bool.{Bool, true, false}
use mathlib.Core.List.{List, []}
use native.Mathlib.Omega.{arith}
use borrow.Author.Tests.{leb-true, ne_eqb}
use lib.Dec.{eqb}
use lib.ListN.{get_or}
use Rattle.utils.specs.Bytes.{pick}
use Rattle.pieces.specs.declared.Token.{Token}
use Rattle.pieces.proofs.Progress.{pick_either}
use Rattle.lexer.specs.Numbered as lexes
use Rattle.lexer.specs.Numbered.{Part, tokens_cells, names_cells}
use Rattle.lexer.specs.Read.{lexed_from, reading_of}
use Rattle.lexer.specs.Decoded.{Tok, tokens_of, token_at}
use Rattle.lexer.proofs.Sound.{never_cut}
use Rattle.lexer.proofs.Numbers.{Refuses, below_gate, behind_gate, lexical_refuses, refusal_lexical, refusal-number}
use Rattle.parser.specs.Step.{look}
use Rattle.parser.specs.declared.Refusal.{Refusal}
use Rattle.body.specs.Room.{Within}
use Rattle.functions.specs.Functions.{Function, FunctionAt, function, no_function, then_function}
use Rattle.functions.specs.Columns.{type_at, line_at}
use Rattle.functions.specs.Answer.{Slices}
use Rattle.sema.specs.Symbols.{Typed}
use Rattle.sema.specs.Typing.{Global}
use Rattle.unit.specs.Outcome.{untyped}
use Rattle.checker.specs.Check as check
use Rattle.checker.specs.Check.{Checking}
use Rattle.checker.specs.Promise.{checking, all_sized}
use Rattle.checker.proofs.Lexed.{within, lexed_itself}
use Rattle.checker.proofs.ParsedNumbers.{Fine, Is, FunctionOn, function-on}
use Rattle.checker.proofs.TypedNumbers.{FineT, function-fine}
use Rattle.headers.specs.Table.{is_table}
use Rattle.headers.specs.Spelled.{globals_spelled, callees_spelled}
use Rattle.headers.specs.Kept.{is_whole}
use Rattle.recheck.specs.Recheck.{Verdict, refuses, accepts, typed_as, alone_d, function_alone, verdict_d}
use Rattle.recheck.specs.Recheck.{verdict_as, recheck_of}
use Rattle.recheck.specs.Promise.{recheck_def}
use Rattle.recheck.specs.Numbers.{Listed, Accepts, Numbered}

low : {n : ℕ} → 5 ≤ n → n ≤ 22 → Listed n
low h g = inr (inl (h, g))

high : {n : ℕ} → 36 ≤ n → n ≤ 38 → Listed n
high h g = inr (inr (inl (h, g)))

own : {n : ℕ} → 40 ≤ n → n ≤ 41 → Listed n
own h g = inr (inr (inr (h, g)))

fine-listed : {e : Refusal} → Fine e → Listed e.number
fine-listed (Fine.low h g) = low (leb-true _ _ h) (leb-true _ _ g)
fine-listed (Fine.high h g) = high (leb-true _ _ h) (leb-true _ _ g)

-- What parsing and typing make of the tokens. ------------------------------------------------------------------------

abbrev pub IfRefused : Verdict → Type 0
IfRefused (accepts f symbols) = Unit
IfRefused (refuses e) = Listed e.number

typing_listed : (f : Function) {x : Typed} → Is FineT x → IfRefused (typed_as f x)
typing_listed f (Is.so (FineT.fine t)) = tt
typing_listed f (Is.so (FineT.refused t e h)) = fine-listed h

-- a function or a listed refusal, and what follows it
abbrev IfNone : FunctionAt → Type 0
IfNone (function f) = Unit
IfNone (no_function e) = Listed e.number

then_none : (x : FunctionAt) (k : Function → FunctionAt) → IfNone x → ((f : Function) → IfNone (k f))
    → IfNone (then_function no_function x k)
unfolding then_function
then_none (function f) k h g = g f
then_none (no_function e) k h g = h

then_refused : (x : FunctionAt) (k : Function → Verdict) → IfNone x → ((f : Function) → IfRefused (k f))
    → IfRefused (then_function refuses x k)
unfolding then_function
then_refused (function f) k h g = g f
then_refused (no_function e) k h g = h

module _ (ts : List Tok) (w : Within ts 0) where
  parsing_listed : {x : FunctionAt} → FunctionOn ts w.last w.ends false x → IfNone x
  parsing_listed (FunctionOn.found f h) = tt
  parsing_listed (FunctionOn.refused e h) = fine-listed h
  parsing_listed (FunctionOn.many f e h) = absurd (let z : ◌≡◌ {A = ℕ} 0 1 = cc in omega arith)

  alone-listed : IfNone (alone_d ts)
  unfolding alone_d look
  alone-listed =
      then_none _ _ (parsing_listed (function-on ts w.last w.ends w.few false [] 0 0 w.reached)) (λ f.
      pick_either IfNone (eqb (token_at ts f.next).kind 38) _ _ (λ t. tt) (λ t.
      pick_either IfNone (eqb (token_at ts f.next).kind 2) _ _ (λ u. own (omega arith) (omega arith)) (λ u.
      low (omega arith) (omega arith))))

  function-listed : (globals : ℕ → Global) → IfRefused (function_alone ts globals)
  unfolding function_alone
  function-listed globals =
      then_refused (alone_d ts) _ alone-listed (λ f. typing_listed f (function-fine ts globals f untyped))

  pub verdict_listed : (old table : List ℕ) (number : ℕ) (new names : List ℕ)
      → IfRefused (verdict_d old table number new names ts)
  verdict_listed old table number new names =
      pick_either IfRefused _ _ _ (λ t. function-listed (globals_spelled old table new names)) (λ t.
      own (omega arith) (omega arith))

-- The whole. ---------------------------------------------------------------------------------------------------------

abbrev number_of : Verdict → ℕ
number_of (accepts f symbols) = 0
number_of (refuses e) = e.number

listed-refuses : (n : ℕ) → Listed n → Refuses n
listed-refuses n (inl h) = lexical_refuses n h
listed-refuses n (inr (inl h)) = below_gate (omega (arith, h.0)) h.1
listed-refuses n (inr (inr (inl h))) = behind_gate (omega (arith, h.0)) (omega (arith, h.1))
listed-refuses n (inr (inr (inr h))) = behind_gate (omega (arith, h.0)) h.1

pub listed_above : (n : ℕ) → Listed n → 1 ≤ n
listed_above n l = (listed-refuses n l).above

module _ (old table : List ℕ) (number : ℕ) (new : List ℕ) where
  -- 42 IS THE TABLE'S: it is given where the header table isn't one ..
  pub bad_table-gives_forty_two : is_table old table number ≡ false
      → (recheck_of old table number new).answer.number ≡ 42
  unfolding recheck_of pick
  bad_table-gives_forty_two h = rw h

  -- a table that is one, and a new text that is lexed
  module _ (good : is_table old table number ≡ true) (toks : List Token) (ns : List Part)
      (p : lexed_from (get_or table (line_at number) 0) new ≡ lexes.Outcome.done toks ns) where
    abbrev ts : List Tok
    ts = tokens_of (tokens_cells toks)

    abbrev verdict_then : Verdict → Checking
    verdict_then =
        verdict_as new (reading_of (lexes.Outcome.done toks ns)) ts (callees_spelled old table new (names_cells ns))
        (get_or table (type_at number) 0)

    goes_on : is_whole new ts ≡ true
        → recheck_of old table number new ≡ verdict_then (verdict_d old table number new (names_cells ns) ts)
    unfolding recheck_of pick
    goes_on h = rw (good, p, h)

    number_then : (o : Verdict) → (verdict_then o).answer.number ≡ number_of o
    number_then (accepts f symbols) = refl
    number_then (refuses e) = refl

    number_by : is_whole new ts ≡ true → (o : Verdict) → verdict_d old table number new (names_cells ns) ts ≡ o
        → (recheck_of old table number new).answer.number ≡ number_of o
    number_by h o q =
        ap (λ (x : Checking). x.answer.number) (goes_on h ∙ ap verdict_then q) ∙ number_then o

    by_verdict : is_whole new ts ≡ true → (o : Verdict) → verdict_d old table number new (names_cells ns) ts ≡ o
        → IfRefused o → Accepts old table number new ⊎ Listed (recheck_of old table number new).answer.number
    by_verdict h (accepts f symbols) q l =
        inl (record {
          tokens = toks;
          names = ns;
          function = f;
          symbols = symbols;
          good = good;
          lexed = p;
          whole = h;
          typed = q;
        })
    by_verdict h (refuses e) q l = inr (subst Listed (sym (number_by h (refuses e) q)) l)

    by_whole : (b : Bool) → is_whole new ts ≡ b
        → Accepts old table number new ⊎ Listed (recheck_of old table number new).answer.number
    unfolding recheck_of pick
    by_whole true h =
        by_verdict h (verdict_d old table number new (names_cells ns) ts) refl
        (verdict_listed ts (rw p at (within (lexed_itself (get_or table (line_at number) 0) new (rw p)))) old table
        number new
        (names_cells ns))
    by_whole false h = inr (rw (good, p, h) (own (omega arith) (omega arith)))

  accepted-zero : Accepts old table number new → (recheck_of old table number new).answer.number ≡ 0
  accepted-zero a =
      number_by a.good a.tokens a.names a.lexed a.whole (accepts a.function a.symbols) a.typed

  -- a table that is one: a new function that is accepted, or a listed number
  module _ (good : is_table old table number ≡ true) where
    by_lexing : (o : lexes.Outcome) → lexed_from (get_or table (line_at number) 0) new ≡ o
        → Accepts old table number new ⊎ Listed (recheck_of old table number new).answer.number
    unfolding recheck_of pick
    by_lexing (lexes.Outcome.done toks ns) p = by_whole good toks ns p (is_whole new (tokens_of (tokens_cells toks))) refl
    by_lexing (lexes.Outcome.refused r) p = inr (rw (good, p, ne_eqb _ _ (refusal-number r)) (inl (refusal_lexical r)))
    by_lexing lexes.Outcome.cut p = absurd (never_cut _ new p)

    good-number : Accepts old table number new ⊎ Listed (recheck_of old table number new).answer.number
    good-number = by_lexing (lexed_from (get_or table (line_at number) 0) new) refl

  -- EVERY NUMBER IS LISTED OR 42, and is 0 exactly where the new function is accepted
  pub every_number : Numbered old table number new (recheck_of old table number new).answer.number
  every_number = by-table (is_table old table number) refl
    where
      by_answer : Accepts old table number new ⊎ Listed (recheck_of old table number new).answer.number
          → Numbered old table number new (recheck_of old table number new).answer.number
      by_answer (inl a) = inl (a, accepted-zero a)
      by_answer (inr l) = inr (λ a. omega (arith, accepted-zero a, listed_above _ l), inl l)

      by-table : (b : Bool) → is_table old table number ≡ b
          → Numbered old table number new (recheck_of old table number new).answer.number
      by-table true e = by_answer (good-number e)
      by-table false e =
          inr (λ a. omega (arith, accepted-zero a, bad_table-gives_forty_two e), inr (bad_table-gives_forty_two e))

  -- .. and nowhere else
  pub forty_two-is_the_table : (recheck_of old table number new).answer.number ≡ 42 → is_table old table number ≡ false
  forty_two-is_the_table = by-table (is_table old table number) refl
    where
      by_answer : Accepts old table number new ⊎ Listed (recheck_of old table number new).answer.number
          → (recheck_of old table number new).answer.number ≡ 42 → ⊥
      by_answer (inl a) z = omega (arith, accepted-zero a, z)
      by_answer (inr l) z = (listed-refuses _ l).not_table z

      by-table : (b : Bool) → is_table old table number ≡ b → (recheck_of old table number new).answer.number ≡ 42
          → b ≡ false
      by-table true e z = absurd (by_answer (good-number e) z)
      by-table false e z = refl

-- a new function that is accepted has no message
module _ (old table : List ℕ) (number : ℕ) (new : List ℕ) where
  accepted_silent : Accepts old table number new → (recheck_of old table number new).message ≡ []
  accepted_silent a =
      ap (λ (x : Checking). x.message)
      (goes_on old table number new a.good a.tokens a.names a.lexed a.whole
      ∙ ap (verdict_then old table number new a.good a.tokens a.names a.lexed) a.typed)

  pub silent : (recheck_of old table number new).answer.number ≡ 0 → (recheck_of old table number new).message ≡ []
  silent z = by (recheck_of old table number new).answer.number z (every_number old table number new)
    where
      by : (n : ℕ) → n ≡ 0 → Numbered old table number new n → (recheck_of old table number new).message ≡ []
      by n h (inl a) = accepted_silent a.0
      by n h (inr (f, inl l)) = absurd (omega (arith, h, listed_above n l))
      by n h (inr (f, inr e)) = absurd (omega (arith, h, e))

never_thirty : (old table : List ℕ) (number : ℕ) (new : List ℕ) (n : ℕ) → Numbered old table number new n
    → n ≡ 30 → ⊥
never_thirty old table number new n (inl h) z = omega (arith, h.1)
never_thirty old table number new n (inr (f, inl l)) z = (listed-refuses n l).not_gate z
never_thirty old table number new n (inr (f, inr e)) z = omega (arith, e)

module _ (old table : List ℕ) (number : ℕ) (new m t n : List ℕ) (u : Slices) where
  -- 30 IS THE GATE'S: it is given exactly where a lent slice is shorter than its size ..
  pub thirty_is_the_gate : (recheck_def old table number new m t n u).answer.number ≡ 30 → all_sized m t n u ≡ false
  unfolding recheck_def pick
  thirty_is_the_gate = by (all_sized m t n u) refl
    where
      by : (b : Bool) → all_sized m t n u ≡ b → (recheck_def old table number new m t n u).answer.number ≡ 30 → b ≡ false
      by true e h = absurd (never_thirty old table number new _ (every_number old table number new) (rw e at h))
      by false e h = refl

  -- .. and then nothing is written
  pub gate_gives_thirty : all_sized m t n u ≡ false
      → recheck_def old table number new m t n u ≡ checking (check.check_refusal 30 0 0) m t n u
  unfolding recheck_def pick
  gate_gives_thirty e = rw e
