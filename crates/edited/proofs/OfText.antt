-- A new text that is one function with the old header is answered with neither 40 nor 41.
use Prim.Native.Nat.{ℕ, ◌+◌, ◌<◌}
use mathlib.Core.Path.{◌≡◌, refl, ap, ◌∙◌}
use mathlib.Core.Bool.{false}
use mathlib.Core.List.{List, []}
use native.Mathlib.Omega.{arith}
use borrow.Author.Tests.{eqb-true}
use lib.Dec.{eqb}
use lib.ListN.{get_or}
use Rattle.utils.specs.Bytes.{pick}
use Rattle.pieces.proofs.Progress.{pick_either}
use Rattle.lexer.specs.Read.{Reading, read_from}
use Rattle.lexer.specs.Decoded.{Tok, token_at}
use Rattle.parser.specs.Step.{look, refusal}
use Rattle.body.specs.Room.{Within}
use Rattle.functions.specs.Functions.{FunctionAt, function, no_function, then_function, function_d}
use Rattle.functions.specs.Columns.{type_at}
use Rattle.sema.specs.Typing.{Global}
use Rattle.sema.specs.Program.{function_typed}
use Rattle.unit.specs.Outcome.{untyped}
use Rattle.checker.specs.Check.{check_of}
use Rattle.checker.proofs.Lexed.{within, lexed_itself}
use Rattle.checker.proofs.ParsedNumbers.{FunctionOn, function-on}
use Rattle.checker.proofs.TypedNumbers.{function-fine}
use Rattle.headers.specs.Spelled.{globals_spelled, callees_spelled}
use Rattle.recheck.specs.Recheck.{refuses, typed_as, alone_d, function_alone, recheck_of}
use Rattle.edited.specs.Demand3.{table_of, line_of, rechecked_as}
use Rattle.edited.specs.OfText.{new_tokens, OneFunction}
use Rattle.edited.proofs.Low.{fine-low, LowF, LowV, typed-low, answer-low}
use Rattle.edited.proofs.Closing.{function_spans}
use Rattle.edited.proofs.Accepted.{accepted-text}
use Rattle.edited.proofs.Rows.{is_table_lem}
use Rattle.edited.proofs.Located.{there}

module _ (ts : List Tok) (w : Within ts 0)
    (single : (i : ℕ) → (token_at ts i).kind ≡ 28 → (token_at ts (i + 1)).kind ≡ 2 → ⊥) where
  behind-low : (x : FunctionAt) → function_d ts false [] 0 0 ≡ x → FunctionOn ts w.last w.ends false x
      → LowF (then_function no_function x (λ f.
      pick (eqb (token_at ts f.next).kind 38) (function f)
      (pick (eqb (token_at ts f.next).kind 2) (no_function (refusal 40 f.next 0))
      (no_function (refusal 7 f.next 0)))))
  unfolding then_function
  behind-low (function f) e h =
      let s = (function_spans ts false [] 0 0 f e).ends in
      pick_either LowF (eqb (token_at ts f.next).kind 38) _ _ (λ t. tt) (λ t.
      pick_either LowF (eqb (token_at ts f.next).kind 2) _ _
      (λ u. absurd (single s.brace s.kind
      (ap (λ (i : ℕ). (token_at ts i).kind) (omega (arith, s.behind)) ∙ eqb-true _ _ u)))
      (λ u. omega arith))
  behind-low (no_function r) e (FunctionOn.refused r' h) = fine-low h
  behind-low (no_function r) e (FunctionOn.many q r' h) = omega (arith, h)

  alone-low : LowF (alone_d ts)
  unfolding alone_d look
  alone-low =
      behind-low (function_d ts false [] 0 0) refl
      (function-on ts w.last w.ends w.few false [] 0 0 w.reached)

  then_low : (globals : ℕ → Global) (x : FunctionAt) → LowF x
      → LowV (then_function refuses x (λ f. typed_as f (function_typed ts globals f untyped)))
  unfolding then_function
  then_low globals (function f) h = typed-low f (function-fine ts globals f untyped)
  then_low globals (no_function e) h = h

  function-low : (globals : ℕ → Global) → LowV (function_alone ts globals)
  unfolding function_alone
  function-low globals = then_low globals (alone_d ts) alone-low

-- THE THEOREM
pub text_decides : (old : List ℕ) (k : ℕ) (new : List ℕ) → (check_of old).answer.number ≡ 0
    → k < (check_of old).answer.functions → (read_from (line_of old k) new).answer.number ≡ 0 → OneFunction old k new
    → (rechecked_as old k new).answer.number < 40
unfolding recheck_of pick
text_decides old k new accepted one lexes h =
    let a = accepted-text old accepted in
    let r : Reading = read_from (line_of old k) new in
    let ts : List Tok = new_tokens old k new in
    let globals : ℕ → Global = globals_spelled old (table_of old) new r.names in
    let w = within (lexed_itself (line_of old k) new lexes) in
    rw (is_table_lem old a 2881 (omega arith) k (there old k a one), lexes, h.whole, h.kept)
    (answer-low new r ts (callees_spelled old (table_of old) new r.names) (get_or (table_of old) (type_at k) 0)
    (function_alone ts globals) (function-low ts w h.single globals))
