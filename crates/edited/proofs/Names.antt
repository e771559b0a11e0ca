-- A function's name as a token: it was read there, and the text has the name's bytes there.
use Rattle.std.specs.Prelude.{Result, Ok, Err}
use Prim.Native.Nat.{ℕ, ◌+◌, ◌*◌, ◌-◌, ◌≤◌, ◌<◌}
use mathlib.Core.Path.{◌≡◌, refl, sym, ap, ◌∙◌}
use mathlib.Core.List.{List}
use mathlib.Core.Bool.{Bool, true, false}
use native.Mathlib.Omega.{arith}
use borrow.Author.Tests.{ltb-true, ltb-false, le-ltb, eqb-true}
use lib.Dec.{ltb, eqb}
use lib.ListN.{length, get_or, replicate}
use lib.Seq.{slice}
use Rattle.utils.specs.Bytes.{pick, pad_to}
use Rattle.pieces.specs.Tokens.{kind_of, carried}
use Rattle.pieces.specs.declared.Identifier.{Identifier}
use Rattle.parser.specs.declared.Refusal.{Refusal}
use Rattle.pieces.specs.declared.Token.{Token}
use Rattle.lexer.specs.Numbered.{Part, tokens_cells, names_cells}
use Rattle.lexer.specs.Sound.{Sound, no_token}
use Rattle.lexer.specs.Decoded.{Tok, tokens_of, is_name, name_in, with_next, token_at, name_of}
use Rattle.lexer.specs.declared.TokenAt.{TokenAt}
use Rattle.lexer.proofs.Cells.{tok_of, length-tokens_cells, cells-token_at, names_cell, cells-name}
use Rattle.lexer.proofs.Records.{tokens-count}
use Rattle.parser.specs.Step.{refusal}
use Rattle.parser.specs.Grammar.{named_d, global_d}
use Rattle.functions.specs.Functions.{Function}
use Rattle.checker.proofs.Lexed.{unpadded}
use Rattle.related.specs.Tables.{All}
use Rattle.related.specs.Runs.{Place, Run}
use Rattle.edited.proofs.Closing.{function_spans}
use Rattle.related.proofs.Entry.{function_up_to}
use Rattle.edited.specs.Rows.{NamedAt}

-- a global that was read stands there
global-read : (ts : List Tok) (i : ℕ) (g : Identifier) (next : ℕ) → global_d ts i ≡ Ok (g, next)
    → ((token_at ts i).kind ≡ 2) × ((token_at ts i).name ≡ g)
unfolding named_d pick
global-read ts i g next = by (eqb (token_at ts i).kind 2) refl
  where
    by : (b : Bool) → eqb (token_at ts i).kind 2 ≡ b
        → pick {A = Result (Identifier × ℕ) Refusal} b (Ok ((token_at ts i).name, (token_at ts i).next))
        (Err (refusal 7 i 0)) ≡ Ok (g, next)
        → ((token_at ts i).kind ≡ 2) × ((token_at ts i).name ≡ g)
    by true e h =
        let p : ◌≡◌ {A = Identifier × ℕ} ((token_at ts i).name, (token_at ts i).next) (g, next) = cc in
        (eqb-true _ _ e, ap (λ (a : Identifier × ℕ). a.0) p)
    by false e h = let z : ◌≡◌ {A = ℕ} 0 1 = cc in absurd (omega arith)

-- each function that was read has its name there
pub run-named : {ts : List Tok} {p : Place} {fs : List Function} → Run ts p fs → All (NamedAt ts) fs
run-named Run.none = All.none
run-named {ts} {p} (Run.more {f = f} h e r) =
    let u = function_up_to ts p.known p.types p.at f e in
    let spans = function_spans ts false p.known p.types p.at f e in
    All.more {x = f} (rw spans.token (global-read ts p.at f.head.name u.at1 u.named)) (run-named r)

-- a global carries its name's number
global-carried : (kind carried : ℕ) → kind ≡ 2 → (name_in kind carried).0 ≡ carried
unfolding name_in is_name pick
global-carried kind carried e = rw e

-- A global's token and its name's record spell alike.
module _ (text : List ℕ) {line : ℕ} (toks : List Token) (ns : List Part) (v : Sound text line toks ns) where
  abbrev cells : List Tok
  cells = tokens_of (pad_to 0 (tokens_cells toks))

  abbrev parts : List ℕ
  parts = pad_to 0 (names_cells ns)

  as_many : length cells ≡ length toks
  as_many =
      omega (
        arith,
        tokens-count (pad_to 0 (tokens_cells toks)),
        ap length (unpadded (tokens_cells toks)),
        length-tokens_cells toks,
      )

  past-last : (i : ℕ) → length cells ≤ i → (token_at cells i).kind ≡ 38
  unfolding token_at pick
  past-last i h = rw (le-ltb i (length cells) h)

  abbrev Spelled : TokenAt → Type 0
  Spelled t =
      slice t.place (t.place + get_or parts (t.name.0 * 2 + 1) 0) text ≡ name_of text parts t.name.0

  spelled-token : (i next : ℕ) → i < length toks → kind_of (get_or toks i no_token).value ≡ 2
      → Spelled (with_next (tok_of (get_or toks i no_token)) next)
  spelled-token i next h e =
      let k = carried (get_or toks i no_token).value in
      let numbered : k < length ns = v.numbered i h (omega (arith, e)) in
      let number = global-carried (kind_of (get_or toks i no_token).value) k e in
      let cell = (names_cell ns (replicate (0 - length (names_cells ns)) 0) k numbered).1 in
      rw (number, cell) (v.spelled i h (omega (arith, e)) ∙ sym (cells-name text 0 ns k numbered v.within))

  spelled_there : (i : ℕ) → (token_at cells i).kind ≡ 2 → Spelled (token_at cells i)
  spelled_there i e = by (ltb i (length toks)) refl
    where
      by : (b : Bool) → ltb i (length toks) ≡ b → Spelled (token_at cells i)
      by true l =
          let h = ltb-true i (length toks) l in
          let there = cells-token_at 0 toks i h in
          rw there
          (spelled-token i (pick (eqb (kind_of (get_or toks i no_token).value) 38) i (i + 1)) h (rw there at e))
      by false l = absurd (omega (arith, e, past-last i (omega (arith, as_many, ltb-false i (length toks) l))))

  -- .. of the cells that `read` left
  pub spelled_in : (tokens names : List ℕ) → tokens ≡ tokens_cells toks → names ≡ names_cells ns → (i : ℕ)
      → (token_at (tokens_of tokens) i).kind ≡ 2
      → slice (token_at (tokens_of tokens) i).place
      ((token_at (tokens_of tokens) i).place + get_or names ((token_at (tokens_of tokens) i).name.0 * 2 + 1) 0) text
      ≡ name_of text names (token_at (tokens_of tokens) i).name.0
  spelled_in tokens names p q =
      rw (p ∙ sym (unpadded (tokens_cells toks)), q ∙ sym (unpadded (names_cells ns))) spelled_there
