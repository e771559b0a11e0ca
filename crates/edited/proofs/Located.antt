-- Where function k of an accepted text stands: among its functions and its tokens, between which bytes, on which line,
-- and in which row of the header table. With its own text in its place the text is as it was.
use Prim.Native.Nat.{ℕ, ◌+◌, ◌-◌, ◌≤◌, ◌<◌}
use mathlib.Core.Path.{◌≡◌, ap, ◌∙◌}
use mathlib.Core.List.{List, ◌∷◌, ◌++◌}
use native.Mathlib.Omega.{arith}
use lib.ListN.{length, get_or}
use Rattle.pieces.specs.declared.Token.{Token}
use Rattle.lexer.specs.Read.{read_of}
use Rattle.lexer.specs.Decoded.{Tok, tokens_of, token_at}
use Rattle.unit.specs.Outcome.{checked, unit_d}
use Rattle.checker.specs.Check.{check_of}
use Rattle.checker.specs.Numbers.{Accepts}
use Rattle.edited.specs.Demand3.{table_of, begins_at, line_of, ends_at, edited_text}
use Rattle.functions.specs.Columns.{close_at}
use Rattle.edited.specs.Itself.{own_text}
use Rattle.edited.specs.Rows.{RowOf, Split}
use Rattle.edited.specs.Spelled.{tokens_in}
use Rattle.edited.proofs.Placed.{Placed, function_placed}
use Rattle.edited.proofs.Accepted.{split_at, sound, tokens_are, functions_are}
use Rattle.edited.proofs.Replacing.{last-kind, parts, from-to, to_inside}
use Rattle.edited.proofs.Rows.{its_row}

module _ (old : List ℕ) (k : ℕ) (a : Accepts old) (one : k < (check_of old).answer.functions) where
  abbrev pub toks : List Token
  toks = a.tokens

  abbrev pub ts : List Tok
  ts = tokens_in toks

  pub there : k < length a.functions
  there = omega (arith, one, functions_are old a)

  pub s : Split a.functions k
  s = split_at a.functions k there

  pub typed : unit_d ts ≡ checked (s.before ++ (s.function ∷ s.behind))
  typed = a.typed ∙ ap checked s.all

  pub stands : Placed ts (length toks - 1) s.function
  stands = function_placed ts (length toks - 1) (last-kind (sound old a)) s.before s.function s.behind typed

  -- its row of the header table
  pub row : RowOf old (tokens_of (check_of old).tokens) (check_of old).names (table_of old) k s.function
  row = its_row old a 2881 s

  same-tokens : tokens_of (check_of old).tokens ≡ ts
  same-tokens = ap tokens_of (tokens_are old a)

  pub begins-is : begins_at old k ≡ (token_at ts s.function.token).place
  begins-is = row.place ∙ ap (λ (l : List Tok). (token_at l s.function.token).place) same-tokens

  pub line-is : line_of old k ≡ (token_at ts s.function.token).line.0
  line-is = row.line ∙ ap (λ (l : List Tok). (token_at l s.function.token).line.0) same-tokens

  pub ends_is : ends_at old k ≡ (token_at ts stands.brace).place + 1
  ends_is =
      let at : get_or (table_of old) (close_at k) 0 ≡ stands.brace = row.close ∙ omega (arith, stands.behind) in
      ap (λ (i : ℕ). (token_at (tokens_of (check_of old).tokens) i).place + 1) at
      ∙ ap (λ (l : List Tok). (token_at l stands.brace).place + 1) same-tokens

  pub order : begins_at old k ≤ ends_at old k
  order = omega (arith, begins-is, ends_is, from-to old toks a.names a.lexed s.function stands)

  pub inside : ends_at old k ≤ length old
  inside = omega (arith, ends_is, to_inside old toks a.names a.lexed s.function stands)

  -- THE TEXT IS AS IT WAS
  pub edited_own : edited_text old k (own_text old k) ≡ old
  edited_own = parts old (begins_at old k) (ends_at old k) order inside

  -- .. so that it is inside the limits
  pub lexes-still : (read_of (edited_text old k (own_text old k))).answer.number ≡ 0
  unfolding read_of
  lexes-still = ap (λ (t : List ℕ). (read_of t).answer.number) edited_own ∙ rw a.lexed
