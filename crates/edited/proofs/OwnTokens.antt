-- The own text of function k of an accepted text lexes alone, from its line on. Its tokens are those that the text has
-- there, moved back: a global at its first byte and a closing brace at its last.
use Prim.Native.Nat.{ℕ, ◌+◌, ◌-◌, ◌<◌}
use mathlib.Core.Path.{◌≡◌, sym, ap, ◌∙◌}
use mathlib.Core.Bool.{true}
use mathlib.Core.List.{List, ◌++◌}
use native.Mathlib.Omega.{arith}
use borrow.Author.Tests.{eq-eqb}
use lib.ListN.{length, get_or, take, drop}
use Rattle.utils.specs.Bytes.{pick}
use Rattle.pieces.specs.declared.Token.{Token}
use Rattle.lexer.specs.Numbered.{Part, Outcome, spellings, names_cells}
use Rattle.lexer.specs.Read.{lexed_from}
use Rattle.lexer.specs.Decoded.{Tok, token_at, name_of}
use Rattle.lexer.specs.Sound.{no_token}
use Rattle.lexer.specs.declared.TokenAt.{TokenAt}
use Rattle.lexer.proofs.Same.{length-spellings}
use Rattle.parser.specs.Moved.{Move, Sim}
use Rattle.functions.specs.Functions.{Function}
use Rattle.checker.specs.Check.{check_of}
use Rattle.checker.specs.Numbers.{Accepts}
use Rattle.headers.specs.Kept.{is_whole}
use Rattle.joined.specs.Names.{move_of}
use Rattle.joined.proofs.Parts.{Lexes, lexes-of}
use Rattle.joined.proofs.Within.{FromTo, part-lexes, counted, own-apart, part-moves, part-spelled}
use Rattle.edited.specs.Demand3.{begins_at, ends_at, line_of}
use Rattle.edited.specs.Itself.{own_text}
use Rattle.edited.specs.Spelled.{tokens_in}
use Rattle.edited.proofs.Replacing.{token_at_lem, toks-counted, last-kind, first-long, part-long, brace-inner}
use Rattle.edited.proofs.Replacing.{opening-inner, from_is, to_is}
use Rattle.edited.proofs.Lexing.{sim_plain, name_spelled_lem}
use Rattle.edited.proofs.Located.{ts, s, stands, begins-is, line-is, ends_is, order, inside, edited_own}

module _ (old : List ℕ) (k : ℕ) (a : Accepts old) (one : k < (check_of old).answer.functions) where
  abbrev pub f : Function
  f = (s old k a one).function

  abbrev brace : ℕ
  brace = (stands old k a one).brace

  -- the text in parts
  abbrev pre : List ℕ
  pre = take (begins_at old k) old

  abbrev post : List ℕ
  post = drop (ends_at old k) old

  abbrev own : List ℕ
  own = own_text old k

  pub from-to : FromTo pre own post 1 a.tokens a.names f.token brace
  from-to =
      let h = stands old k a one in
      let p = first-long old (begins_at old k) (ends_at old k) (order old k a one) (inside old k a one) in
      let q = part-long old (begins_at old k) (ends_at old k) (order old k a one) (inside old k a one) in
      let inner = brace-inner old a.tokens a.names a.lexed f h in
      record {
        lexes =
            lexes-of (pre ++ (own ++ post)) 1 a.tokens a.names
            (ap (lexed_from 1) (edited_own old k a one) ∙ a.lexed);
        order = omega (arith, h.order, h.behind);
        inner = inner;
        opens_at = sym (from_is old a.tokens a.names a.lexed f h) ∙ sym (begins-is old k a one) ∙ sym p;
        closes_kind =
            let at = token_at_lem a.tokens brace (omega (arith, inner)) in
            sym (ap (λ (t : TokenAt). t.kind) at) ∙ h.closes;
        closes_at =
            let to = to_is old a.tokens a.names a.lexed f h in
            omega (arith, to, ends_is old k a one, p, q, order old k a one);
      }

  -- THE OWN TEXT LEXES
  pub own-tokens : List Token
  own-tokens = (part-lexes from-to).0

  pub own-names : List Part
  own-names = (part-lexes from-to).1

  abbrev alone : List Tok
  alone = tokens_in own-tokens

  lexes_there : lexed_from (get_or a.tokens f.token no_token).line.0 own ≡ Outcome.done own-tokens own-names
  unfolding own-tokens own-names
  lexes_there = (part-lexes from-to).2

  pub own-lexes : lexed_from (line_of old k) own ≡ Outcome.done own-tokens own-names
  own-lexes =
      let inner = opening-inner old a.tokens a.names a.lexed f (stands old k a one) in
      let line : line_of old k ≡ (get_or a.tokens f.token no_token).line.0 =
      line-is old k a one ∙ ap (λ (t : TokenAt). t.line.0) (token_at_lem a.tokens f.token (omega (arith, inner))) in
      ap (λ (l : ℕ). lexed_from l own) line ∙ lexes_there

  pub own_read : Lexes own (get_or a.tokens f.token no_token).line.0 own-tokens own-names
  own_read = lexes-of own (get_or a.tokens f.token no_token).line.0 own-tokens own-names lexes_there

  -- THE MOVE
  abbrev pub move : Move
  move =
      move_of f.token 0 (length pre) (spellings (pre ++ (own ++ post)) a.names) (spellings own own-names)
      (own-apart from-to own_read)

  pub own-moves : Sim move (length own-tokens - 1) (ts old k a one) alone
  own-moves = sim_plain a.tokens own-tokens (part-moves from-to own_read 0 0)

  pub own_many : length own-tokens ≡ brace - f.token + 2
  own_many = counted from-to own_read

  -- a name is spelled there as here
  pub own-spelled : (x : ℕ) → x < move.names
      → name_of old (names_cells a.names) (move.name x) ≡ name_of own (names_cells own-names) x
  own-spelled x h =
      let l : x < length own-names = omega (arith, length-spellings own own-names) in
      let q = part-spelled from-to own_read x l in
      ap (λ (t : List ℕ). name_of t (names_cells a.names) (move.name x)) (sym (edited_own old k a one))
      ∙ name_spelled_lem from-to.lexes.sound (move.name x)
      (omega (arith, q.0, length-spellings (pre ++ (own ++ post)) a.names))
      ∙ q.1 ∙ sym (name_spelled_lem own_read.sound x l)

  pub own-ends : (token_at alone (length own-tokens - 1)).kind ≡ 38
  own-ends = last-kind own_read.sound

  -- it begins and ends as one function
  pub own-whole : is_whole own alone ≡ true
  unfolding is_whole pick
  own-whole =
      let h = stands old k a one in
      let p = first-long old (begins_at old k) (ends_at old k) (order old k a one) (inside old k a one) in
      let q = part-long old (begins_at old k) (ends_at old k) (order old k a one) (inside old k a one) in
      let n = length own-tokens - 2 in
      let zero : f.token + 0 ≡ f.token = omega arith in
      let last : f.token + n ≡ brace = omega (arith, own_many, h.order, h.behind) in
      let opens = ap (token_at (ts old k a one)) (sym zero) ∙ own-moves.same 0 (omega (arith, own_many)) in
      let closes = ap (token_at (ts old k a one)) (sym last) ∙ own-moves.same n (omega (arith, own_many)) in
      let first_kind = sym (ap (λ (t : TokenAt). t.kind) opens) ∙ h.opens in
      let last-kind = sym (ap (λ (t : TokenAt). t.kind) closes) ∙ h.closes in
      let first_place : (token_at alone 0).place ≡ 0 =
      omega (arith, ap (λ (t : TokenAt). t.place) opens, begins-is old k a one, p) in
      let last_place : (token_at alone n).place + 1 ≡ length own =
      omega (arith, ap (λ (t : TokenAt). t.place) closes, ends_is old k a one, p, q, order old k a one) in
      rw (
        toks-counted own-tokens,
        eq-eqb _ _ first_kind,
        eq-eqb _ _ first_place,
        eq-eqb _ _ last-kind,
        eq-eqb _ _ last_place,
      )
