-- One function of a text that lexes is replaced: what lexing asks of the old text and of the new one (`Replaced`,
-- crates/joined) follows of where the function stands among the tokens, and of the look at the new text's first and
-- last token.
use Prim.Native.Nat.{ℕ, zero, suc, ◌+◌, ◌-◌, ◌≤◌, ◌<◌}
use mathlib.Core.Path.{◌≡◌, refl, sym, ap, subst, ◌∙◌}
use mathlib.Core.Bool.{true}
use mathlib.Core.List.{List, ◌++◌}
use native.Mathlib.Omega.{arith}
use borrow.Author.Tests.{eqb-true}
use lib.ListN.{length, get_or, take, drop, length-take, length-drop, take-append-drop}
use lib.Seq.{drop-drop}
use Rattle.pieces.specs.Tokens.{kind_of}
use Rattle.pieces.specs.declared.Token.{Token}
use Rattle.pieces.proofs.Digits.{pick-both}
use Rattle.lexer.specs.Numbered.{Part, Outcome, tokens_cells}
use Rattle.lexer.specs.Read.{lexed_from}
use Rattle.lexer.specs.Decoded.{tokens_of, token_at, with_next, index_behind}
use Rattle.lexer.specs.Sound.{Sound, no_token}
use Rattle.lexer.specs.declared.TokenAt.{TokenAt}
use Rattle.lexer.proofs.Cells.{tok_of, cells-token_at, length-tokens_cells}
use Rattle.lexer.proofs.Records.{tokens-count}
use Rattle.lexer.proofs.Sound.{read_sound, end-last}
use Rattle.functions.specs.Functions.{Function}
use Rattle.checker.proofs.Lexed.{unpadded}
use Rattle.headers.specs.Kept.{is_whole}
use Rattle.joined.specs.Edits.{Replaced}
use Rattle.edited.specs.Spelled.{tokens_in}
use Rattle.edited.proofs.Placed.{Placed}

-- Tokens as their cells hold them. ----------------------------------------------------------------------------------

pub token_at_lem : (toks : List Token) (i : ℕ) → i < length toks
    → token_at (tokens_in toks) i
    ≡ with_next (tok_of (get_or toks i no_token)) (index_behind (kind_of (get_or toks i no_token).value) i)
token_at_lem toks i h =
    subst
    (λ (l : List ℕ). token_at (tokens_of l) i
    ≡ with_next (tok_of (get_or toks i no_token)) (index_behind (kind_of (get_or toks i no_token).value) i))
    (unpadded (tokens_cells toks)) (cells-token_at 0 toks i h)

pub toks-counted : (toks : List Token) → length (tokens_in toks) ≡ length toks
toks-counted toks = omega (arith, tokens-count (tokens_cells toks), length-tokens_cells toks)

module _ {s : List ℕ} {line : ℕ} {toks : List Token} {ns : List Part} (v : Sound s line toks ns) where
  -- the end token
  pub last-kind : (token_at (tokens_in toks) (length toks - 1)).kind ≡ 38
  last-kind =
      let at = token_at_lem toks (length toks - 1) (omega (arith, v.some)) in
      ap (λ (t : TokenAt). t.kind) at ∙ ap (λ (t : Token). kind_of t.value) (end-last v)

  -- a token before it begins inside the text
  pub inner-place : (i : ℕ) → i + 1 < length toks → (get_or toks i no_token).place < length s
  inner-place i h =
      let r = (v.rise i (length toks - 1) (omega arith) (omega arith)).0 in
      let e : (get_or toks (length toks - 1) no_token).place ≡ length s = ap (λ (t : Token). t.place) (end-last v) in
      omega (arith, r, e)

-- A text in three parts. --------------------------------------------------------------------------------------------

module _ (s : List ℕ) (p q : ℕ) (order : p ≤ q) (inside : q ≤ length s) where
  abbrev pub part : List ℕ
  part = take (q - p) (drop p s)

  pub parts : take p s ++ (part ++ drop q s) ≡ s
  parts =
      let e : p + (q - p) ≡ q = omega arith in
      let back : drop (q - p) (drop p s) ≡ drop q s = drop-drop (q - p) p s ∙ ap (λ (k : ℕ). drop k s) e in
      ap (λ (l : List ℕ). take p s ++ (part ++ l)) (sym back)
      ∙ ap (λ (l : List ℕ). take p s ++ l) (take-append-drop (q - p) (drop p s))
      ∙ take-append-drop p s

  pub first-long : length (take p s) ≡ p
  first-long = length-take p s ∙ omega arith

  pub part-long : length part ≡ q - p
  part-long = length-take (q - p) (drop p s) ∙ omega (arith, length-drop p s)

-- The premises of lexing. -------------------------------------------------------------------------------------------

module _ (old : List ℕ) (toks : List Token) (ns : List Part) (lexed : lexed_from 1 old ≡ Outcome.done toks ns)
    (f : Function) (h : Placed (tokens_in toks) (length toks - 1) f) where
  sound : Sound old 1 toks ns
  sound = read_sound 1 old toks ns lexed

  pub brace-inner : h.brace + 1 < length toks
  brace-inner = omega (arith, h.within, h.behind, sound.some)

  pub opening-inner : f.token + 1 < length toks
  opening-inner = omega (arith, h.order, h.within, sound.some)

  -- where the function begins, on which line, and where it ends
  abbrev pub from : ℕ
  from = (token_at (tokens_in toks) f.token).place

  abbrev pub line : ℕ
  line = (token_at (tokens_in toks) f.token).line.0

  abbrev pub to : ℕ
  to = (token_at (tokens_in toks) h.brace).place + 1

  pub from_is : from ≡ (get_or toks f.token no_token).place
  from_is = ap (λ (t : TokenAt). t.place) (token_at_lem toks f.token (omega (arith, opening-inner)))

  pub to_is : to ≡ (get_or toks h.brace no_token).place + 1
  to_is = ap (λ (t : TokenAt). t.place + 1) (token_at_lem toks h.brace (omega (arith, brace-inner)))

  pub from-to : from ≤ to
  from-to =
      let r = (sound.rise f.token h.brace (omega (arith, h.order, h.behind)) (omega (arith, brace-inner))).0 in
      omega (arith, r, from_is, to_is)

  pub to_inside : to ≤ length old
  to_inside = omega (arith, inner-place sound h.brace brace-inner, to_is)

  module _ (new : List ℕ) (new-toks : List Token) (new-ns : List Part)
      (new-lexed : lexed_from line new ≡ Outcome.done new-toks new-ns)
      (whole : is_whole new (tokens_in new-toks) ≡ true) where
    new_sound : Sound new line new-toks new-ns
    new_sound = read_sound line new new-toks new-ns new-lexed

    abbrev pub first-new : TokenAt
    first-new = token_at (tokens_in new-toks) 0

    abbrev pub last-new : TokenAt
    last-new = token_at (tokens_in new-toks) (length new-toks - 2)

    pub record Whole : Type 0 where
      pub first_kind : first-new.kind ≡ 2
      pub first_place : first-new.place ≡ 0
      pub last_kind_is : last-new.kind ≡ 28
      pub last_place : last-new.place + 1 ≡ length new

    pub is_whole_lem : Whole
    unfolding is_whole
    is_whole_lem =
        let w = rw (toks-counted new-toks) at whole in
        let a = pick-both _ _ w in
        let b = pick-both _ _ a.1 in
        let c = pick-both _ _ b.1 in
        record {
          first_kind = eqb-true _ _ a.0;
          first_place = eqb-true _ _ b.0;
          last_kind_is = eqb-true _ _ c.0;
          last_place = eqb-true _ _ c.1;
        }

    -- a first token that is a global is not the end token
    pub two : 2 ≤ length new-toks
    two = by (length new-toks) refl
      where
        by : (n : ℕ) → length new-toks ≡ n → 2 ≤ length new-toks
        by zero e = absurd (omega (arith, new_sound.some))
        by (suc zero) e =
            let z : length new-toks - 1 ≡ 0 = omega arith in
            let k : first-new.kind ≡ 38 =
            ap (λ (i : ℕ). (token_at (tokens_in new-toks) i).kind) (sym z) ∙ last-kind new_sound in
            absurd (omega (arith, k, is_whole_lem.first_kind))
        by (suc (suc n)) e = omega arith

    pub new-at : (i : ℕ) → i < length new-toks
        → token_at (tokens_in new-toks) i
        ≡ with_next (tok_of (get_or new-toks i no_token)) (index_behind (kind_of (get_or new-toks i no_token).value) i)
    new-at i l = token_at_lem new-toks i l

    unfoldable pub replaces : Replaced (take from old) (part old from to from-to to_inside) (drop to old) new 1 line
    replaces =
        let opening = token_at_lem toks f.token (omega (arith, opening-inner)) in
        let closing = token_at_lem toks h.brace (omega (arith, brace-inner)) in
        let begin = new-at 0 (omega (arith, two)) in
        let end = new-at (length new-toks - 2) (omega (arith, two)) in
        let w = is_whole_lem in
        record {
          old_tokens = toks;
          old_names = ns;
          old_lexes = ap (lexed_from 1) (parts old from to from-to to_inside) ∙ lexed;
          opening = f.token;
          closing = h.brace;
          order = omega (arith, h.order, h.behind);
          inner = brace-inner;
          opens_kind = sym (ap (λ (t : TokenAt). t.kind) opening) ∙ h.opens;
          opens_at = sym from_is ∙ sym (first-long old from to from-to to_inside);
          opens_line = sym (ap (λ (t : TokenAt). t.line.0) opening);
          closes_kind = sym (ap (λ (t : TokenAt). t.kind) closing) ∙ h.closes;
          closes_at =
              let a = first-long old from to from-to to_inside in
              let b = part-long old from to from-to to_inside in
              omega (arith, to_is, a, b, from-to);
          tokens_new = new-toks;
          new_names = new-ns;
          new_lexes = new-lexed;
          new_closing = length new-toks - 2;
          new_inner = omega (arith, two);
          new_opens_kind = sym (ap (λ (t : TokenAt). t.kind) begin) ∙ w.first_kind;
          new_opens_at = sym (ap (λ (t : TokenAt). t.place) begin) ∙ w.first_place;
          new_closes_kind = sym (ap (λ (t : TokenAt). t.kind) end) ∙ w.last_kind_is;
          new_closes_at = ap (λ (k : ℕ). k + 1) (sym (ap (λ (t : TokenAt). t.place) end)) ∙ w.last_place;
        }
