-- Tokens: where items are read in two texts, with the same spellings, their tokens are the same, moved and renamed.
use Rattle.std.specs.Prelude.{Ok}
use Prim.Native.Nat.{ℕ, zero, suc, ◌+◌, ◌≤◌, ◌<◌}
use mathlib.Core.Path.{◌≡◌, refl, sym, ap, ◌∙◌}
use mathlib.Core.Bool.{Bool, true, false}
use mathlib.Core.List.{List, [], ◌∷◌, ◌++◌}
use native.Mathlib.Omega.{arith}
use borrow.Author.Tests.{ltb-true, ltb-false, leb-true, le-leb, lt-leb, eqb-false, ne_eqb}
use Rattle.pieces.proofs.Progress.{pick_either}
use lib.Dec.{ltb, leb, eqb}
use lib.ListN.{length, get_or}
use lib.Seq.{slice, take-append-le}
use Rattle.utils.specs.Bytes.{pick, pad_to}
use Rattle.pieces.specs.Tokens.{kind_of, name_kind, carried}
use Rattle.pieces.specs.Pieces.{cursor}
use Rattle.pieces.specs.declared.Token.{Token}
use Rattle.pieces.specs.declared.Lexed.TheVariants as L
use Rattle.lexer.specs.Numbered.{named, tokens_cells}
use Rattle.lexer.specs.Decoded.{Tok, tokens_of, is_name, name_in, integer_in, token_at, with_next}
use Rattle.lexer.specs.Sound.{no_token}
use Rattle.lexer.proofs.Sound.{name-kind, name-carried}
use Rattle.lexer.proofs.Cells.{tok_of, cells-token_at}
use Rattle.parser.specs.Moved.{Move, move_t, Sim}
use Rattle.joined.specs.Runs.{Item, move_item, move_items, Run}
use Rattle.joined.specs.Names.{Both, Stands, Distinct, renamed, words_of, AllIn, Inside, AllInside, move_tok}
use Rattle.joined.proofs.Shift.{slice_shift, pick_through}
use Rattle.joined.proofs.Runs.{past_of}
use Rattle.joined.proofs.Names.{renamed-is}

-- the items of a run lie in the text
pub run_inside : {s : List ℕ} {at line a l : ℕ} {is : List Item} → Run s at line is a l → at ≤ length s
    → AllInside (length s) is
run_inside Run.stop h = tt
run_inside {s} {at} {line} (Run.skip {a = a} {l = l} e r) h =
    run_inside r (past_of s at line (Ok (L.Skipped (cursor a l))) e h).within
run_inside {s} {at} {line} (Run.spelled {a = a} {l = l} {n = n} e r) h =
    let p = past_of s at line (Ok (L.Name n (cursor a l))) e h in
    ((omega (arith, p.name_end_lem, p.within), p.kind_from, p.kind_to), run_inside r p.within)
run_inside {s} {at} {line} (Run.plain {a = a} {l = l} {t = t} e r) h =
    let p = past_of s at line (Ok (L.Token t (cursor a l))) e h in
    ((p.kind_from, p.kind_to), run_inside r p.within)

name_is : (k : ℕ) → 1 ≤ k → k ≤ 3 → is_name k ≡ true
unfolding is_name pick
name_is k h g = rw (lt-leb k 0 h, le-leb k 3 g)

name-not : (k : ℕ) → 4 ≤ k → is_name k ≡ false
unfolding is_name pick
name-not k h = rw (lt-leb k 0 (omega arith), lt-leb k 3 h)

pub name-to : (k : ℕ) → is_name k ≡ true → k ≤ 3
unfolding is_name pick
name-to k e = by (leb k 0) refl (leb k 3) refl e
  where
    by : (t : Bool) → leb k 0 ≡ t → (u : Bool) → leb k 3 ≡ u → pick t false u ≡ true → k ≤ 3
    by true p u q r = absurd (let z : ◌≡◌ {A = ℕ} 0 1 = cc in omega arith)
    by false p true q r = leb-true k 3 q
    by false p false q r = absurd (let z : ◌≡◌ {A = ℕ} 0 1 = cc in omega arith)

-- a part of a text has the bytes that it has alone
pub slice-part : (p s q : List ℕ) (a b : ℕ) → b ≤ length s
    → slice (length p + a) (length p + b) (p ++ (s ++ q)) ≡ slice a b s
slice-part p s q a b h = slice_shift p (s ++ q) a b ∙ rw (take-append-le b s q h)

-- The text s' is spelled in s from `on` on; the tables of names are W and W'.
module _ (s s' : List ℕ) (on down : ℕ) (W W' : List (List ℕ)) (distinct : Distinct W)
    (spelled : (a b : ℕ) → b ≤ length s' → slice (on + a) (on + b) s ≡ slice a b s') where
  token-moved : (i : Item) (t t' : Token) → Inside (length s') i → Stands s W (move_item on down i) t → Stands s' W' i t'
      → tok_of t ≡ move_tok on down (renamed W W') (tok_of t')
  unfolding pick
  token-moved (Item.spelled n) t t' h p p' =
      let e : on + n.place + n.len ≡ on + (n.place + n.len) = omega arith in
      let w : get_or W p.0 [] ≡ get_or W' p'.0 [] =
      p.2 ∙ rw e (spelled n.place (n.place + n.len) h.0) ∙ sym p'.2 in
      let r = renamed-is W W' distinct p'.0 p.0 p.1 w in
      let k = name-kind (name_kind n.kind) p.0 h.1 h.2 in
      let k' = name-kind (name_kind n.kind) p'.0 h.1 h.2 in
      let c = name-carried (name_kind n.kind) p.0 h.1 h.2 in
      let c' = name-carried (name_kind n.kind) p'.0 h.1 h.2 in
      rw (p.4, p'.4, k, k', c, c', name_is (name_kind n.kind) h.1 h.2, r)
  token-moved (Item.plain u) t t' h p p' = rw (p, p', name-not (kind_of u.value) h.0)

  pub tokens-moved : (is : List Item) (T T' : List Token) → AllInside (length s') is → Both (Stands s W)
      (move_items on down is) T
      → Both (Stands s' W') is T' → (i : ℕ) → i < length T'
      → tok_of (get_or T i no_token) ≡ move_tok on down (renamed W W') (tok_of (get_or T' i no_token))
  unfolding move_items
  tokens-moved [] T T' h Both.none Both.none i k = absurd (omega arith)
  tokens-moved (x ∷ is) T T' h (Both.more {y = t} p q) (Both.more {y = t'} p' q') zero k = token-moved x t t'
      h.0 p p'
  tokens-moved (x ∷ is) T T' h (Both.more {ys = ts} p q) (Both.more {ys = ts'} p' q') (suc i) k =
      tokens-moved is ts ts' h.1 q q' i (omega arith)

-- The tokens of a part, put where the part stands alone, by a table that has its words.
pub record Alone (s : List ℕ) (W : List (List ℕ)) (is : List Item) : Type 0 where
  pub toks : List Token
  pub stand : Both (Stands s W) is toks

module _ (s s' : List ℕ) (on down : ℕ) (W U : List (List ℕ)) where
  pub alone : (is : List Item) {T : List Token} → Both (Stands s W) (move_items on down is) T → AllIn U (words_of s' is)
      → Alone s' U is
  unfolding move_items words_of
  alone [] Both.none h = record { toks = []; stand = Both.none }
  alone (Item.spelled n ∷ is) (Both.more p q) h =
      let z = alone is q h.1 in
      let t = named n (record { 0 = h.0.0 }) in
      record {
        toks = t ∷ z.toks;
        stand = Both.more {x = Item.spelled n} {y = t} (h.0.0, h.0.1, h.0.2, p.3, refl) z.stand;
      }
  alone (Item.plain t ∷ is) (Both.more p q) h =
      let z = alone is q h in
      record { toks = t ∷ z.toks; stand = Both.more refl z.stand }

-- what callers see of a token: its name, if it has one, renamed, and its integer as it was
move_seen : (m : Move) (t : Tok) (n : ℕ)
    → with_next (move_tok m.on m.down m.name t) (m.by + n) ≡ move_t m (with_next t n)
unfolding name_in integer_in pick
move_seen m t n = by (is_name t.kind) refl
  where
    by : (b : Bool) → is_name t.kind ≡ b
        → with_next (move_tok m.on m.down m.name t) (m.by + n) ≡ move_t m (with_next t n)
    by true e = rw (e, ne_eqb t.kind 4 (λ q. omega (arith, name-to t.kind e)))
    by false e = rw e

-- a name's number, seen so
pub name-seen : (t : Tok) (n : ℕ) → is_name t.kind ≡ true → (with_next t n).name.0 ≡ t.value
unfolding name_in pick
name-seen t n e = rw e

-- Of two lists of tokens, n from `by` on in the one and the first n of the other: they are the same, moved; the names
-- are below the bound; and the last is a closing brace or the end token. Then the cells that hold them are related.

pub part_sim : (m : Move) (n w w' : ℕ) (ts ts' : List Token) → ((i : ℕ) → i < n → m.by + i < length ts)
    → n ≤ length ts'
    → ((i : ℕ) → i < n
    → tok_of (get_or ts (m.by + i) no_token) ≡ move_tok m.on m.down m.name (tok_of (get_or ts' i no_token)))
    → ((i : ℕ) → i < n → is_name (kind_of (get_or ts' i no_token).value) ≡ true → carried
    (get_or ts' i no_token).value < m.names)
    → ((i : ℕ) → i + 1 ≡ n → (kind_of (get_or ts' i no_token).value ≡ 28 → ⊥) → kind_of (get_or ts' i no_token).value ≡ 38)
    → Sim m n (tokens_of (pad_to w (tokens_cells ts))) (tokens_of (pad_to w' (tokens_cells ts')))
unfolding pick
part_sim m n w w' ts ts' in-ts in-ts' moved fit last =
    record {
      same = same;
      fit = λ i h. rw (here i h) (λ e. rw (name-seen (tok_of (get_or ts' i no_token)) 0 e) (fit i h e));
      near = λ i h. rw (here i h) (near i h);
      inner = λ i h. rw (here i h) (inner i h);
    }
  where
    here : (i : ℕ) → i < n → token_at (tokens_of (pad_to w' (tokens_cells ts'))) i
        ≡ with_next (tok_of (get_or ts' i no_token)) (pick (eqb (kind_of (get_or ts' i no_token).value) 38) i (i + 1))
    here i h = cells-token_at w' ts' i (omega arith)

    near : (i : ℕ) → i < n → pick (eqb (kind_of (get_or ts' i no_token).value) 38) i (i + 1) ≤ n
    near i h = pick_either (λ (k : ℕ). k ≤ n) (eqb (kind_of (get_or ts' i no_token).value) 38) i (i + 1)
        (λ _. omega arith) (λ _. omega arith)

    inner : (i : ℕ) → i < n → (kind_of (get_or ts' i no_token).value ≡ 28 → ⊥)
        → pick (eqb (kind_of (get_or ts' i no_token).value) 38) i (i + 1) < n
    inner i h g =
        pick_either (λ (k : ℕ). k < n) (eqb (kind_of (get_or ts' i no_token).value) 38) i (i + 1) (λ _. omega arith)
        (λ e. go (ltb (i + 1) n) refl e)
      where
        go : (t : Bool) → ltb (i + 1) n ≡ t → eqb (kind_of (get_or ts' i no_token).value) 38 ≡ false → i + 1 < n
        go true p e = ltb-true (i + 1) n p
        go false p e =
            absurd (eqb-false (kind_of (get_or ts' i no_token).value) 38 e
            (last i (omega (arith, ltb-false (i + 1) n p)) g))

    same : (i : ℕ) → i < n → token_at (tokens_of (pad_to w (tokens_cells ts))) (m.by + i)
        ≡ move_t m (token_at (tokens_of (pad_to w' (tokens_cells ts'))) i)
    same i h =
        let e : m.by + i + 1 ≡ m.by + (i + 1) = omega arith in
        let next : pick (eqb (kind_of (get_or ts' i no_token).value) 38) (m.by + i) (m.by + i + 1)
        ≡ m.by + pick (eqb (kind_of (get_or ts' i no_token).value) 38) i (i + 1) =
        pick_through (λ (x : ℕ). m.by + x) (eqb (kind_of (get_or ts' i no_token).value) 38) (λ _. refl) (λ _. e) in
        let t = move_tok m.on m.down m.name (tok_of (get_or ts' i no_token)) in
        cells-token_at w ts (m.by + i) (in-ts i h)
        ∙ ap (λ (t : Tok). with_next t (pick (eqb t.kind 38) (m.by + i) (m.by + i + 1))) (moved i h)
        ∙ ap (λ (x : ℕ). with_next t x) next
        ∙ move_seen m (tok_of (get_or ts' i no_token)) (pick (eqb (kind_of (get_or ts' i no_token).value) 38) i (i + 1))
        ∙ ap (move_t m) (sym (here i h))
