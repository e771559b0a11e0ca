-- Parts: in an accepted text that is joined of parts, the tokens of a part are those of the part alone, moved, with
-- their names renamed.
use Prim.Native.Nat.{ℕ, zero, suc, ◌+◌, ◌≤◌, ◌<◌}
use mathlib.Core.Path.{◌≡◌, refl, sym, ap, ◌∙◌}
use mathlib.Core.Bool.{Bool, true, false}
use mathlib.Core.List.{List, [], ◌∷◌, ◌++◌, append-nil, append_assoc}
use native.Mathlib.Omega.{arith}
use borrow.Author.Tests.{ltb-true, ltb-false, le-leb}
use lib.Dec.{ltb}
use lib.ListN.{length, get_or, length-append, get_or-append}
use lib.Seq.{slice, get_or-append-add, get_or_at}
use Rattle.utils.specs.Bytes.{pick, pad_to}
use Rattle.pieces.specs.Classes.{is_ascii}
use Rattle.pieces.specs.Tokens.{kind_of, name_kind, carried}
use Rattle.pieces.specs.Pieces.{Pieces, token, cursor, piece_at, on_piece, pieces, pieces_from}
use Rattle.pieces.specs.declared.Cursor.{Cursor}
use Rattle.pieces.specs.declared.Token.{Token}
use Rattle.pieces.specs.declared.TokenValue.TheVariants as X
use Rattle.lexer.specs.Numbered.{Part, spellings, Outcome, numbered, tokens_cells}
use Rattle.lexer.specs.Read.{lexed_from}
use Rattle.lexer.specs.Decoded.{is_name, tokens_of}
use Rattle.lexer.specs.Sound.{Sound, no_token}
use Rattle.lexer.proofs.Sound.{read_sound, name-carried}
use Rattle.lexer.proofs.Cells.{tok_of}
use Rattle.pieces.proofs.Progress.{pick_either}
use Rattle.parser.specs.Moved.{Sim}
use Rattle.joined.specs.Runs.{Item, before, move_items, Run}
use Rattle.joined.specs.Names.{Both, Stands, Numbers, words_of, entered, Distinct, renamed, AllInside}
use Rattle.joined.specs.Names.{move_tok, move_of}
use Rattle.joined.proofs.Runs.{pieces-of-run, run_of-pieces}
use Rattle.joined.proofs.Numbering.{numbers_of_lem}
use Rattle.joined.proofs.Names.{names-distinct, renamed-apart, both-length, Parted, both_parted}
use Rattle.joined.proofs.Tokens.{tokens-moved, part_sim, name-to}

-- An accepted text: its items, their tokens, and the last line.
pub record Lexes (s : List ℕ) (line : ℕ) (ts : List Token) (ns : List Part) : Type 0 where
  pub items : List Item
  pub last : ℕ
  pub run : Run s 0 line items (length s) last
  pub same : pieces s line ≡ before items (Pieces.end (cursor (length s) last))
  pub toks : List Token
  pub tokens : ts ≡ toks ++ (token X.EndOfFile last (length s) ∷ [])
  pub stand : Both (Stands s (spellings s ns)) items toks
  pub table : spellings s ns ≡ entered [] (words_of s items)
  pub sound : Sound s line ts ns

lexes-from : (s : List ℕ) (line : ℕ) (ts : List Token) (ns : List Part) → Sound s line ts ns
    → (n : Numbers s [] [] (pieces s line) ts ns)
    → Run s 0 line n.items (length s) n.end.line × (n.end.place ≡ length s) → Lexes s line ts ns
unfolding spellings
lexes-from s line ts ns v n r =
    record {
      items = n.items;
      last = n.end.line;
      run = r.0;
      same = n.same ∙ ap (λ (p : ℕ). before n.items (Pieces.end (cursor p n.end.line))) r.1;
      toks = n.toks;
      tokens = n.tokens ∙ ap (λ (p : ℕ). n.toks ++ (token X.EndOfFile n.end.line p ∷ [])) r.1;
      stand = n.stand;
      table = n.table;
      sound = v;
    }

pub lexed-numbered : (s : List ℕ) (line : ℕ) (ts : List Token) (ns : List Part) → lexed_from line s ≡ Outcome.done ts ns
    → numbered s line ≡ Outcome.done ts ns
unfolding lexed_from
lexed-numbered s line ts ns e =
    let P : Outcome → Type 0 = λ o. o ≡ Outcome.done ts ns → numbered s line ≡ Outcome.done ts ns in
    pick_either P (ltb 16384 (length s)) _ _ (λ _ e. absurd (let z : ◌≡◌ {A = ℕ} 0 1 = cc in omega arith))
    (λ _. pick_either P (is_ascii s) _ _ (λ _ e. e) (λ _ e. absurd (let z : ◌≡◌ {A = ℕ} 0 1 = cc in omega arith))) e

pub lexes-of : (s : List ℕ) (line : ℕ) (ts : List Token) (ns : List Part) → lexed_from line s ≡ Outcome.done ts ns
    → Lexes s line ts ns
unfolding numbered
lexes-of s line ts ns e =
    let n : Numbers s [] [] (pieces s line) ts ns =
    numbers_of_lem s [] [] (pieces s line) ts ns (lexed-numbered s line ts ns e) in
    lexes-from s line ts ns (read_sound line s ts ns e) n
    (run_of-pieces (suc (length s)) s 0 line n.items n.end (omega arith) n.same)

-- Items that come first are the first of all items.
pub record Prefixed (is : List Item) (rest : Pieces) (all : List Item) (c : Cursor) : Type 0 where
  pub later : List Item
  pub whole : all ≡ is ++ later
  pub same : rest ≡ before later (Pieces.end c)

pub before_prefix : (is : List Item) (rest : Pieces) (all : List Item) (c : Cursor)
    → before is rest ≡ before all (Pieces.end c) → Prefixed is rest all c
unfolding before
before_prefix [] rest all c e = record { later = all; whole = refl; same = e }
before_prefix (Item.spelled n ∷ is) rest [] c e = absurd (let z : ◌≡◌ {A = ℕ} 0 1 = cc in omega arith)
before_prefix (Item.spelled n ∷ is) rest (Item.spelled m ∷ all) c e =
    let f : n ≡ m = cc in
    let z = before_prefix is rest all c (cc) in
    record { later = z.later; whole = rw (f, ← z.whole); same = z.same }
before_prefix (Item.spelled n ∷ is) rest (Item.plain m ∷ all) c e = absurd (let z : ◌≡◌ {A = ℕ} 0 1 = cc in omega arith)
before_prefix (Item.plain n ∷ is) rest [] c e = absurd (let z : ◌≡◌ {A = ℕ} 0 1 = cc in omega arith)
before_prefix (Item.plain n ∷ is) rest (Item.spelled m ∷ all) c e = absurd (let z : ◌≡◌ {A = ℕ} 0 1 = cc in omega arith)
before_prefix (Item.plain n ∷ is) rest (Item.plain m ∷ all) c e =
    let f : n ≡ m = cc in
    let z = before_prefix is rest all c (cc) in
    record { later = z.later; whole = rw (f, ← z.whole); same = z.same }

-- the pieces from the text's end on
pub pieces-at-end : (n : ℕ) (s : List ℕ) (line : ℕ) → pieces_from (suc n) s (length s) line ≡ Pieces.end
    (cursor (length s) line)
unfolding pieces_from on_piece piece_at pick
pieces-at-end n s line = rw (le-leb (length s) (length s) (omega arith))

before-none : (is : List Item) (c d : Cursor) → Pieces.end d ≡ before is (Pieces.end c) → is ≡ []
unfolding before
before-none [] c d e = refl
before-none (Item.spelled n ∷ is) c d e = absurd (let z : ◌≡◌ {A = ℕ} 0 1 = cc in omega arith)
before-none (Item.plain n ∷ is) c d e = absurd (let z : ◌≡◌ {A = ℕ} 0 1 = cc in omega arith)

module _ {s : List ℕ} {line : ℕ} {ts : List Token} {ns : List Part} (v : Lexes s line ts ns) {at l : ℕ} {is : List Item}
    (r : Run s 0 line is at l) where
  -- a run from the text's start gives the first of its items
  pub run-first : Prefixed is (pieces_from (suc (length s)) s at l) v.items (cursor (length s) v.last)
  run-first =
      before_prefix is (pieces_from (suc (length s)) s at l) v.items (cursor (length s) v.last)
      (sym (pieces-of-run (suc (length s)) (suc (length s)) r (omega arith) (omega arith) (omega arith)) ∙ v.same)

-- and all of them, where it goes to the text's end
pub run-all : {s : List ℕ} {line : ℕ} {ts : List Token} {ns : List Part}
    (v : Lexes s line ts ns) {l : ℕ} {is : List Item}
    → Run s 0 line is (length s) l → (v.items ≡ is) × (v.last ≡ l)
unfolding before
run-all {s} v {l} {is} r =
    let p = run-first v r in
    let e : Pieces.end (cursor (length s) l) ≡ before p.later (Pieces.end (cursor (length s) v.last)) =
    sym (pieces-at-end (length s) s l) ∙ p.same in
    let none = before-none p.later (cursor (length s) v.last) (cursor (length s) l) e in
    (p.whole ∙ rw none (append-nil is), last p.later none e)
  where
    last : (js : List Item) → js ≡ []
        → Pieces.end (cursor (length s) l) ≡ before js (Pieces.end (cursor (length s) v.last)) → v.last ≡ l
    last js n e =
        let f : Pieces.end (cursor (length s) l) ≡ Pieces.end (cursor (length s) v.last) = rw n at e in
        let g : cursor (length s) l ≡ cursor (length s) v.last = cc in
        sym (ap (λ (c : Cursor). c.line) g)

-- A part of an accepted text. --------------------------------------------------------------------------------------

-- The tokens before a part, of the part, and behind it.
pub record Placed (t : List ℕ) (ts : List Token) (ns : List Part) (A M : List Item) : Type 0 where
  pub front : List Token
  pub middle : List Token
  pub back : List Token
  pub whole : ts ≡ front ++ (middle ++ back)
  pub counted : length front ≡ length A
  pub stand : Both (Stands t (spellings t ns)) M middle

placed_from : {t : List ℕ} {ts : List Token} (toks end : List Token) {ns : List Part} (A M Z : List Item) → ts
    ≡ toks ++ end
    → (z : Parted (Stands t (spellings t ns)) A (M ++ Z) toks)
    → Parted (Stands t (spellings t ns)) M Z z.back → Placed t ts ns A M
placed_from toks end A M Z e z y =
    record {
      front = z.front;
      middle = y.front;
      back = y.back ++ end;
      whole = e ∙ ap (λ (l : List Token). l ++ end) z.whole ∙ append_assoc z.front z.back end
          ∙ ap (λ (l : List Token). z.front ++ l) (ap (λ (l : List Token). l ++ end) y.whole
          ∙ append_assoc y.front y.back end);
      counted = sym (both-length z.in_front);
      stand = y.in_front;
    }

pub placed : {t : List ℕ} {line : ℕ} {ts : List Token} {ns : List Part} (v : Lexes t line ts ns) (A M Z : List Item)
    → v.items ≡ A ++ (M ++ Z) → Placed t ts ns A M
placed {t} {ns = ns} v A M Z e =
    let b : Both (Stands t (spellings t ns)) (A ++ (M ++ Z)) v.toks = rw (← e) v.stand in
    let z = both_parted A (M ++ Z) b in
    placed_from v.toks _ A M Z v.tokens z (both_parted M Z z.in_back)

-- the last part: behind it stands the end token
placed_last-from : {t : List ℕ} {ts toks : List Token} (end : List Token) {ns : List Part} (A M : List Item) → ts
    ≡ toks ++ end
    → Parted (Stands t (spellings t ns)) A M toks → (z : Placed t ts ns A M) × (z.back ≡ end)
placed_last-from end A M e z = (
  record {
    front = z.front;
    middle = z.back;
    back = end;
    whole = e ∙ ap (λ (l : List Token). l ++ end) z.whole ∙ append_assoc z.front z.back end;
    counted = sym (both-length z.in_front);
    stand = z.in_back;
  },
  refl,
)

pub placed_last : {t : List ℕ} {line : ℕ} {ts : List Token} {ns : List Part} (v : Lexes t line ts ns) (A M : List Item)
    → v.items ≡ A ++ M → (z : Placed t ts ns A M) × (z.back ≡ token X.EndOfFile v.last (length t) ∷ [])
placed_last {t} {ns = ns} v A M e =
    let b : Both (Stands t (spellings t ns)) (A ++ M) v.toks = rw (← e) v.stand in
    placed_last-from (token X.EndOfFile v.last (length t) ∷ []) A M v.tokens (both_parted A M b)

-- a name's token carries a number of the table
pub stands_fit : (s : List ℕ) (W : List (List ℕ)) (n : ℕ) {is : List Item} {T : List Token} → Both (Stands s W) is T
    → AllInside n is → (i : ℕ) → i < length T → is_name (kind_of (get_or T i no_token).value) ≡ true
    → carried (get_or T i no_token).value < length W
stands_fit s W n Both.none h i k e = absurd (omega arith)
stands_fit s W n (Both.more {x = Item.spelled x} {y = t} p q) h zero k e =
    let c = name-carried (name_kind x.kind) p.0 h.0.1 h.0.2 in
    rw (p.4, c) p.1
stands_fit s W n (Both.more {x = Item.plain x} {y = t} p q) h zero k e =
    let f : is_name (kind_of x.value) ≡ true = rw p at e in
    absurd (omega (arith, name-to (kind_of x.value) f, h.0.0))
stands_fit s W n (Both.more p q) h (suc i) k e = stands_fit s W n q h.1 i (omega arith) e

-- an element of a list with one more, by its index
pub snoc_at : (T : List Token) (E : Token) (i : ℕ) (P : Token → Type 0) → i < length T + 1 →
    (i < length T → P (get_or T i no_token))
    → (i ≡ length T → P E) → P (get_or (T ++ (E ∷ [])) i no_token)
snoc_at T E i P h f g = by (ltb i (length T)) refl
  where
    by : (t : Bool) → ltb i (length T) ≡ t → P (get_or (T ++ (E ∷ [])) i no_token)
    by true e =
        let k : i < length T = ltb-true _ _ e in
        rw (get_or-append T (E ∷ []) no_token i k) (f k)
    by false e =
        let k : i ≡ length T = omega (arith, ltb-false i (length T) e) in
        rw (get_or_at T E [] no_token i (sym k)) (g k)

pub length_moved : (on down : ℕ) (is : List Item) → length (move_items on down is) ≡ length is
unfolding move_items
length_moved on down [] = refl
length_moved on down (i ∷ is) = ap suc (length_moved on down is)

-- The part s of the text t, whose items are N alone, and its tokens T by a table W; in t they come behind those of A,
-- moved.
module _ {t : List ℕ} {line : ℕ} {ts : List Token} {ns : List Part} (v : Lexes t line ts ns) (s : List ℕ) (on down : ℕ)
    (spelled : (a b : ℕ) → b ≤ length s → slice (on + a) (on + b) t ≡ slice a b s)
    (A N : List Item) (inside : AllInside (length s) N)
    (W : List (List ℕ)) (distinct : Distinct W) (T : List Token) (stand : Both (Stands s W) N T)
    (z : Placed t ts ns A (move_items on down N)) where
  -- as many tokens there as here
  middle_length : length z.middle ≡ length T
  middle_length = sym (both-length z.stand) ∙ length_moved on down N ∙ both-length stand

  whole_length : length ts ≡ length A + (length T + length z.back)
  whole_length =
      omega (
        arith,
        ap length z.whole,
        length-append z.front (z.middle ++ z.back),
        length-append z.middle z.back,
        middle_length,
        z.counted,
      )

  there_at : (i : ℕ) → get_or ts (length A + i) no_token ≡ get_or (z.middle ++ z.back) i no_token
  there_at i = rw (z.whole, ← z.counted) (get_or-append-add z.front (z.middle ++ z.back) i no_token)

  pub part_moved : (i : ℕ) → i < length T
      → tok_of (get_or ts (length A + i) no_token) ≡ move_tok on down (renamed (spellings t ns) W) (tok_of (get_or T i no_token))
  part_moved i h =
      let m : i < length z.middle = omega (arith, middle_length) in
      ap tok_of (there_at i ∙ get_or-append z.middle z.back no_token i m)
      ∙ tokens-moved t s on down (spellings t ns) W (names-distinct t ns v.sound.distinct) spelled N
      z.middle T inside
      z.stand stand i h

  -- THE THEOREM for a part that ends with a closing brace: its tokens there are its tokens alone, moved.
  pub part_related : (w w' : ℕ) (ts' R : List Token) → ts' ≡ T ++ R
      → ((i : ℕ) → i + 1 ≡ length T → kind_of (get_or T i no_token).value ≡ 28)
      → Sim (move_of (length A) down on (spellings t ns) W (renamed-apart (spellings t ns) W distinct)) (length T)
      (tokens_of (pad_to w (tokens_cells ts))) (tokens_of (pad_to w' (tokens_cells ts')))
  part_related w w' ts' R e brace =
      rw e
      (part_sim (move_of (length A) down on (spellings t ns) W (renamed-apart (spellings t ns) W distinct))
      (length T) w w' ts (T ++ R)
      (λ i h. omega (arith, whole_length)) (omega (arith, length-append T R))
      (λ i h. rw (get_or-append T R no_token i h) (part_moved i h))
      (λ i h. rw (get_or-append T R no_token i h) (stands_fit s W (length s) stand inside i h))
      (λ i e. rw (get_or-append T R no_token i (omega arith)) (λ not. absurd (not (brace i e)))))

  end_there : (last : ℕ) → z.back ≡ token X.EndOfFile (down + last) (on + length s) ∷ [] → (i : ℕ) → i ≡ length T
      → get_or (z.middle ++ z.back) i no_token ≡ token X.EndOfFile (down + last) (on + length s)
  end_there last e i k = rw e
      (get_or_at z.middle (token X.EndOfFile (down + last) (on + length s)) [] no_token i (middle_length ∙ sym k))

  -- And for a part that the text ends with: the end token is moved too.
  pub rest_related : (w w' last : ℕ) → z.back ≡ token X.EndOfFile (down + last) (on + length s) ∷ []
      → Sim (move_of (length A) down on (spellings t ns) W (renamed-apart (spellings t ns) W distinct)) (length T + 1)
      (tokens_of (pad_to w (tokens_cells ts)))
      (tokens_of (pad_to w' (tokens_cells (T ++ (token X.EndOfFile last (length s) ∷ [])))))
  unfolding is_name pick
  rest_related w w' last e =
      let E = token X.EndOfFile last (length s) in
      let b : length z.back ≡ 1 = ap length e in
      part_sim (move_of (length A) down on (spellings t ns) W (renamed-apart (spellings t ns) W distinct))
      (length T + 1) w w' ts (T ++ (E ∷ []))
      (λ i h. omega (arith, whole_length)) (omega (arith, length-append T (E ∷ [])))
      (λ i h. snoc_at T E i
      (λ u. tok_of (get_or ts (length A + i) no_token) ≡ move_tok on down (renamed (spellings t ns) W) (tok_of u)) h
      (λ k. part_moved i k)
      (λ k. ap tok_of (there_at i ∙ end_there last e i k)))
      (λ i h. snoc_at T E i (λ u. is_name (kind_of u.value) ≡ true → carried u.value < length W) h
      (λ k. stands_fit s W (length s) stand inside i k)
      (λ k q. absurd (let z : ◌≡◌ {A = ℕ} 0 1 = cc in omega arith)))
      (λ i k. snoc_at T E i (λ u. (kind_of u.value ≡ 28 → ⊥) → kind_of u.value ≡ 38) (omega arith)
      (λ h. absurd (omega arith)) (λ _ _. refl))
