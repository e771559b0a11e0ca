-- Places: an accepted text is cut before each of its tokens, and behind each that is one byte.
use Rattle.std.specs.Prelude.{Some}
use Prim.Native.Nat.{ℕ, zero, suc, ◌+◌, ◌<◌}
use mathlib.Core.Path.{◌≡◌, sym, ap, ◌∙◌}
use mathlib.Core.List.{List, [], ◌∷◌, ◌++◌}
use native.Mathlib.Omega.{arith}
use lib.ListN.{length, get_or, take, drop, length-append, get_or-append}
use lib.Seq.{split_at, length-take-le}
use Rattle.pieces.specs.Tokens.{symbol}
use Rattle.pieces.specs.Pieces.{token, cursor}
use Rattle.pieces.specs.declared.Cursor.{Cursor}
use Rattle.pieces.specs.declared.Token.{Token}
use Rattle.pieces.specs.declared.TokenValue.{TokenValue}
use Rattle.pieces.specs.declared.TokenValue.TheVariants as X
use Rattle.lexer.specs.Numbered.{Part, spellings}
use Rattle.lexer.specs.Sound.{no_token}
use Rattle.joined.specs.Runs.{Item, place_of, line_of, Run}
use Rattle.joined.specs.Names.{Both, Stands}
use Rattle.joined.proofs.Runs.{run-split, start-at, end-at}
use Rattle.joined.proofs.Names.{both-length}
use Rattle.joined.proofs.Cut.{symbol_piece}
use Rattle.joined.proofs.Parts.{Lexes}

-- a token stands where its item does
pub stands_place : (s : List ℕ) (W : List (List ℕ)) (i : Item) (t : Token) → Stands s W i t
    → (place_of i ≡ t.place) × (line_of i ≡ t.line.0)
stands_place s W (Item.spelled n) t p =
    (sym (ap (λ (u : Token). u.place) p.4), sym (ap (λ (u : Token). u.line.0) p.4))
stands_place s W (Item.plain u) t p =
    (sym (ap (λ (u : Token). u.place) p), sym (ap (λ (u : Token). u.line.0) p))

pub both_at : {A B : Type 0} {R : A → B → Type 0} {xs : List A} {ys : List B} (d : A) (e : B) → Both R xs ys → (i : ℕ)
    → i < length ys → R (get_or xs i d) (get_or ys i e)
both_at d e Both.none i h = absurd (omega arith)
both_at d e (Both.more r q) zero h = r
both_at d e (Both.more r q) (suc i) h = both_at d e q i (omega arith)

abbrev pub no_item : Item
no_item = Item.plain no_token

-- The items before a token and from it on, and the runs over them.
pub record CutAt (s : List ℕ) (line last i : ℕ) (W : List (List ℕ)) (t : Token) : Type 0 where
  pub front : List Item
  pub item : Item
  pub back : List Item
  pub counted : length front ≡ i
  pub until : Run s 0 line front t.place t.line.0
  pub from : Run s t.place t.line.0 (item ∷ back) (length s) last
  pub stand : Stands s W item t

module _ {s : List ℕ} {line : ℕ} {ts : List Token} {ns : List Part} (v : Lexes s line ts ns) where
  pub cut_at : (i : ℕ) → i + 1 < length ts
      → CutAt s line v.last i (spellings s ns) (get_or ts i no_token)
  cut_at i h =
      let E = token X.EndOfFile v.last (length s) ∷ [] in
      let k : i < length v.toks = omega (arith, ap length v.tokens, length-append v.toks E) in
      let t : get_or v.toks i no_token ≡ get_or ts i no_token =
      sym (ap (λ (l : List Token). get_or l i no_token) v.tokens ∙ get_or-append v.toks E no_token i k) in
      let m : i < length v.items = omega (arith, both-length v.stand) in
      let p : Stands s (spellings s ns) (get_or v.items i no_item) (get_or ts i no_token) =
      rw t at (both_at no_item no_token v.stand i k) in
      from-split i m (split_at v.items i no_item m) (get_or ts i no_token) p
    where
      from-split : (i : ℕ) → i < length v.items
          → v.items ≡ take i v.items ++ (get_or v.items i no_item ∷ drop (suc i) v.items)
          → (t : Token) → Stands s (spellings s ns) (get_or v.items i no_item) t
          → CutAt s line v.last i (spellings s ns) t
      from-split i m e t p =
          let q = stands_place s (spellings s ns) (get_or v.items i no_item) t p in
          let r = run-split (take i v.items) (get_or v.items i no_item) (drop (suc i) v.items)
          (rw e at v.run) (omega arith) in
          record {
            front = take i v.items;
            item = get_or v.items i no_item;
            back = drop (suc i) v.items;
            counted = length-take-le i v.items (omega arith);
            until = end-at q.0 q.1 r.0;
            from = start-at q.0 q.1 r.1;
            stand = p;
          }

-- behind a token of one byte
pub run-behind : {s : List ℕ} {a l at line : ℕ} {i : Item} {is : List Item} (x : TokenValue) → Run s a l
    (i ∷ is) at line
    → a < length s → symbol (get_or s a 0) ≡ Some x → Run s (a + 1) l is at line
run-behind {s} {a} {l} x (Run.skip e r) h q =
    let f = symbol_piece s a l x h q in
    absurd (let z : ◌≡◌ {A = ℕ} 0 1 = cc in omega arith)
run-behind {s} {a} {l} x (Run.spelled e r) h q =
    let f = symbol_piece s a l x h q in
    absurd (let z : ◌≡◌ {A = ℕ} 0 1 = cc in omega arith)
run-behind {s} {a} {l} x (Run.plain {a = b} {l = m} e r) h q =
    let f = symbol_piece s a l x h q in
    let g : cursor b m ≡ cursor (a + 1) l = cc in
    start-at (ap (λ (c : Cursor). c.place) g) (ap (λ (c : Cursor). c.line) g) r
