-- Cut: a text is cut where a piece ends. The names and tokens of the whole are those of the first part, then those of
-- the second, moved.
use Rattle.std.specs.Prelude.{Option, Some, Ok}
use Prim.Native.Nat.{ℕ, suc, ◌+◌, ◌≤◌, ◌<◌}
use mathlib.Core.Path.{◌≡◌, refl, sym, ap, ◌∙◌}
use mathlib.Core.List.{List, [], ◌∷◌, ◌++◌, append_assoc}
use native.Mathlib.Omega.{arith}
use borrow.Author.Tests.{lt-leb, eqb-true}
use lib.Dec.{eqb}
use lib.ListN.{length, get_or, take, drop, length-append, take-append-drop, get_or-append}
use lib.Seq.{drop-cons, length-take-le}
use Rattle.utils.specs.Bytes.{pick}
use Rattle.pieces.specs.Classes.{is_blank, is_digit, is_letter}
use Rattle.pieces.specs.Tokens.{symbol}
use Rattle.pieces.specs.Pieces.{cursor, token, piece_at, token_from, symbol_at, then_value}
use Rattle.pieces.specs.declared.TokenValue.{TokenValue}
use Rattle.pieces.specs.declared.TokenValue.TheVariants as T
use Rattle.pieces.specs.declared.Lexed.TheVariants as L
use Rattle.pieces.proofs.Progress.{pick_either}
use Rattle.joined.specs.Runs.{Begins, Item, move_item, move_items, Run}
use Rattle.joined.proofs.Runs.{run_join, run_shift, run-front, run_back, Back, stop-at, start-at, end-at}

-- a token of one byte, in any text
pub symbol_piece : (s : List ℕ) (at line : ℕ) (v : TokenValue) → at < length s → symbol (get_or s at 0) ≡ Some v
    → piece_at s at line ≡ Ok (L.Token (token v line at) (cursor (at + 1) line))
unfolding piece_at token_from symbol_at then_value is_blank is_digit is_letter symbol pick
symbol_piece s at line v h =
    let b = get_or s at 0 in
    let over = lt-leb (length s) at h in
    pick_either P (eqb b 40) _ _ (λ e q. let f : T.LeftParen ≡ v = cc in rw (over, eqb-true (get_or s at 0) 40 e, ← f))
    (λ _.
    pick_either P (eqb b 41) _ _ (λ e q. let f : T.RightParen ≡ v = cc in rw (over, eqb-true (get_or s at 0) 41 e, ← f))
    (λ _.
    pick_either P (eqb b 123) _ _ (λ e q. let f : T.LeftBrace ≡ v = cc in rw (over, eqb-true (get_or s at 0) 123 e, ← f))
    (λ _.
    pick_either P (eqb b 125) _ _
    (λ e q. let f : T.RightBrace ≡ v = cc in rw (over, eqb-true (get_or s at 0) 125 e, ← f)) (λ _.
    pick_either P (eqb b 58) _ _ (λ e q. let f : T.Colon ≡ v = cc in rw (over, eqb-true (get_or s at 0) 58 e, ← f)) (λ _.
    pick_either P (eqb b 59) _ _ (λ e q. let f : T.Semicolon ≡ v = cc in rw (over, eqb-true (get_or s at 0) 59 e, ← f))
    (λ _.
    pick_either P (eqb b 61) _ _ (λ e q. let f : T.Define ≡ v = cc in rw (over, eqb-true (get_or s at 0) 61 e, ← f)) (λ _.
    pick_either P (eqb b 44) _ _ (λ e q. let f : T.Comma ≡ v = cc in rw (over, eqb-true (get_or s at 0) 44 e, ← f))
    (λ _ q. absurd (let z : ◌≡◌ {A = ℕ} 0 1 = cc in omega arith)))))))))
  where
    P : Option TokenValue → Type 0
    P o = o ≡ Some v → piece_at s at line ≡ Ok (L.Token (token v line at) (cursor (at + 1) line))

-- Runs in a text with more behind it. ------------------------------------------------------------------------------

-- a run that ends before the text's end
pub run-inner : (s v : List ℕ) {at line a l : ℕ} {is : List Item} → Run s at line is a l → at ≤ length s → a < length s
    → Run (s ++ v) at line is a l
run-inner s v {at} {line} {a} {l} {is} r h k =
    let front = take a s in
    let b = get_or s a 0 in
    let rest = drop (suc a) s in
    let n : length front ≡ a = length-take-le a s (omega arith) in
    let e : front ++ (b ∷ rest) ≡ s = rw (← drop-cons s a 0 k) (take-append-drop a s) in
    let f : front ++ (b ∷ (rest ++ v)) ≡ s ++ v = sym (append_assoc front (b ∷ rest) v) ∙ ap
    (λ (t : List ℕ). t ++ v) e in
    let r' : Run (front ++ (b ∷ rest)) at line is a l = rw e r in
    rw f at (run-front front {u = b ∷ rest} {u' = b ∷ (rest ++ v)} Begins.alike r' (rw e h) (omega arith))

-- a run to the text's end whose last piece is a token of one byte
pub run-symbol : (s v : List ℕ) {at line a l : ℕ} {is : List Item} (x : TokenValue) → Run s at line is a l
    → at ≤ length s
    → a + 1 ≡ length s → symbol (get_or s a 0) ≡ Some x
    → Run (s ++ v) at line (is ++ (Item.plain (token x l a) ∷ [])) (length s) l
run-symbol s v {a = a} {l = l} x r h k e =
    let n = length-append s v in
    let same : get_or (s ++ v) a 0 ≡ get_or s a 0 = get_or-append s v 0 a (omega arith) in
    run_join (run-inner s v r h (omega arith))
    (Run.plain (symbol_piece (s ++ v) a l x (omega arith) (rw same e)) (stop-at k refl))

-- two runs, one behind the other
pub run_append : (s u : List ℕ) (down first : ℕ) {line last : ℕ} {is js : List Item}
    → Run (s ++ u) 0 line is (length s) (down + first) → Run u 0 first js (length u) last
    → Run (s ++ u) 0 line (is ++ move_items (length s) down js) (length (s ++ u)) (down + last)
run_append s u down first r q =
    let z : length s + 0 ≡ length s = omega arith in
    run_join r (start-at z refl (end-at (sym (length-append s u)) refl (run_shift s down q)))

-- Three parts. -----------------------------------------------------------------------------------------------------

pub move_append : (by down : ℕ) (is js : List Item) → move_items by down (is ++ js)
    ≡ move_items by down is ++ move_items by down js
unfolding move_items
move_append by down [] js = refl
move_append by down (i ∷ is) js = ap (λ (l : List Item). move_item by down i ∷ l) (move_append by down is js)

move_item_twice : (by down by' down' : ℕ) (i : Item)
    → move_item by down (move_item by' down' i) ≡ move_item (by + by') (down + down') i
move_item_twice by down by' down' (Item.spelled n) =
    let e : by + (by' + n.place) ≡ by + by' + n.place = omega arith in
    let f : down + (down' + n.line.0) ≡ down + down' + n.line.0 = omega arith in
    rw (e, f)
move_item_twice by down by' down' (Item.plain t) =
    let e : by + (by' + t.place) ≡ by + by' + t.place = omega arith in
    let f : down + (down' + t.line.0) ≡ down + down' + t.line.0 = omega arith in
    rw (e, f)

pub move_twice : (by down by' down' : ℕ) (is : List Item)
    → move_items by down (move_items by' down' is) ≡ move_items (by + by') (down + down') is
unfolding move_items
move_twice by down by' down' [] = refl
move_twice by down by' down' (i ∷ is) = rw (move_item_twice by down by' down' i, move_twice by down by' down' is)

-- The old text is pre, f and post, cut at both ends of f.
module _ (pre f post : List ℕ) {line l₁ l₂ last : ℕ} {A C : List Item} {b : ℕ} {f' : List ℕ} (begins : f ≡ b ∷ f')
    (old_front : Run (pre ++ (f ++ post)) 0 line A (length pre) l₁)
    (old_back : Run (pre ++ (f ++ post)) (length pre + length f) l₂ C (length (pre ++ (f ++ post))) last) where
  -- post alone, read from line 0
  pub post_alone : Back (pre ++ f) post l₂ 0 0 C (length (pre ++ f ++ post)) last
  post_alone =
      let n : length pre + length f ≡ length (pre ++ f) + 0 = omega (arith, length-append pre f) in
      let l : l₂ ≡ l₂ + 0 = omega arith in
      let r : Run (pre ++ (f ++ post)) (length (pre ++ f) + 0) (l₂ + 0) C (length (pre ++ (f ++ post))) last =
      start-at n l old_back in
      run_back (pre ++ f) post l₂ 0 0 (rw (← append_assoc pre f post) at r)

  pub post_run : Run post 0 0 post_alone.items (length post) post_alone.last
  post_run =
      let e : post_alone.place ≡ length post =
      omega (arith, post_alone.same_place, length-append (pre ++ f) post) in
      end-at e refl post_alone.run

  -- The new part begins as f does and ends with a token of one byte.
  module _ (new : List ℕ) {n' : List ℕ} (begins' : new ≡ b ∷ n') (down first : ℕ) {a l : ℕ} {N : List Item}
      (x : TokenValue)
      (line-there : l₁ ≡ down + first) (new-run : Run new 0 first N a l) (one : a + 1 ≡ length new)
      (symbol-last : symbol (get_or new a 0) ≡ Some x) where
    -- pre reads as in the old text
    pub pre_kept : Run (pre ++ (new ++ post)) 0 line A (length pre) l₁
    pre_kept =
        run-front pre {u = f ++ post} {u' = new ++ post} (rw (begins, begins') Begins.alike) old_front (omega arith)
        (omega arith)

    -- all of the edited text: pre as in the old, the new part as alone, moved, and post as alone, moved
    pub edited_run : Run (pre ++ (new ++ post)) 0 line
        (A ++ (move_items (length pre) down (N ++ (Item.plain (token x l a) ∷ []))
        ++ move_items (length pre + length new) (down + l) post_alone.items))
        (length (pre ++ (new ++ post))) (down + (l + post_alone.last))
    edited_run =
        let inner = run-symbol new post x new-run (omega arith) one symbol-last in
        let z : l ≡ l + 0 = omega arith in
        let both = run_append new post l 0 (end-at refl z inner) post_run in
        let all = run_append pre (new ++ post) down first (end-at refl line-there pre_kept) both in
        rw (
          move_append (length pre) down (N ++ (Item.plain (token x l a) ∷ []))
              (move_items (length new) l post_alone.items),
          move_twice (length pre) down (length new) l post_alone.items,
        ) at all
