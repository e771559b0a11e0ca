-- Runs of pieces: they can be joined, split before a name or a token, moved behind another text and back, and read with
-- something else behind them. From the pieces of a text to its run, and back.
use Rattle.std.specs.Prelude.{Result, Ok, Err}
use Prim.Native.Nat.{ℕ, zero, suc, ◌+◌, ◌≤◌, ◌<◌}
use mathlib.Core.Path.{◌≡◌, refl, sym, ap, ◌∙◌}
use mathlib.Core.List.{List, [], ◌∷◌, ◌++◌}
use native.Mathlib.Omega.{arith}
use lib.ListN.{length}
use Rattle.pieces.specs.Pieces.{cursor, piece_at, Pieces, on_piece, pieces_from}
use Rattle.pieces.specs.declared.Cursor.{Cursor}
use Rattle.pieces.specs.declared.Token.{Token}
use Rattle.pieces.specs.declared.Name.{Name}
use Rattle.pieces.specs.declared.Lexed.{Lexed}
use Rattle.pieces.specs.declared.Lexed.TheVariants as L
use Rattle.pieces.proofs.Progress.{Past, piece_past}
use Rattle.joined.specs.Moves.{move_cursor, move_token, move_name, move_piece}
use Rattle.joined.specs.Runs.{EndsBy, Begins, Item, before, place_of, line_of, move_items, Run}
use Rattle.joined.proofs.Shift.{piece_shift}
use Rattle.joined.proofs.Front.{piece_front}
use Rattle.pieces.specs.declared.Refusal.{Refusal}

-- what a piece has passed, where it is known
pub past_of : (s : List ℕ) (at line : ℕ) (l : Result Lexed Refusal) → piece_at s at line ≡ l → at ≤ length s
    → Past (length s) at line l
past_of s at line l e h = rw e at (piece_past s at line h)

-- A run goes on and stays in the text.
pub run_range : {s : List ℕ} {at line at' line' : ℕ} {is : List Item} → Run s at line is at' line' → at ≤ length s
    → (at ≤ at') × (at' ≤ length s)
run_range Run.stop h = omega arith
run_range {s} {at} {line} (Run.skip {a = a} {l = l} e r) h =
    let p = past_of s at line (Ok (L.Skipped (cursor a l))) e h in
    omega (arith, run_range r p.within, p.on)
run_range {s} {at} {line} (Run.spelled {a = a} {l = l} {n = n} e r) h =
    let p = past_of s at line (Ok (L.Name n (cursor a l))) e h in
    omega (arith, run_range r p.within, p.on)
run_range {s} {at} {line} (Run.plain {a = a} {l = l} {t = t} e r) h =
    let p = past_of s at line (Ok (L.Token t (cursor a l))) e h in
    omega (arith, run_range r p.within, p.on)

pub run_join : {s : List ℕ} {at line at' line' at'' line'' : ℕ} {is js : List Item} → Run s at line is at' line'
    → Run s at' line' js at'' line'' → Run s at line (is ++ js) at'' line''
run_join Run.stop q = q
run_join (Run.skip e r) q = Run.skip e (run_join r q)
run_join (Run.spelled e r) q = Run.spelled e (run_join r q)
run_join (Run.plain e r) q = Run.plain e (run_join r q)

-- Behind p.
pub run_shift : (p : List ℕ) (down : ℕ) {s : List ℕ} {at line at' line' : ℕ} {is : List Item}
    → Run s at line is at' line'
    → Run (p ++ s) (length p + at) (down + line) (move_items (length p) down is) (length p + at') (down + line')
unfolding move_items
run_shift p down Run.stop = Run.stop
run_shift p down {s} {at} {line} (Run.skip e r) =
    Run.skip (piece_shift p s down at line ∙ ap (move_piece (length p) down) e) (run_shift p down r)
run_shift p down {s} {at} {line} (Run.spelled e r) =
    Run.spelled (piece_shift p s down at line ∙ ap (move_piece (length p) down) e) (run_shift p down r)
run_shift p down {s} {at} {line} (Run.plain e r) =
    Run.plain (piece_shift p s down at line ∙ ap (move_piece (length p) down) e) (run_shift p down r)

-- With something else behind it.
module _ (s : List ℕ) {u u' : List ℕ} (g : Begins u u') where
  front : (at line : ℕ) (l : Result Lexed Refusal) → piece_at (s ++ u) at line ≡ l → EndsBy (length s) l → at < length s
      → piece_at (s ++ u') at line ≡ l
  front at line l e k h = piece_front s g at line h (rw e k) ∙ e

  pub run-front : {at line at' line' : ℕ} {is : List Item} → Run (s ++ u) at line is at' line' → at ≤ length (s ++ u)
      → at' ≤ length s → Run (s ++ u') at line is at' line'
  run-front Run.stop h k = Run.stop
  run-front {at} {line} (Run.skip {a = a} {l = l} e r) h k =
      let p = past_of (s ++ u) at line (Ok (L.Skipped (cursor a l))) e h in
      let q = run_range r p.within in
      let m : a ≤ length s = omega arith in
      Run.skip (front at line (Ok (L.Skipped (cursor a l))) e m (omega (arith, p.on))) (run-front r p.within k)
  run-front {at} {line} (Run.spelled {a = a} {l = l} {n = n} e r) h k =
      let p = past_of (s ++ u) at line (Ok (L.Name n (cursor a l))) e h in
      let q = run_range r p.within in
      let m : a ≤ length s = omega arith in
      Run.spelled (front at line (Ok (L.Name n (cursor a l))) e m (omega (arith, p.on))) (run-front r p.within k)
  run-front {at} {line} (Run.plain {a = a} {l = l} {t = t} e r) h k =
      let p = past_of (s ++ u) at line (Ok (L.Token t (cursor a l))) e h in
      let q = run_range r p.within in
      let m : a ≤ length s = omega arith in
      Run.plain (front at line (Ok (L.Token t (cursor a l))) e m (omega (arith, p.on))) (run-front r p.within k)

-- Runs and pieces. -------------------------------------------------------------------------------------------------

-- the turns allowed don't matter, if they are enough
pub turns_alike : (n m : ℕ) (s : List ℕ) (at line : ℕ) → at ≤ length s → length s < n + at → length s < m + at
    → pieces_from n s at line ≡ pieces_from m s at line
unfolding pieces_from on_piece
turns_alike zero m s at line h g k = absurd (omega arith)
turns_alike (suc n) zero s at line h g k = absurd (omega arith)
turns_alike (suc n) (suc m) s at line h g k =
    on (λ at' line'. turns_alike n m s at' line') (piece_at s at line) (piece_past s at line h)
  where
    on : ((at' line' : ℕ) → at' ≤ length s → length s < n + at' → length s < m + at'
        → pieces_from n s at' line' ≡ pieces_from m s at' line')
        → (l : Result Lexed Refusal) → Past (length s) at line l
        → on_piece (λ c. pieces_from n s c.place c.line) l ≡ on_piece (λ c. pieces_from m s c.place c.line) l
    on later (Ok (L.Skipped c)) p = later c.place c.line p.within (omega (arith, p.on)) (omega (arith, p.on))
    on later (Ok (L.Name x c)) p =
        ap (Pieces.spelled x) (later c.place c.line p.within (omega (arith, p.on)) (omega (arith, p.on)))
    on later (Ok (L.Token t c)) p =
        ap (Pieces.plain t) (later c.place c.line p.within (omega (arith, p.on)) (omega (arith, p.on)))
    on later (Ok (L.End c)) p = refl
    on later (Err r) p = refl

-- the pieces from a run's start are its items, then the pieces from its end
pub pieces-of-run : {s : List ℕ} (n m : ℕ) {at line at' line' : ℕ} {is : List Item} → Run s at line is at' line'
    → at ≤ length s → length s < n + at → length s < m + at'
    → pieces_from n s at line ≡ before is (pieces_from m s at' line')
unfolding pieces_from on_piece before
pieces-of-run {s} n m {at} {line} Run.stop h g k = turns_alike n m s at line h g k
pieces-of-run zero m (Run.skip e r) h g k = absurd (omega arith)
pieces-of-run zero m (Run.spelled e r) h g k = absurd (omega arith)
pieces-of-run zero m (Run.plain e r) h g k = absurd (omega arith)
pieces-of-run {s} (suc n) m {at} {line} (Run.skip {a = a} {l = l} e r) h g k =
    let p = past_of s at line (Ok (L.Skipped (cursor a l))) e h in
    rw e (pieces-of-run n m r p.within (omega (arith, p.on)) k)
pieces-of-run {s} (suc n) m {at} {line} (Run.spelled {a = a} {l = l} {n = x} e r) h g k =
    let p = past_of s at line (Ok (L.Name x (cursor a l))) e h in
    rw e (ap (Pieces.spelled x) (pieces-of-run n m r p.within (omega (arith, p.on)) k))
pieces-of-run {s} (suc n) m {at} {line} (Run.plain {a = a} {l = l} {t = t} e r) h g k =
    let p = past_of s at line (Ok (L.Token t (cursor a l))) e h in
    rw e (ap (Pieces.plain t) (pieces-of-run n m r p.within (omega (arith, p.on)) k))

-- A run's ends under another name.
pub stop-at : {s : List ℕ} {at line a l : ℕ} → at ≡ a → line ≡ l → Run s at line [] a l
stop-at e f = rw (← e, ← f) Run.stop

pub start-at : {s : List ℕ} {at line a l at' line' : ℕ} {is : List Item} → at ≡ a → line ≡ l
    → Run s at line is at' line'
    → Run s a l is at' line'
start-at e f r = rw (← e, ← f) r

pub end-at : {s : List ℕ} {at line a l at' line' : ℕ} {is : List Item} → at' ≡ a → line' ≡ l
    → Run s at line is at' line'
    → Run s at line is a l
end-at e f r = rw (← e, ← f) r

-- A text that is read to its end: its items, and the last line.
pub run_of-pieces : (n : ℕ) (s : List ℕ) (at line : ℕ) (is : List Item) (c : Cursor) → at ≤ length s
    → pieces_from n s at line ≡ before is (Pieces.end c) → Run s at line is (length s) c.line × (c.place ≡ length s)
unfolding pieces_from on_piece before
run_of-pieces zero s at line [] c h e = absurd (let z : ◌≡◌ {A = ℕ} 0 1 = cc in omega arith)
run_of-pieces zero s at line (Item.spelled x ∷ is) c h e = absurd (let z : ◌≡◌ {A = ℕ} 0 1 = cc in omega arith)
run_of-pieces zero s at line (Item.plain x ∷ is) c h e = absurd (let z : ◌≡◌ {A = ℕ} 0 1 = cc in omega arith)
run_of-pieces (suc n) s at line is c h e =
    on (λ at' line' is'. run_of-pieces n s at' line' is' c) (piece_at s at line) refl (piece_past s at line h) is e
  where
    on : ((at' line' : ℕ) (is' : List Item) → at' ≤ length s → pieces_from n s at' line' ≡ before is' (Pieces.end c)
        → Run s at' line' is' (length s) c.line × (c.place ≡ length s))
        → (l : Result Lexed Refusal) → piece_at s at line ≡ l → Past (length s) at line l → (is : List Item)
        → on_piece (λ c. pieces_from n s c.place c.line) l ≡ before is (Pieces.end c)
        → Run s at line is (length s) c.line × (c.place ≡ length s)
    on later (Ok (L.Skipped d)) q p is e =
        let z = later d.place d.line is p.within e in
        (Run.skip q z.0, z.1)
    on later (Ok (L.Name x d)) q p [] e = absurd (let z : ◌≡◌ {A = ℕ} 0 1 = cc in omega arith)
    on later (Ok (L.Name x d)) q p (Item.spelled y ∷ is) e =
        let f : x ≡ y = cc in
        let z = later d.place d.line is p.within (cc) in
        (Run.spelled (q ∙ ap (λ (z : Name). Ok (L.Name z d)) f) z.0, z.1)
    on later (Ok (L.Name x d)) q p (Item.plain y ∷ is) e = absurd (let z : ◌≡◌ {A = ℕ} 0 1 = cc in omega arith)
    on later (Ok (L.Token t d)) q p [] e = absurd (let z : ◌≡◌ {A = ℕ} 0 1 = cc in omega arith)
    on later (Ok (L.Token t d)) q p (Item.spelled y ∷ is) e = absurd (let z : ◌≡◌ {A = ℕ} 0 1 = cc in omega arith)
    on later (Ok (L.Token t d)) q p (Item.plain y ∷ is) e =
        let f : t ≡ y = cc in
        let z = later d.place d.line is p.within (cc) in
        (Run.plain (q ∙ ap (λ (z : Token). Ok (L.Token z d)) f) z.0, z.1)
    on later (Ok (L.End d)) q p [] e =
        let f : d ≡ c = cc in
        let g : at ≡ length s = omega (arith, p.at_end) in
        let l : line ≡ c.line = sym p.same_line ∙ ap (λ (x : Cursor). x.line) f in
        (stop-at g l, sym (ap (λ (x : Cursor). x.place) f) ∙ p.same_place ∙ g)
    on later (Ok (L.End d)) q p (Item.spelled y ∷ is) e = absurd (let z : ◌≡◌ {A = ℕ} 0 1 = cc in omega arith)
    on later (Ok (L.End d)) q p (Item.plain y ∷ is) e = absurd (let z : ◌≡◌ {A = ℕ} 0 1 = cc in omega arith)
    on later (Err r) q p [] e = absurd (let z : ◌≡◌ {A = ℕ} 0 1 = cc in omega arith)
    on later (Err r) q p (Item.spelled y ∷ is) e = absurd (let z : ◌≡◌ {A = ℕ} 0 1 = cc in omega arith)
    on later (Err r) q p (Item.plain y ∷ is) e = absurd (let z : ◌≡◌ {A = ℕ} 0 1 = cc in omega arith)

-- Split before an item, with what is skipped before it in the first part. ------------------------------------------

split_from : {s : List ℕ} {at line at'' line'' : ℕ} {ks : List Item} → Run s at line ks at'' line'' → at ≤ length s
    → (is : List Item) (i : Item) (js : List Item) → ks ≡ is ++ (i ∷ js)
    → Run s at line is (place_of i) (line_of i) × Run s (place_of i) (line_of i) (i ∷ js) at'' line''
split_from Run.stop h [] i js q = absurd (let z : ◌≡◌ {A = ℕ} 0 1 = cc in omega arith)
split_from Run.stop h (k ∷ is) i js q = absurd (let z : ◌≡◌ {A = ℕ} 0 1 = cc in omega arith)
split_from {s} {at} {line} (Run.skip {a = a} {l = l} e r) h is i js q =
    let p = past_of s at line (Ok (L.Skipped (cursor a l))) e h in
    let z = split_from r p.within is i js q in
    (Run.skip e z.0, z.1)
split_from {s} {at} {line} (Run.spelled {a = a} {l = l} {n = n} {is = ks} e r) h [] i js q =
    let p = past_of s at line (Ok (L.Name n (cursor a l))) e h in
    let f : Item.spelled n ≡ i = cc in
    let g : ks ≡ js = cc in
    rw (← f, ← g) (
      stop-at (sym p.name_place) (sym p.name_line),
      start-at (sym p.name_place) (sym p.name_line)
          (Run.spelled e r),
    )
split_from {s} {at} {line} (Run.spelled {a = a} {l = l} {n = n} {is = ks} e r) h (k ∷ is) i js q =
    let p = past_of s at line (Ok (L.Name n (cursor a l))) e h in
    let f : Item.spelled n ≡ k = cc in
    let z = split_from r p.within is i js (cc) in
    (rw (← f) (Run.spelled e z.0), z.1)
split_from {s} {at} {line} (Run.plain {a = a} {l = l} {t = t} {is = ks} e r) h [] i js q =
    let p = past_of s at line (Ok (L.Token t (cursor a l))) e h in
    let f : Item.plain t ≡ i = cc in
    let g : ks ≡ js = cc in
    rw (← f, ← g) (
      stop-at (sym p.token_place) (sym p.token_line),
      start-at (sym p.token_place) (sym p.token_line)
          (Run.plain e r),
    )
split_from {s} {at} {line} (Run.plain {a = a} {l = l} {t = t} {is = ks} e r) h (k ∷ is) i js q =
    let p = past_of s at line (Ok (L.Token t (cursor a l))) e h in
    let f : Item.plain t ≡ k = cc in
    let z = split_from r p.within is i js (cc) in
    (rw (← f) (Run.plain e z.0), z.1)

pub run-split : {s : List ℕ} {at line at'' line'' : ℕ} (is : List Item) (i : Item) (js : List Item)
    → Run s at line (is ++ (i ∷ js)) at'' line'' → at ≤ length s
    → Run s at line is (place_of i) (line_of i) × Run s (place_of i) (line_of i) (i ∷ js) at'' line''
run-split is i js r h = split_from r h is i js refl

-- Back from behind p. ----------------------------------------------------------------------------------------------

-- what a run behind p is alone
pub record Back (p s : List ℕ) (down at line : ℕ) (is : List Item) (a l : ℕ) : Type 0 where
  pub items : List Item
  pub place : ℕ
  pub last : ℕ
  pub run : Run s at line items place last
  pub same_items : is ≡ move_items (length p) down items
  pub same_place : a ≡ length p + place
  pub same_line : l ≡ down + last

module _ (p s : List ℕ) (down : ℕ) {at line a l : ℕ} {is : List Item} {c : Cursor} where
  back_skipped : piece_at s at line ≡ Ok (L.Skipped c) → Back p s down c.place c.line is a l
      → Back p s down at line is a l
  back_skipped g z =
      record {
        items = z.items;
        place = z.place;
        last = z.last;
        run = Run.skip g z.run;
        same_items = z.same_items;
        same_place = z.same_place;
        same_line = z.same_line;
      }

  back_named : {n n₀ : Name} → n ≡ move_name (length p) down n₀ → piece_at s at line ≡ Ok (L.Name n₀ c)
      → Back p s down c.place c.line is a l → Back p s down at line (Item.spelled n ∷ is) a l
  unfolding move_items
  back_named {n₀ = n₀} h g z =
      record {
        items = Item.spelled n₀ ∷ z.items;
        place = z.place;
        last = z.last;
        run = Run.spelled g z.run;
        same_items = rw (h, ← z.same_items);
        same_place = z.same_place;
        same_line = z.same_line;
      }

  back_plain : {t t₀ : Token} → t ≡ move_token (length p) down t₀ → piece_at s at line ≡ Ok (L.Token t₀ c)
      → Back p s down c.place c.line is a l → Back p s down at line (Item.plain t ∷ is) a l
  unfolding move_items
  back_plain {t₀ = t₀} h g z =
      record {
        items = Item.plain t₀ ∷ z.items;
        place = z.place;
        last = z.last;
        run = Run.plain g z.run;
        same_items = rw (h, ← z.same_items);
        same_place = z.same_place;
        same_line = z.same_line;
      }

module _ (p s : List ℕ) (down : ℕ) where
  known : (at line : ℕ) {a l : ℕ} {x : Result Lexed Refusal} → a ≡ length p + at → l ≡ down + line
      → piece_at (p ++ s) a l ≡ x
      → move_piece (length p) down (piece_at s at line) ≡ x
  known at line e f q = sym (piece_shift p s down at line) ∙ rw (← e, ← f) q

  back_from : {a l a'' l'' : ℕ} {is : List Item} → Run (p ++ s) a l is a'' l'' → (at line : ℕ)
      → a ≡ length p + at → l ≡ down + line → Back p s down at line is a'' l''
  unfolding move_items
  back_from Run.stop at line e f =
      record { items = []; place = at; last = line; run = Run.stop; same_items = refl; same_place = e; same_line = f }
  back_from {a} {l} {a''} {l''} {is} (Run.skip {a = b} {l = m} q r) at line e f =
      on (λ at' line'. back_from r at' line') (piece_at s at line) refl (known at line e f q)
    where
      on : ((at' line' : ℕ) → b ≡ length p + at' → m ≡ down + line' → Back p s down at' line' is a'' l'')
          → (x : Result Lexed Refusal) → piece_at s at line ≡ x
          → move_piece (length p) down x ≡ Ok (L.Skipped (cursor b m))
          → Back p s down at line is a'' l''
      on later (Ok (L.Skipped c)) g w =
          let k : cursor b m ≡ move_cursor (length p) down c = cc in
          back_skipped p s down g
          (later c.place c.line (ap (λ (d : Cursor). d.place) k) (ap (λ (d : Cursor). d.line) k))
      on later (Ok (L.Name n c)) g w = absurd (let z : ◌≡◌ {A = ℕ} 0 1 = cc in omega arith)
      on later (Ok (L.Token t c)) g w = absurd (let z : ◌≡◌ {A = ℕ} 0 1 = cc in omega arith)
      on later (Ok (L.End c)) g w = absurd (let z : ◌≡◌ {A = ℕ} 0 1 = cc in omega arith)
      on later (Err c) g w = absurd (let z : ◌≡◌ {A = ℕ} 0 1 = cc in omega arith)
  back_from {a'' = a''} {l'' = l''} (Run.spelled {a = b} {l = m} {n = n} {is = is} q r) at line e f =
      on (λ at' line'. back_from r at' line') (piece_at s at line) refl (known at line e f q)
    where
      on : ((at' line' : ℕ) → b ≡ length p + at' → m ≡ down + line' → Back p s down at' line' is a'' l'')
          → (x : Result Lexed Refusal) → piece_at s at line ≡ x
          → move_piece (length p) down x ≡ Ok (L.Name n (cursor b m))
          → Back p s down at line (Item.spelled n ∷ is) a'' l''
      on later (Ok (L.Skipped c)) g w = absurd (let z : ◌≡◌ {A = ℕ} 0 1 = cc in omega arith)
      on later (Ok (L.Name n₀ c)) g w =
          let k : cursor b m ≡ move_cursor (length p) down c = cc in
          let h : n ≡ move_name (length p) down n₀ = cc in
          back_named p s down h g
          (later c.place c.line (ap (λ (d : Cursor). d.place) k) (ap (λ (d : Cursor). d.line) k))
      on later (Ok (L.Token t c)) g w = absurd (let z : ◌≡◌ {A = ℕ} 0 1 = cc in omega arith)
      on later (Ok (L.End c)) g w = absurd (let z : ◌≡◌ {A = ℕ} 0 1 = cc in omega arith)
      on later (Err c) g w = absurd (let z : ◌≡◌ {A = ℕ} 0 1 = cc in omega arith)
  back_from {a'' = a''} {l'' = l''} (Run.plain {a = b} {l = m} {t = t} {is = is} q r) at line e f =
      on (λ at' line'. back_from r at' line') (piece_at s at line) refl (known at line e f q)
    where
      on : ((at' line' : ℕ) → b ≡ length p + at' → m ≡ down + line' → Back p s down at' line' is a'' l'')
          → (x : Result Lexed Refusal) → piece_at s at line ≡ x
          → move_piece (length p) down x ≡ Ok (L.Token t (cursor b m))
          → Back p s down at line (Item.plain t ∷ is) a'' l''
      on later (Ok (L.Skipped c)) g w = absurd (let z : ◌≡◌ {A = ℕ} 0 1 = cc in omega arith)
      on later (Ok (L.Name n c)) g w = absurd (let z : ◌≡◌ {A = ℕ} 0 1 = cc in omega arith)
      on later (Ok (L.Token t₀ c)) g w =
          let k : cursor b m ≡ move_cursor (length p) down c = cc in
          let h : t ≡ move_token (length p) down t₀ = cc in
          back_plain p s down h g
          (later c.place c.line (ap (λ (d : Cursor). d.place) k) (ap (λ (d : Cursor). d.line) k))
      on later (Ok (L.End c)) g w = absurd (let z : ◌≡◌ {A = ℕ} 0 1 = cc in omega arith)
      on later (Err c) g w = absurd (let z : ◌≡◌ {A = ℕ} 0 1 = cc in omega arith)

  pub run_back : (at line : ℕ) {a'' l'' : ℕ} {is : List Item} → Run (p ++ s) (length p + at) (down + line) is a'' l''
      → Back p s down at line is a'' l''
  run_back at line r = back_from r at line refl refl
