-- Each record, stored when its block is closed and again with what enters it, is that of `block_cells`; the successors
-- read back from the records are those of the blocks.
use Prim.Native.Nat.{ℕ, zero, suc, ◌+◌, ◌*◌, ◌≤◌, ◌<◌}
use mathlib.Core.Path.{◌≡◌, refl, sym, ap, ◌∙◌}
use mathlib.Core.List.{List, [], ◌∷◌, ◌++◌}
use native.Mathlib.Omega.{arith}
use native.Mathlib.Nat.{add-zero}
use borrow.Author.Tests.{ne_eqb}
use lib.Dec.{eqb}
use lib.ListN.{length, get_or, set, length-set}
use lib.Seq.{sets, length-sets, get_or-set_same, get_or-set_other, set-set, set_comm}
use Rattle.utils.proofs.Runs.{sets_append}
use Rattle.graph.specs.Records.{block_record, cells_of, block_at, successors_of, recorded}
use Rattle.graph.specs.declared.BlockRecord.{BlockRecord}
use Rattle.graph.proofs.Rows.{counted_is}
use Rattle.link.specs.Blocks.{Block}
use Rattle.link.specs.Edges.{places, successors, predecessors, is_none, is_dead}
use Rattle.link.specs.Cells.{bit, block_cells, predecessor_cells}
use Rattle.link.specs.Steps.{closed_of, put_closed, links_from, entries_from, mark_of, entered_by, put_entered}
use Rattle.link.proofs.Edges.{Thin, places-few}

-- Stores and reads apart. -------------------------------------------------------------------------------------------

sets-before : (vs l : List ℕ) (m i : ℕ) → i < m → get_or (sets l m vs) i 0 ≡ get_or l i 0
sets-before [] l m i h = refl
sets-before (v ∷ vs) l m i h =
    sets-before vs (set l m v) (suc m) i (omega arith) ∙ get_or-set_other l m i v 0 (λ e. omega arith)

sets-at : (vs l : List ℕ) (i n : ℕ) → n < length vs → i + length vs ≤ length l → get_or (sets l i vs) (i + n) 0 ≡ get_or
    vs n 0
sets-at [] l i n h f = absurd (omega arith)
sets-at (v ∷ vs) l i zero h f =
    rw add-zero (sets-before vs (set l i v) (suc i) i (omega arith) ∙ get_or-set_same l i v 0 (omega arith))
sets-at (v ∷ vs) l i (suc n) h f =
    let e : i + suc n ≡ suc i + n = omega arith in
    rw e (sets-at vs (set l i v) (suc i) n (omega arith) (simp length-set (omega arith)))

set_aside : (vs l : List ℕ) (m i v : ℕ) → i < m → set (sets l m vs) i v ≡ sets (set l i v) m vs
set_aside [] l m i v h = refl
set_aside (w ∷ vs) l m i v h =
    set_aside vs (set l m w) (suc m) i v (omega arith)
    ∙ ap (λ (x : List ℕ). sets x (suc m) vs) (set_comm l m i w v (λ e. omega arith))

-- a store in the place of another
sets_over : (xs ys l : List ℕ) (i : ℕ) → length xs ≡ length ys → sets (sets l i xs) i ys ≡ sets l i ys
sets_over [] [] l i h = refl
sets_over [] (y ∷ ys) l i h = absurd (omega arith)
sets_over (x ∷ xs) [] l i h = absurd (omega arith)
sets_over (x ∷ xs) (y ∷ ys) l i h =
    ap (λ (z : List ℕ). sets z (suc i) ys)
    (set_aside xs (set l i x) (suc i) i y (omega arith) ∙ ap (λ (z : List ℕ). sets z (suc i) xs) (set-set l i x y))
    ∙ sets_over xs ys (set l i y) (suc i) (omega arith)

-- Records of later blocks. ------------------------------------------------------------------------------------------

closed-before : (all bs : List Block) (first : ℕ) (l : List ℕ) (m i : ℕ) → i < m * 8
    → get_or (put_closed all first l m bs) i 0 ≡ get_or l i 0
unfolding put_closed
closed-before all [] first l m i h = refl
closed-before all (b ∷ bs) first l m i h =
    let cells = cells_of (closed_of first b (places all b.goes)) in
    closed-before all bs first (sets l (m * 8) cells) (m + 1) i (omega arith) ∙ sets-before cells l (m * 8) i h

closed_aside : (all bs : List Block) (first : ℕ) (l : List ℕ) (m i v : ℕ) → i < m * 8
    → set (put_closed all first l m bs) i v ≡ put_closed all first (set l i v) m bs
unfolding put_closed
closed_aside all [] first l m i v h = refl
closed_aside all (b ∷ bs) first l m i v h =
    let cells = cells_of (closed_of first b (places all b.goes)) in
    closed_aside all bs first (sets l (m * 8) cells) (m + 1) i v (omega arith)
    ∙ ap (λ (x : List ℕ). put_closed all first x (m + 1) bs) (set_aside cells l (m * 8) i v h)

record_aside : (vs : List ℕ) (all bs : List Block) (first : ℕ) (l : List ℕ) (m i : ℕ) → i + length vs ≤ m * 8
    → sets (put_closed all first l m bs) i vs ≡ put_closed all first (sets l i vs) m bs
record_aside [] all bs first l m i h = refl
record_aside (v ∷ vs) all bs first l m i h =
    ap (λ (x : List ℕ). sets x (suc i) vs) (closed_aside all bs first l m i v (omega arith))
    ∙ record_aside vs all bs first (set l i v) m (suc i) (omega arith)

-- record k, read back
record_back : (all bs : List Block) (first : ℕ) (l : List ℕ) (k : ℕ) (b : BlockRecord) → k * 8 + 8 ≤ length l
    → block_at (put_closed all first (sets l (k * 8) (cells_of b)) (k + 1) bs) k ≡ b
record_back all bs first l k b h =
    let at : (n : ℕ) → n < 8
    → get_or (put_closed all first (sets l (k * 8) (cells_of b)) (k + 1) bs) (k * 8 + n) 0 ≡ get_or (cells_of b) n 0 =
    λ n less. closed-before all bs first (sets l (k * 8) (cells_of b)) (k + 1) (k * 8 + n) (omega arith)
    ∙ sets-at (cells_of b) l (k * 8) n less h in
    rw (
      rw add-zero at (at 0 (omega arith)),
      at 1 (omega arith),
      at 2 (omega arith),
      at 3 (omega arith),
      at 4 (omega arith),
      at 5 (omega arith),
      at 6 (omega arith),
      at 7 (omega arith),
    )

-- Successors read back. ---------------------------------------------------------------------------------------------

pub links_back : (all bs : List Block) (first base k : ℕ) (l : List ℕ) → Thin bs
    → (base + k + length bs) * 8 ≤ length l
    → links_from (recorded (put_closed all first l (base + k) bs) base) k (length bs) ≡ successors all bs
unfolding links_from put_closed successors
links_back all [] first base k l t h = refl
links_back all (b ∷ bs) first base k l t h =
    let s = places all b.goes in
    let cells = cells_of (closed_of first b s) in
    let e : base + k + 1 ≡ base + (k + 1) = omega arith in
    let long = length-sets l ((base + k) * 8) cells in
    let after = put_closed all first (sets l ((base + k) * 8) cells) (base + k + 1) bs in
    let here : recorded after base k ≡ s =
    ap successors_of (record_back all bs first l (base + k) (closed_of first b s) (omega arith))
    ∙ counted_is s (omega (arith, places-few all b.goes, t.0)) in
    let rest = links_back all bs first base (k + 1) (sets l ((base + k) * 8) cells) t.1 (omega (arith, long)) in
    ap (λ (x : List ℕ). x ∷ links_from (recorded after base) (k + 1) (length bs)) here
    ∙ ap (λ (x : List (List ℕ)). s ∷ x) (rw e rest)

-- Eight cells a record. ---------------------------------------------------------------------------------------------

none_is : (xs : List ℕ) → is_none xs ≡ eqb (length xs) 0
none_is [] = refl
none_is (x ∷ xs) = sym (ne_eqb (length (x ∷ xs)) 0 (λ e. omega arith))

mark_is : (j : ℕ) (all : List (List ℕ)) → bit (is_dead j all) ≡ mark_of j (length (predecessors j 0 all))
unfolding is_dead
mark_is j all = rw (none_is (predecessors j 0 all))

pub records-whole : (all : List Block) (links : List (List ℕ)) (first : ℕ) (bs : List Block) (j used : ℕ) (l : List ℕ)
    (k : ℕ) → (k + length bs) * 8 ≤ length l
    → put_entered j used links (put_closed all first l k bs) k (length bs)
    ≡ sets l (k * 8) (block_cells first used j links (successors all bs) bs)
unfolding put_entered put_closed block_cells successors
records-whole all links first [] j used l k h = refl
records-whole all links first (b ∷ bs) j used l k h =
    let s = places all b.goes in
    let n = length (predecessors j 0 links) in
    let closed = closed_of first b s in
    let old = sets l (k * 8) (cells_of closed) in
    let whole = cells_of (entered_by closed j used n) in
    let next = put_closed all first old (k + 1) bs in
    let more = block_cells first (used + n) (j + 1) links (successors all bs) bs in
    let e : (k + 1) * 8 ≡ k * 8 + 8 = omega arith in
    let again : sets next (k * 8) (cells_of (entered_by (block_at next k) j used n))
    ≡ put_closed all first (sets l (k * 8) whole) (k + 1) bs =
    ap (λ (x : BlockRecord). sets next (k * 8) (cells_of (entered_by x j used n)))
    (record_back all bs first l k closed (omega arith))
    ∙ record_aside whole all bs first old (k + 1) (k * 8) (omega arith)
    ∙ ap (λ (x : List ℕ). put_closed all first x (k + 1) bs) (sets_over (cells_of closed) whole l (k * 8) refl) in
    ap (λ (x : List ℕ). put_entered (j + 1) (used + n) links x (k + 1) (length bs)) again
    ∙ records-whole all links first bs (j + 1) (used + n) (sets l (k * 8) whole) (k + 1)
    (omega (arith, length-sets l (k * 8) whole))
    ∙ rw e (sym (sets_append whole more l (k * 8)))
    ∙ ap (λ (m : ℕ). sets l (k * 8)
    (cells_of (block_record (first + b.first) b.operations (length s) (get_or s 0 0) (get_or s 1 0) used n m) ++ more))
    (sym (mark_is j links))

pub entries_are : (bs : List Block) (j : ℕ) (links : List (List ℕ))
    → entries_from j links (length bs) ≡ predecessor_cells j links bs
unfolding entries_from predecessor_cells
entries_are [] j links = refl
entries_are (b ∷ bs) j links = ap (λ (x : List ℕ). predecessors j 0 links ++ x) (entries_are bs (j + 1) links)
