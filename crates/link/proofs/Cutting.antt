-- The items cut into blocks, one block a turn: what is left, resolved and stored from here, gives the whole.
use Rattle.std.specs.Prelude.{Err, Ok, Result}
use Prim.Native.Nat.{ℕ, zero, suc, ◌+◌, ◌-◌, ◌*◌, ◌≤◌, ◌<◌}
use mathlib.Core.Path.{◌≡◌, refl, sym, ap, subst, ◌∙◌}
use mathlib.Core.Bool.{Bool, true, false}
use mathlib.Core.List.{List, [], ◌∷◌, ◌++◌}
use native.Mathlib.Omega.{arith}
use native.Mathlib.Nat.{add-zero, zero-add, sub-zero}
use borrow.Author.Tests.{eq-eqb, ne_eqb, eqb-true, eqb-false}
use lib.Dec.{eqb}
use lib.ListN.{length, drop}
use lib.Seq.{sets, length-sets}
use Rattle.utils.specs.Bytes.{pick}
use Rattle.graph.specs.Records.{block_record, cells_of}
use Rattle.graph.specs.declared.BlockRecord.{BlockRecord}
use Rattle.parser.specs.Step.{refusal}
use Rattle.body.specs.Shapes.{Shape, name, operation}
use Rattle.link.specs.Blocks.{Block, fresh, blocks_from, blocks_after, blocks_of}
use Rattle.link.specs.Edges.{place_of, places, refused, resolve_labels, resolve_from}
use Rattle.parser.specs.declared.Refusal.{Refusal}
use Rattle.body.specs.Records.{record_at, parts_at, goes_of}
use Rattle.body.specs.Room.{filled}
use Rattle.link.specs.Table.{leading, label_place}
use Rattle.link.specs.Steps.{Cut, goes_d, run, put_goes, counted_by, added_d, added_cells, closed_of, put_closed}
use Rattle.link.specs.Steps.{numbered_by}
use Rattle.link.specs.declared.Goes.{Goes}
use Rattle.link.proofs.Places.{Gone, gone, same_place}
use Rattle.link.proofs.Closing.{closing, opened, beyond, others, first-closed, others_none, others_more}
use Rattle.link.proofs.Closing.{filled_beyond, parts_length, beyond_at, Closed, closed_at}

-- Of all blocks these are left, and the first of them is to be record k.
pub record Left (all : List Block) (name first base : ℕ) (cells₀ cells : List ℕ) (k : ℕ) (rest : List Block) : Type 0
  where
    pub above : base ≤ k
    pub long : length cells ≡ length cells₀
    pub counts : k + length rest ≡ base + length all
    pub resolves : resolve_from all name rest ≡ resolve_from all name all
    pub stored : put_closed all first cells k rest ≡ put_closed all first cells₀ base all

-- the blocks of the items from `from` on, where a block begins
abbrev pub rest_of : List ℕ → ℕ → ℕ → ℕ → List ℕ → List Block
rest_of items first end from ls = blocks_from (from - first) (fresh ls (from - first))
    (parts_at items from (end - from))

pub record Cutting (items : List ℕ) (all : List Block) (name first end base : ℕ) (cells₀ cells : List ℕ) (from k : ℕ)
    : Type 0 where
  pub labels : List ℕ
  pub low : first ≤ from
  pub high : from ≤ end
  pub room : k + filled true (parts_at items from (end - from)) ≤ 1024
  pub left : Left all name first base cells₀ cells k (rest_of items first end from labels)

-- The first turn. ---------------------------------------------------------------------------------------------------

begins : (ps : List Shape) (at : ℕ) (ls : List ℕ)
    → (ms : List ℕ) × (blocks_after at ls ps ≡ blocks_from (at + leading ps) (fresh ms (at + leading ps))
    (drop (leading ps) ps))
unfolding blocks_after blocks_from leading
begins [] at ls = (ls, rw add-zero)
begins (name l ∷ ps) at ls =
    let more = begins ps (at + 1) (ls ++ (l ∷ [])) in
    let e : at + (leading ps + 1) ≡ at + 1 + leading ps = omega arith in
    let f : leading ps + 1 ≡ suc (leading ps) = omega arith in
    (more.0, rw (e, f) more.1)
begins (operation w goes ∷ ps) at ls = (ls, rw add-zero)

drop_parts : (items : List ℕ) (n first count : ℕ) → n ≤ count
    → drop n (parts_at items first count) ≡ parts_at items (first + n) (count - n)
unfolding parts_at
drop_parts items zero first count h = rw (add-zero, sub-zero)
drop_parts items (suc n) first zero h = absurd (omega arith)
drop_parts items (suc n) first (suc count) h =
    let e : first + suc n ≡ first + 1 + n = omega arith in
    let f : suc count - suc n ≡ count - n = omega arith in
    rw (e, f) (drop_parts items n (first + 1) count (omega arith))

filled-leading : (ps : List Shape) → filled true (drop (leading ps) ps) ≡ filled true ps
unfolding filled leading
filled-leading [] = refl
filled-leading (name l ∷ ps) =
    let f : leading ps + 1 ≡ suc (leading ps) = omega arith in
    rw f (filled-leading ps)
filled-leading (operation w goes ∷ ps) = refl

pub cut-start : (items : List ℕ) (first count before base named : ℕ) (cells : List ℕ)
    → before ≡ leading (parts_at items first count) → before ≤ count → base + filled true (parts_at items first count)
    ≤ 1024
    → Cutting items (blocks_of (parts_at items first count)) named first (first + count) base cells cells
    (first + before) base
cut-start items first count before base named cells e few room =
    let ps = parts_at items first count in
    let b = begins ps 0 [] in
    let u : first + before - first ≡ before = omega arith in
    let v : first + count - (first + before) ≡ count - before = omega arith in
    let d : drop (leading ps) ps ≡ parts_at items (first + before) (count - before) =
    rw (← e) (drop_parts items before first count few) in
    let whole : blocks_of ps ≡ rest_of items first (first + count) (first + before) b.0 =
    rw (u, v, ← d, e) (rw zero-add at b.1) in
    record {
      labels = b.0;
      low = omega arith;
      high = omega arith;
      room = rw (v, ← d, filled-leading ps) room;
      left = subst (λ (r : List Block). Left (blocks_of ps) named first base cells cells base r) whole
          (record { above = omega arith; long = refl; counts = refl; resolves = refl; stored = refl });
    }

-- A turn. -----------------------------------------------------------------------------------------------------------

counted-refused : (k : ℕ) (g : Result Goes Refusal) (e : Refusal) → counted_by k g ≡ Err e → g ≡ Err e
counted-refused k (Ok g) e h = absurd (cc)
counted-refused k (Err e') e h = cc

module _ (items : List ℕ) (all : List Block) (named first end base : ℕ) (cells₀ cells : List ℕ) (from k : ℕ)
    (cut : Cutting items all named first end base cells₀ cells from k) (stop : ℕ)
    (ends : stop ≡ from + run (parts_at items from (end - from)))
    (before : ℕ) (names : List ℕ) (same : (l : ℕ) → place_of all l 0 ≡ label_place before 0 names l) where
  abbrev here : List Shape
  here = parts_at items from (end - from)

  abbrev block : Block
  block = closing (fresh cut.labels (from - first)) here

  abbrev more : List Block
  more = others (from - first) here

  shut : Closed items from (fresh cut.labels (from - first)) block (run here)
  shut = closed_at items (end - from) from (fresh cut.labels (from - first))

  left_is : Left all named first base cells₀ cells k (block ∷ more)
  left_is =
      subst (λ (r : List Block). Left all named first base cells₀ cells k r)
      (first-closed here (from - first) (fresh cut.labels (from - first))) cut.left

  empty : stop ≡ from → resolve_from all named all ≡ refused (refusal 22 named 0)
  unfolding resolve_from pick
  empty h =
      let n : run here ≡ 0 = omega arith in
      let o : block.operations ≡ 0 = omega (arith, shut.has_operations) in
      sym left_is.resolves ∙ rw (eq-eqb _ _ o)

  module _ (nonempty : from < stop) where
    some : 0 < run here
    some = omega arith

    resolved : resolve_from all named all
        ≡ resolve_labels all (record_at items (stop - 1)).token (goes_of (record_at items (stop - 1)))
        (resolve_from all named more)
    unfolding resolve_from pick
    resolved =
        let o : block.operations ≡ run here = omega (arith, shut.has_operations) in
        let n : block.operations ≡ 0 → ⊥ = λ z. omega (arith, some, o, z) in
        let e : from + run here - 1 ≡ stop - 1 = omega arith in
        let t = rw e at (shut.last_token some) in
        let g = rw e at (shut.last_goes some) in
        sym left_is.resolves ∙ rw (ne_eqb _ _ n, t, g)

    last_gone : Gone all (record_at items (stop - 1)).token (goes_of (record_at items (stop - 1)))
        (goes_d before names (record_at items (stop - 1)))
    last_gone = gone all before names same (record_at items (stop - 1))

    went_wrong : (e : Refusal) → goes_d before names (record_at items (stop - 1)) ≡ Err e
        → resolve_from all named all ≡ refused e
    went_wrong e h =
        let r = record_at items (stop - 1) in
        let g : Gone all r.token (goes_of r) (Err e) =
        subst (λ (x : Result Goes Refusal). Gone all r.token (goes_of r) x) h last_gone in
        resolved ∙ g (resolve_from all named more)

    went : (to : Goes) → goes_d before names (record_at items (stop - 1)) ≡ Ok to
        → Left all named first base cells₀ (put_goes cells k from (stop - from) (Ok to)) (k + 1) more
    unfolding put_closed
    went to h =
        let r = record_at items (stop - 1) in
        let g : Gone all r.token (goes_of r) (Ok to) =
        subst (λ (x : Result Goes Refusal). Gone all r.token (goes_of r) x) h last_gone in
        let e : from + run here - 1 ≡ stop - 1 = omega arith in
        let l : block.goes ≡ goes_of r = rw e at (shut.last_goes some) in
        let f : first + block.first ≡ from = omega (arith, shut.begins, cut.low) in
        let o : block.operations ≡ stop - from = omega (arith, shut.has_operations, ends) in
        let now-closed : closed_of first block (places all block.goes)
        ≡ block_record from (stop - from) to.count to.to.0 to.other.0 0 0 0 = rw (l, f, o, g.1, g.2, g.3) in
        let s : put_closed all first (sets cells (k * 8) (cells_of (closed_of first block (places all block.goes))))
        (k + 1) more ≡ put_closed all first cells₀ base all = left_is.stored in
        record {
          above = omega (arith, left_is.above);
          long =
              length-sets cells (k * 8) (cells_of (block_record from (stop - from) to.count to.to.0 to.other.0 0 0 0))
              ∙ left_is.long;
          counts = omega (arith, left_is.counts);
          resolves = sym (resolved ∙ g.0 (resolve_from all named more));
          stored =
              ap (λ (b : BlockRecord). put_closed all first (sets cells (k * 8) (cells_of b)) (k + 1) more)
              (sym now-closed) ∙ s;
        }

  refused-by : (e : Refusal) (t : Bool) → eqb stop from ≡ t
      → pick t (Err (refusal 22 named 0)) (counted_by k (goes_d before names (record_at items (stop - 1))))
      ≡ Err e
      → resolve_from all named all ≡ refused e
  unfolding pick
  refused-by e true q u =
      let same-refusal : refusal 22 named 0 ≡ e = cc in
      empty (eqb-true stop from q) ∙ ap refused same-refusal
  refused-by e false q u =
      let apart : stop ≡ from → ⊥ = eqb-false stop from q in
      went_wrong (above_of apart) e (counted-refused k (goes_d before names (record_at items (stop - 1))) e u)
    where
      above_of : (stop ≡ from → ⊥) → from < stop
      above_of h = omega (arith, h, ends)

  -- a refusal of the block is the function's
  pub turn_refused : (e : Refusal) → added_d before names items from stop (refusal 22 named 0) k ≡ Err e
      → resolve_from all named all ≡ refused e
  unfolding added_d
  turn_refused e h = refused-by e (eqb stop from) refl h

  done-by : (m : ℕ) (t : Bool) (g : Result Goes Refusal) → eqb stop from ≡ t
      → goes_d before names (record_at items (stop - 1)) ≡ g
      → pick t (Err (refusal 22 named 0)) (counted_by k g) ≡ Ok m
      → (m ≡ k + 1) × (from < stop)
      × Left all named first base cells₀ (pick t cells (put_goes cells k from (stop - from) g)) (k + 1) more
  unfolding pick
  done-by m true g q h u = absurd (cc)
  done-by m false (Err e) q h u = absurd (cc)
  done-by m false (Ok to) q h u =
      let n : k + 1 ≡ m = cc in
      (sym n, above_of (eqb-false stop from q), went (above_of (eqb-false stop from q)) to h)
    where
      above_of : (stop ≡ from → ⊥) → from < stop
      above_of h = omega (arith, h, ends)

  -- a block more is done
  pub turn_done : (m : ℕ) → added_d before names items from stop (refusal 22 named 0) k ≡ Ok m
      → (m ≡ k + 1) × (from < stop) × Left all named first base cells₀ (added_cells before names items from stop cells
      k) (k + 1) more
  unfolding added_d added_cells
  turn_done m h = done-by m (eqb stop from) (goes_d before names (record_at items (stop - 1))) refl refl h

  -- it was the last
  pub cut-end : (m : ℕ) (cells' : List ℕ) → added_d before names items from stop (refusal 22 named 0) k ≡ Ok m
      → cells' ≡ added_cells before names items from stop cells k → stop ≡ end
      → (Ok (m - base) ≡ numbered_by all (resolve_from all named all))
      × (cells' ≡ put_closed all first cells₀ base all)
  unfolding resolve_from put_closed
  cut-end m cells' h e last =
      let d = turn_done m h in
      let none : more ≡ [] =
      others_none here (from - first) (omega (arith, ends, last, cut.high, parts_length items from (end - from))) in
      let l : Left all named first base cells₀ (added_cells before names items from stop cells k) (k + 1) [] =
      subst (λ (r : List Block). Left all named first base cells₀ (added_cells before names items from stop cells k)
      (k + 1) r)
      none d.2 in
      let n : m - base ≡ length all = omega (arith, d.0, l.counts, l.above) in
      (rw (← l.resolves, n), e ∙ l.stored)

  -- it was not
  pub cut_on : (m : ℕ) (cells' : List ℕ) → added_d before names items from stop (refusal 22 named 0) k ≡ Ok m
      → cells' ≡ added_cells before names items from stop cells k → stop < end
      → Cutting items all named first end base cells₀ cells' (stop + 1) m
  cut_on m cells' h e on =
      let d = turn_done m h in
      let u : stop + 1 - first ≡ from - first + run here + 1 = omega (arith, ends, cut.low) in
      let v : from + run here + 1 ≡ stop + 1 = omega (arith, ends) in
      let w : end - from - (run here + 1) ≡ end - (stop + 1) = omega (arith, ends) in
      let b : beyond here ≡ parts_at items (stop + 1) (end - (stop + 1)) =
      rw (v, w) at (beyond_at items (end - from) from (run here) refl) in
      let rest : more ≡ rest_of items first end (stop + 1) (opened here) =
      rw b at (others_more here (from - first) (stop + 1 - first)
      (omega (arith, ends, on, parts_length items from (end - from))) u) in
      let f = rw b at (filled_beyond here (omega (arith, ends, d.1))) in
      record {
        labels = opened here;
        low = omega (arith, cut.low, ends);
        high = omega arith;
        room = omega (arith, f, cut.room, d.0);
        left = rw (e, d.0, ← rest) d.2;
      }

  -- there is room for a block that has an operation
  pub cut-room : from < stop → k < 1024
  cut-room h = omega (arith, cut.room, filled_beyond here (omega (arith, ends, h)))

-- One turn, from what the calls give. --------------------------------------------------------------------------------

module _ {items : List ℕ} {first count named : ℕ} {names : List ℕ} {before : ℕ} {cells₀ : List ℕ} {base : ℕ}
    (pre : Cut items first count names before cells₀ base) {cells : List ℕ} {from k : ℕ}
    (cut : Cutting items (blocks_of (parts_at items first count)) named first (first + count) base cells₀ cells from k)
    {stop : ℕ} (ends : stop ≡ from + run (parts_at items from (first + count - from)))
  where
    abbrev ps : List Shape
    ps = parts_at items first count

    abbrev all : List Block
    all = blocks_of ps

    same : (l : ℕ) → place_of all l 0 ≡ label_place before 0 names l
    same = same_place ps before names pre.before_are pre.names_are

    pub next-room : from < stop → k < 1024
    next-room = cut-room items all named first (first + count) base cells₀ cells from k cut stop ends before names same

    module _ {empty : Refusal} {r : Result ℕ Refusal} (e : empty ≡ refusal 22 named 0)
        (adds : r ≡ added_d before names items from stop empty k)
      where
        added : {x : Result ℕ Refusal} → r ≡ x → added_d before names items from stop (refusal 22 named 0) k ≡ x
        added h = rw (← e) (sym adds ∙ h)

        pub next-refused : {x : Refusal} → r ≡ Err x → resolve_from all named all ≡ refused x
        next-refused {x} h =
            turn_refused items all named first (first + count) base cells₀ cells from k cut stop ends before names same
            x (added h)

        pub next_above : {m : ℕ} → r ≡ Ok m → base ≤ m
        next_above {m} h =
            let d = turn_done items all named first (first + count) base cells₀ cells from k cut stop ends before names
            same m (added h) in
            omega (arith, d.0, d.2.above)

        pub next_last : {m : ℕ} {cells' : List ℕ} → r ≡ Ok m
            → cells' ≡ added_cells before names items from stop cells k → stop ≡ first + count
            → (Ok (m - base) ≡ numbered_by all (resolve_from all named all))
            × (cells' ≡ put_closed all first cells₀ base all)
        next_last {m} {cells'} h =
            cut-end items all named first (first + count) base cells₀ cells from k cut stop ends before names same
            m cells' (added h)

        pub next-on : {m : ℕ} {cells' : List ℕ} → r ≡ Ok m
            → cells' ≡ added_cells before names items from stop cells k → stop < first + count
            → Cutting items all named first (first + count) base cells₀ cells' (stop + 1) m
        next-on {m} {cells'} h =
            cut_on items all named first (first + count) base cells₀ cells from k cut stop ends before names same
            m cells' (added h)
