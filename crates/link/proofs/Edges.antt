-- Each edge enters one block, so all predecessors together are no more than two for each block.
use Prim.Native.Nat.{ℕ, zero, suc, ◌+◌, ◌*◌, ◌≤◌, ◌<◌}
use mathlib.Core.Path.{◌≡◌, refl, ap, ◌∙◌}
use mathlib.Core.Bool.{Bool, true, false}
use mathlib.Core.List.{List, [], ◌∷◌, ◌++◌}
use native.Mathlib.Omega.{arith}
use borrow.Author.Tests.{eqb-true}
use lib.Dec.{eqb}
use lib.ListN.{length, length-append}
use Rattle.utils.specs.Bytes.{pick}
use Rattle.body.specs.Body.{Item, label, plain, call, call_into, targets}
use Rattle.body.specs.Shapes.{Shape, name, operation, numbers_of, shape_of, shapes_of}
use Rattle.link.specs.Blocks.{Block, fresh, grown, blocks_from, blocks_after, blocks_of}
use Rattle.link.specs.Edges.{Place, at, nowhere, place_of, then_place, places, successors, entering, predecessors}
use Rattle.parser.specs.declared.Operation.{Operation}
use Rattle.parser.specs.declared.Operation.TheVariants as O
use Rattle.body.specs.Records.{first_cell, record_at, record_part, goes_by, goes_of, parts_at}
use Rattle.body.specs.declared.ItemRecord.{ItemRecord}
use Rattle.body.specs.declared.Last.{Last}
use Rattle.body.specs.declared.Last.TheVariants as L
use Rattle.link.specs.Steps.{entries_from}

-- how many of these targets are block j, and how many are among m blocks from j on
hits : ℕ → List ℕ → ℕ
hits j [] = 0
hits j (t ∷ ts) = pick (eqb t j) 1 0 + hits j ts

hits_from : ℕ → ℕ → List ℕ → ℕ
hits_from j zero ts = 0
hits_from j (suc m) ts = hits j ts + hits_from (j + 1) m ts

-- one target is among them at most once
hit : ℕ → ℕ → ℕ → ℕ
hit j zero t = 0
hit j (suc m) t = pick (eqb t j) 1 0 + hit (j + 1) m t

hit_none : (m j t : ℕ) → t < j → hit j m t ≡ 0
unfolding hit pick
hit_none zero j t h = refl
hit_none (suc m) j t h = by (eqb t j) refl (hit_none m (j + 1) t (omega arith))
  where
    by : (b : Bool) → eqb t j ≡ b → hit (j + 1) m t ≡ 0 → pick b 1 0 + hit (j + 1) m t ≡ 0
    by true e q = absurd (omega (arith, eqb-true t j e))
    by false e q = omega arith

hit_once : (m j t : ℕ) → hit j m t ≤ 1
unfolding hit pick
hit_once zero j t = omega arith
hit_once (suc m) j t = by (eqb t j) refl (hit_once m (j + 1) t)
  where
    by : (b : Bool) → eqb t j ≡ b → hit (j + 1) m t ≤ 1 → pick b 1 0 + hit (j + 1) m t ≤ 1
    by true e q = omega (arith, eqb-true t j e, hit_none m (j + 1) t (omega (arith, eqb-true t j e)))
    by false e q = omega arith

hits_cons : (m j t : ℕ) (ts : List ℕ) → hits_from j m (t ∷ ts) ≡ hit j m t + hits_from j m ts
unfolding hit hits hits_from
hits_cons zero j t ts = omega arith
hits_cons (suc m) j t ts = omega (arith, hits_cons m (j + 1) t ts)

hits_nil : (m j : ℕ) → hits_from j m [] ≡ 0
unfolding hits hits_from
hits_nil zero j = refl
hits_nil (suc m) j = omega (arith, hits_nil m (j + 1))

hits_few : (ts : List ℕ) (j m : ℕ) → hits_from j m ts ≤ length ts
hits_few [] j m = omega (arith, hits_nil m j)
hits_few (t ∷ ts) j m = omega (arith, hits_cons m j t ts, hit_once m j t, hits_few ts j m)

entering_hits : (j k : ℕ) (ts more : List ℕ) → length (entering j k ts more) ≡ hits j ts + length more
unfolding entering hits pick
entering_hits j k [] more = omega arith
entering_hits j k (t ∷ ts) more = by (eqb t j) (entering_hits j k ts more)
  where
    by : (b : Bool) → length (entering j k ts more) ≡ hits j ts + length more
        → length (pick b (k ∷ entering j k ts more) (entering j k ts more)) ≡ pick b 1 0 + hits j ts + length more
    by true e = omega arith
    by false e = omega arith

-- how many edges enter m blocks from j on, and how many edges there are
entered : ℕ → ℕ → ℕ → List (List ℕ) → ℕ
entered j zero k tss = 0
entered j (suc m) k tss = length (predecessors j k tss) + entered (j + 1) m k tss

edges_in : List (List ℕ) → ℕ
edges_in [] = 0
edges_in (ts ∷ tss) = length ts + edges_in tss

entered_cons : (m j k : ℕ) (ts : List ℕ) (tss : List (List ℕ))
    → entered j m k (ts ∷ tss) ≡ hits_from j m ts + entered j m (k + 1) tss
unfolding entered hits_from predecessors
entered_cons zero j k ts tss = omega arith
entered_cons (suc m) j k ts tss =
    omega (arith, entered_cons m (j + 1) k ts tss, entering_hits j k ts (predecessors j (k + 1) tss))

entered_nil : (m j k : ℕ) → entered j m k [] ≡ 0
unfolding entered predecessors
entered_nil zero j k = refl
entered_nil (suc m) j k = omega (arith, entered_nil m (j + 1) k)

entered-few : (tss : List (List ℕ)) (j m k : ℕ) → entered j m k tss ≤ edges_in tss
unfolding edges_in
entered-few [] j m k = omega (arith, entered_nil m j k)
entered-few (ts ∷ tss) j m k =
    omega (arith, entered_cons m j k ts tss, hits_few ts j m, entered-few tss j m (k + 1))

entries-length : (m j : ℕ) (all : List (List ℕ)) → length (entries_from j all m) ≡ entered j m 0 all
unfolding entries_from entered
entries-length zero j all = refl
entries-length (suc m) j all =
    length-append (predecessors j 0 all) (entries_from (j + 1) all m)
    ∙ ap (λ (x : ℕ). length (predecessors j 0 all) + x) (entries-length m (j + 1) all)

-- Two targets at most. ----------------------------------------------------------------------------------------------

abbrev pub Thin : List Block → Type 0
Thin [] = Unit
Thin (b ∷ bs) = (length b.goes ≤ 2) × Thin bs

abbrev ThinPart : Shape → Type 0
ThinPart (name l) = Unit
ThinPart (operation w goes) = length goes ≤ 2

abbrev ThinParts : List Shape → Type 0
ThinParts [] = Unit
ThinParts (p ∷ ps) = ThinPart p × ThinParts ps

goes-few : (kind : ℕ) (z : Last) → length (goes_by kind z) ≤ 2
unfolding goes_by pick
goes-few kind (L.Name l t) = by (eqb kind 9)
  where
    by : (jumps : Bool) → length (pick jumps (l.0 ∷ []) []) ≤ 2
    by true = omega arith
    by false = omega arith
goes-few kind (L.Labels l m) = omega arith
goes-few kind (L.Run first count) = omega arith

thin_part : (r : ItemRecord) → ThinPart (record_part r)
unfolding record_part pick
thin_part r = by (eqb r.kind 1)
  where
    by : (t : Bool) → ThinPart (pick t (name (first_cell r.last)) (operation r.token (goes_of r)))
    by true = tt
    by false = goes-few r.kind r.last

thin_parts : (cells : List ℕ) (count first : ℕ) → ThinParts (parts_at cells first count)
unfolding parts_at
thin_parts cells zero first = tt
thin_parts cells (suc count) first = (thin_part (record_at cells first), thin_parts cells count (first + 1))

thin_from : (ps : List Shape) (here : ℕ) (b : Block) → ThinParts ps → length b.goes ≤ 2 → Thin (blocks_from here b ps)
unfolding blocks_from
thin_from [] here b t h = (h, tt)
thin_from (name l ∷ ps) here b t h = (h, thin_from ps (here + 1) (fresh (l ∷ []) (here + 1)) t.1 (omega arith))
thin_from (operation w goes ∷ ps) here b t h = thin_from ps (here + 1) (grown b w goes) t.1 t.0

thin_after : (ps : List Shape) (here : ℕ) (ls : List ℕ) → ThinParts ps → Thin (blocks_after here ls ps)
unfolding blocks_after
thin_after [] here ls t = (omega arith, tt)
thin_after (name l ∷ ps) here ls t = thin_after ps (here + 1) (ls ++ (l ∷ [])) t.1
thin_after (operation w goes ∷ ps) here ls t =
    thin_from (operation w goes ∷ ps) here (fresh ls here) t (omega arith)

pub thin_blocks : (cells : List ℕ) (first count : ℕ) → Thin (blocks_of (parts_at cells first count))
thin_blocks cells first count = thin_after (parts_at cells first count) 0 [] (thin_parts cells count first)

-- .. and of items as they were parsed
thin_operation : (o : Operation) → length (numbers_of (targets o)) ≤ 2
thin_operation (O.BinaryOp w v x y) = omega arith
thin_operation (O.UnaryOp w v x) = omega arith
thin_operation (O.Const w v) = omega arith
thin_operation (O.Jump w l) = omega arith
thin_operation (O.Branch w x l m) = omega arith
thin_operation (O.Ret w) = omega arith
thin_operation (O.RetValue w x) = omega arith
thin_operation (O.Print w x) = omega arith
thin_operation (O.Nop w) = omega arith

thin_item : (i : Item) → ThinPart (shape_of i)
thin_item (label w l) = tt
thin_item (plain o) = thin_operation o
thin_item (call w g xs) = omega arith
thin_item (call_into w v g xs) = omega arith

thin_each : (is : List Item) → ThinParts (shapes_of is)
unfolding shapes_of
thin_each [] = tt
thin_each (i ∷ is) = (thin_item i, thin_each is)

pub thin_items : (is : List Item) → Thin (blocks_of (shapes_of is))
thin_items is = thin_after (shapes_of is) 0 [] (thin_each is)

place-few : (p : Place) (more : List ℕ) (n : ℕ) → length more ≤ n → length (then_place p (λ k. k ∷ more) more) ≤ suc n
unfolding then_place
place-few (at k) more n h = omega arith
place-few nowhere more n h = omega arith

pub places-few : (all : List Block) (ls : List ℕ) → length (places all ls) ≤ length ls
unfolding places
places-few all [] = omega arith
places-few all (l ∷ ls) = place-few (place_of all l 0) (places all ls) (length ls) (places-few all ls)

edges_few : (all bs : List Block) → Thin bs → edges_in (successors all bs) ≤ length bs * 2
unfolding successors edges_in
edges_few all [] t = omega arith
edges_few all (b ∷ bs) t = omega (arith, t.0, places-few all b.goes, edges_few all bs t.1)

-- All predecessors together are at most two for each block.
pub entries-few : (all bs : List Block) (n : ℕ) → Thin bs
    → length (entries_from 0 (successors all bs) n) ≤ length bs * 2
entries-few all bs n t =
    omega (arith, entries-length n 0 (successors all bs), entered-few (successors all bs) 0 n 0, edges_few all bs t)
