-- What blocks and edges are like: laws of the definitions, for those who use them.
use Prim.Native.Nat.{ℕ, suc, ◌+◌, ◌≤◌, ◌<◌}
use mathlib.Core.Path.{◌≡◌, refl, ap}
use mathlib.Core.Bool.{Bool, true, false}
use mathlib.Core.List.{List, [], ◌∷◌, ◌++◌, map}
use native.Mathlib.Omega.{arith}
use borrow.Author.Tests.{eqb-false}
use lib.Dec.{eqb}
use lib.ListN.{length, length-append}
use Rattle.utils.specs.Bytes.{pick}
use Rattle.parser.specs.Step.{refusal}
use Rattle.parser.specs.Labels.{has}
use Rattle.body.specs.Shapes.{Shape, name, operation, names_in}
use Rattle.link.specs.Blocks.{Block, fresh, grown, blocks_from, blocks_after, blocks_of}
use Rattle.link.specs.Edges.{Place, at, nowhere, place_of, then_place, Resolved, fine, refused, missing, resolve_labels}
use Rattle.link.specs.Edges.{resolve_from, resolve_d, places, successors}
use Rattle.body.specs.Room.{filled}
use Rattle.link.specs.Table.{leading}
use Rattle.link.proofs.Partition.{Blocked, final, followed, blocks_are}

-- Successors. -------------------------------------------------------------------------------------------------------

abbrev pub Below : ℕ → List ℕ → Type 0
Below n [] = Unit
Below n (x ∷ xs) = (x < n) × Below n xs

abbrev pub AllBelow : ℕ → List (List ℕ) → Type 0
AllBelow n [] = Unit
AllBelow n (xs ∷ xss) = Below n xs × AllBelow n xss

abbrev PlaceBelow : ℕ → Place → Type 0
PlaceBelow n (at k) = k < n
PlaceBelow n nowhere = Unit

place_step : (t : Bool) (k n : ℕ) (p : Place) → k < n → PlaceBelow n p → PlaceBelow n (pick t (at k) p)
unfolding pick
place_step true k n p h q = h
place_step false k n p h q = q

place-below : (bs : List Block) (l k n : ℕ) → n ≡ k + length bs → PlaceBelow n (place_of bs l k)
unfolding place_of
place-below [] l k n e = tt
place-below (b ∷ bs) l k n e =
    place_step (has b.labels l) k n (place_of bs l (k + 1)) (omega arith) (place-below bs l (k + 1) n (omega arith))

places_step : (p : Place) (n : ℕ) (more : List ℕ) → PlaceBelow n p → Below n more
    → Below n (then_place p (λ k. k ∷ more) more)
unfolding then_place
places_step (at k) n more h q = (h, q)
places_step nowhere n more h q = q

places-below : (all : List Block) (ls : List ℕ) → Below (length all) (places all ls)
unfolding places
places-below all [] = tt
places-below all (l ∷ ls) =
    places_step (place_of all l 0) (length all) (places all ls) (place-below all l 0 (length all) (omega arith))
    (places-below all ls)

below_each : (all bs : List Block) → AllBelow (length all) (successors all bs)
unfolding successors
below_each all [] = tt
below_each all (b ∷ bs) = (places-below all b.goes, below_each all bs)

-- Every successor is a block of the same function.
pub successors-below : (bs : List Block) → AllBelow (length bs) (successors bs bs)
successors-below bs = below_each bs bs

-- How many blocks. --------------------------------------------------------------------------------------------------

blocks_from_lem : (ps : List Shape) (here : ℕ) (b : Block) → length (blocks_from here b ps) ≡ length (names_in ps) + 1
unfolding blocks_from names_in
blocks_from_lem [] here b = refl
blocks_from_lem (name l ∷ ps) here b = omega (arith, blocks_from_lem ps (here + 1) (fresh (l ∷ []) (here + 1)))
blocks_from_lem (operation w goes ∷ ps) here b = blocks_from_lem ps (here + 1) (grown b w goes)

blocks_after_lem : (ps : List Shape) (here : ℕ) (ls : List ℕ)
    → length (blocks_after here ls ps) ≤ length (names_in ps) + 1
unfolding blocks_after names_in
blocks_after_lem [] here ls = omega arith
blocks_after_lem (name l ∷ ps) here ls = omega (arith, blocks_after_lem ps (here + 1) (ls ++ (l ∷ [])))
blocks_after_lem (operation w goes ∷ ps) here ls =
    omega (arith, blocks_from_lem (operation w goes ∷ ps) here (fresh ls here))

-- A function has at most one block more than labels.
pub few_blocks : (ps : List Shape) → length (blocks_of ps) ≤ length (names_in ps) + 1
few_blocks ps = blocks_after_lem ps 0 []

-- A function of at most 255 labels has at most 256 blocks.
pub at_most_256 : (ps : List Shape) → length (names_in ps) ≤ 255 → length (blocks_of ps) ≤ 256
at_most_256 ps h = omega (arith, few_blocks ps)

some-from : (ps : List Shape) (here : ℕ) (ls : List ℕ) → 1 ≤ length (blocks_after here ls ps)
unfolding blocks_after
some-from [] here ls = omega arith
some-from (name l ∷ ps) here ls = some-from ps (here + 1) (ls ++ (l ∷ []))
some-from (operation w goes ∷ ps) here ls = omega (arith, blocks_from_lem (operation w goes ∷ ps) here (fresh ls here))

-- Any function has a block.
pub at_least_1 : (ps : List Shape) → 1 ≤ length (blocks_of ps)
at_least_1 ps = some-from ps 0 []

-- Where every label is resolved. ------------------------------------------------------------------------------------

abbrev pub NonEmpty : List Block → Type 0
NonEmpty [] = Unit
NonEmpty (b ∷ bs) = (0 < b.operations) × NonEmpty bs

-- no target of a block is dropped
abbrev pub Kept : List Block → List Block → Type 0
Kept all [] = Unit
Kept all (b ∷ bs) = (length (places all b.goes) ≡ length b.goes) × Kept all bs

labels_step : (p : Place) (rest : Resolved) (e : Resolved) (ls : List ℕ) (more : List ℕ)
    → (rest ≡ fine → length more ≡ length ls) → then_place p (λ k. rest) e ≡ fine → (e ≡ fine → ⊥)
    → (rest ≡ fine) × (length (then_place p (λ k. k ∷ more) more) ≡ suc (length ls))
unfolding then_place
labels_step (at k) rest e ls more ih h n = (h, ap suc (ih h))
labels_step nowhere rest e ls more ih h n = absurd (n h)

labels-fine : (all : List Block) (token : ℕ) (ls : List ℕ) (rest : Resolved) → resolve_labels all token ls rest ≡ fine
    → (rest ≡ fine) × (length (places all ls) ≡ length ls)
unfolding resolve_labels places
labels-fine all token [] rest h = (h, refl)
labels-fine all token (l ∷ ls) rest h =
    let s = labels_step (place_of all l 0) (resolve_labels all token ls rest) (refused (missing token l)) ls
    (places all ls)
    (λ e. (labels-fine all token ls rest e).1) h (λ e. cc) in
    ((labels-fine all token ls rest s.0).0, s.1)

block_step : (t : Bool) (e rest : Resolved) → pick t e rest ≡ fine → (e ≡ fine → ⊥) → (t ≡ false) × (rest ≡ fine)
unfolding pick
block_step true e rest h n = absurd (n h)
block_step false e rest h n = (refl, h)

blocks-fine : (all : List Block) (named : ℕ) (bs : List Block) → resolve_from all named bs ≡ fine
    → NonEmpty bs × Kept all bs
unfolding resolve_from
blocks-fine all named [] h = (tt, tt)
blocks-fine all named (b ∷ bs) h =
    let s = block_step (eqb b.operations 0) (refused (refusal 22 named 0))
    (resolve_labels all b.token b.goes (resolve_from all named bs)) h
    (λ e. cc) in
    let l = labels-fine all b.token b.goes (resolve_from all named bs) s.1 in
    let n : b.operations ≡ 0 → ⊥ = eqb-false b.operations 0 s.0 in
    let more = blocks-fine all named bs l.0 in
    ((omega (arith, n), more.0), (l.1, more.1))

-- Every block has an operation.
pub blocks-filled : (named : ℕ) (bs : List Block) → resolve_d named bs ≡ fine → NonEmpty bs
blocks-filled named bs h = (blocks-fine bs named bs h).0

-- Each label of each block's last operation leads to a block.
pub places-kept : (named : ℕ) (bs : List Block) → resolve_d named bs ≡ fine → Kept bs bs
places-kept named bs h = (blocks-fine bs named bs h).1

-- whether a block has no operation yet
abbrev Fresh : Bool → Block → Type 0
Fresh true b = b.operations ≡ 0
Fresh false b = 0 < b.operations

counted-from : (ps : List Shape) (here : ℕ) (b : Block) (t : Bool) → Fresh t b → NonEmpty (blocks_from here b ps)
    → length (blocks_from here b ps) ≡ filled t ps + pick t 0 1
unfolding blocks_from filled pick
counted-from [] here b true f n = absurd (omega (arith, n.0))
counted-from [] here b false f n = refl
counted-from (name l ∷ ps) here b true f n = absurd (omega (arith, n.0))
counted-from (name l ∷ ps) here b false f n =
    let ih = counted-from ps (here + 1) (fresh (l ∷ []) (here + 1)) true refl n.1 in
    omega (arith, ih)
counted-from (operation w goes ∷ ps) here b true f n =
    let ih = counted-from ps (here + 1) (grown b w goes) false (omega arith) n in
    omega (arith, ih)
counted-from (operation w goes ∷ ps) here b false f n =
    let ih = counted-from ps (here + 1) (grown b w goes) false (omega arith) n in
    omega (arith, ih)

counted_after : (ps : List Shape) (here : ℕ) (ls : List ℕ) → NonEmpty (blocks_after here ls ps)
    → length (blocks_after here ls ps) ≡ filled true ps
unfolding blocks_after filled pick
counted_after [] here ls n = absurd (omega (arith, n.0))
counted_after (name l ∷ ps) here ls n = counted_after ps (here + 1) (ls ++ (l ∷ [])) n
counted_after (operation w goes ∷ ps) here ls n =
    counted-filled (operation w goes ∷ ps) here (fresh ls here) refl n
  where
    counted-filled : (ps : List Shape) (here : ℕ) (b : Block) → Fresh true b → NonEmpty (blocks_from here b ps)
        → length (blocks_from here b ps) ≡ filled true ps
    counted-filled ps here b f n = omega (arith, counted-from ps here b true f n)

-- There are as many blocks as runs of operations.
pub blocks-counted : (named : ℕ) (ps : List Shape) → resolve_d named (blocks_of ps) ≡ fine
    → length (blocks_of ps) ≡ filled true ps
blocks-counted named ps h = counted_after ps 0 [] (blocks-filled named (blocks_of ps) h)

-- Where blocks begin and end. ---------------------------------------------------------------------------------------

-- The first block begins at `start`, each later one behind the label that ends the one before, and the last ends at
-- `end`.
abbrev pub Parted : ℕ → ℕ → List Block → Type 0
Parted start end [] = start ≡ end + 1
Parted start end (b ∷ bs) = (b.first ≡ start) × Parted (b.first + b.operations + 1) end bs

parted : (start end here : ℕ) (labels : List ℕ) (ps : List Shape) (bs : List Block) → Blocked labels here ps bs
    → start ≡ here → end ≡ here + length ps → Parted start end bs
parted start end here labels ps bs (final h) s e = (omega (arith, h.begins), omega (arith, h.begins, h.counted))
parted start end here labels ps bs (followed {l = l} {ops = ops} {ps = qs} {b = b} h q) s e =
    let all = length-append ops (name l ∷ qs) in (
      omega (arith, h.begins),
      parted (b.first + b.operations + 1) end _ _ qs _ q (omega (arith, h.begins, h.counted)) (omega arith),
    )

leading_are : (labels : List ℕ) (rest : List Shape) → leading rest ≡ 0
    → (leading (map name labels ++ rest) ≡ length labels)
    × (length (map name labels ++ rest) ≡ length labels + length rest)
unfolding leading
leading_are [] rest h = (h, omega arith)
leading_are (l ∷ ls) rest h =
    let more = leading_are ls rest h in
    (omega (arith, more.0), omega (arith, more.1))

-- The first block begins behind the leading labels, each later one behind its label, and the last ends with the items.
pub blocks_partition : (ps : List Shape) → Parted (leading ps) (length ps) (blocks_of ps)
blocks_partition ps =
    let p = blocks_are ps in
    let n = rw (← p.whole) at (leading_are p.labels p.rest p.all_leading) in
    parted (leading ps) (length ps) _ p.labels p.rest _ p.blocked n.0 n.1
