-- A label's number among the labels tells its block, and a record's labels are resolved as `resolve_labels` does it.
use Rattle.std.specs.Prelude.{Err, Ok, Result}
use Rattle.parser.specs.declared.Refusal.{Refusal}
use Prim.Native.Nat.{ℕ, ◌+◌, ◌<◌}
use mathlib.Core.Path.{◌≡◌, refl}
use mathlib.Core.Bool.{Bool, true, false}
use mathlib.Core.List.{List, [], ◌∷◌, ◌++◌}
use native.Mathlib.Omega.{arith}
use borrow.Author.Tests.{lt-ltb, le-ltb}
use lib.Dec.{eqb}
use lib.ListN.{length, get_or}
use Rattle.utils.specs.Bytes.{pick}
use Rattle.parser.specs.Labels.{has}
use Rattle.body.specs.Shapes.{Shape, name, operation, names_in}
use Rattle.link.specs.Blocks.{Block, fresh, grown, blocks_from, blocks_after, blocks_of}
use Rattle.link.specs.Edges.{Place, at, nowhere, place_of, then_place, missing, places, Resolved, refused}
use Rattle.link.specs.Edges.{resolve_labels}
use Rattle.body.specs.Records.{goes_by, goes_of}
use Rattle.body.specs.declared.ItemRecord.{ItemRecord}
use Rattle.body.specs.declared.Last.{Last}
use Rattle.body.specs.declared.Last.TheVariants as L
use Rattle.link.specs.Table.{leading, block_of, label_place}
use Rattle.link.specs.Steps.{block_id, found_of, then_found, one_d, two_d, leads_nowhere, leads_by, goes_d}
use Rattle.link.specs.declared.Goes.{Goes}

later-block : (before i k : ℕ) → k + before ≡ i → block_of before i ≡ k + 1
unfolding block_of pick
later-block before i k h = rw (le-ltb i before (omega arith)) (omega arith)

first_block : (before i : ℕ) → i < before → block_of before i ≡ 0
unfolding block_of pick
first_block before i h = rw (lt-ltb i before h)

-- one label more is looked at
one_label : (t : Bool) (x y : Place) → pick (pick t true false) x y ≡ pick t x y
unfolding pick
one_label true x y = refl
one_label false x y = refl

last-label : (s t : Bool) (x y : Place) → pick (pick s true t) x y ≡ pick s x (pick t x y)
unfolding pick
last-label true t x y = refl
last-label false t x y = refl

has_last : (ls : List ℕ) (m l : ℕ) → has (ls ++ (m ∷ [])) l ≡ pick (has ls l) true (eqb m l)
unfolding has pick
has_last [] m l = by (eqb m l)
  where
    by : (t : Bool) → pick t true false ≡ t
    by true = refl
    by false = refl
has_last (x ∷ ls) m l = rw (has_last ls m l) (by (eqb x l))
  where
    by : (t : Bool) → pick t true (pick (has ls l) true (eqb m l)) ≡ pick (pick t true (has ls l)) true (eqb m l)
    by true = refl
    by false = refl

place-from : (l before : ℕ) (ps : List Shape) (here : ℕ) (b : Block) (k i : ℕ) → k + before ≡ i
    → place_of (blocks_from here b ps) l k ≡ pick (has b.labels l) (at k) (label_place before i (names_in ps) l)
unfolding place_of blocks_from label_place names_in has
place-from l before [] here b k i h = refl
place-from l before (name m ∷ ps) here b k i h =
    let ih = place-from l before ps (here + 1) (fresh (m ∷ []) (here + 1)) (k + 1) (i + 1) (omega arith) in
    rw (ih, later-block before i k h, one_label (eqb m l) (at (k + 1)) (label_place before (i + 1) (names_in ps) l))
place-from l before (operation w goes ∷ ps) here b k i h = place-from l before ps (here + 1) (grown b w goes) k i h

place_after : (l before : ℕ) (ps : List Shape) (here : ℕ) (ls : List ℕ) (i : ℕ) → before ≡ i + leading ps
    → place_of (blocks_after here ls ps) l 0 ≡ pick (has ls l) (at 0) (label_place before i (names_in ps) l)
unfolding place_of blocks_after label_place names_in leading
place_after l before [] here ls i h = refl
place_after l before (name m ∷ ps) here ls i h =
    let ih = place_after l before ps (here + 1) (ls ++ (m ∷ [])) (i + 1) (omega arith) in
    rw (ih, has_last ls m l, first_block before i (omega arith))
    (last-label (has ls l) (eqb m l) (at 0) (label_place before (i + 1) (names_in ps) l))
place_after l before (operation w goes ∷ ps) here ls i h =
    place-from l before (operation w goes ∷ ps) here (fresh ls here) 0 i (omega arith)

-- The block that has a label among its own is the one that the label's number tells.
pub place_of-label : (ps : List Shape) (l : ℕ)
    → place_of (blocks_of ps) l 0 ≡ label_place (leading ps) 0 (names_in ps) l
unfolding has pick
place_of-label ps l = place_after l (leading ps) ps 0 [] 0 (omega arith)

pub same_place : (ps : List Shape) (before : ℕ) (names : List ℕ) → before ≡ leading ps → names ≡ names_in ps → (l : ℕ)
    → place_of (blocks_of ps) l 0 ≡ label_place before 0 names l
same_place ps before names e f l = rw (e, f) (place_of-label ps l)

-- A record's labels. ------------------------------------------------------------------------------------------------

-- what these labels give, resolved among all blocks: the refusal, or their blocks
abbrev pub Gone : List Block → ℕ → List ℕ → Result Goes Refusal → Type 0
Gone all token ls (Ok g) =
    ((rest : Resolved) → resolve_labels all token ls rest ≡ rest)
    × (length (places all ls) ≡ g.count) × (get_or (places all ls) 0 0 ≡ g.to.0)
    × (get_or (places all ls) 1 0 ≡ g.other.0)
Gone all token ls (Err e) = (rest : Resolved) → resolve_labels all token ls rest ≡ refused e

gone_one : (all : List Block) (token l : ℕ) (p : Place) → place_of all l 0 ≡ p
    → Gone all token (l ∷ [])
    (then_found (found_of p) (λ x. Ok (record { count = 1; to = x; other = block_id 0 })) (Err (missing token l)))
unfolding resolve_labels places then_place then_found
gone_one all token l (at x) e = (λ rest. rw e, rw e, rw e, rw e)
gone_one all token l nowhere e = λ rest. rw e

gone_two : (all : List Block) (token l m : ℕ) (p q : Place) → place_of all l 0 ≡ p → place_of all m 0 ≡ q
    → Gone all token (l ∷ m ∷ [])
    (then_found (found_of p) (λ x.
    then_found (found_of q) (λ y. Ok (record { count = 2; to = x; other = y })) (Err (missing token m)))
    (Err (missing token l)))
unfolding resolve_labels places then_place then_found
gone_two all token l m (at x) (at y) e f = (λ rest. rw (e, f), rw (e, f), rw e, rw (e, f))
gone_two all token l m (at x) nowhere e f = λ rest. rw (e, f)
gone_two all token l m nowhere q e f = λ rest. rw e

module _ (all : List Block) (before : ℕ) (names : List ℕ)
    (same : (l : ℕ) → place_of all l 0 ≡ label_place before 0 names l) where
  gone_jump : (token l : ℕ) (jumps : Bool)
      → Gone all token (pick jumps (l ∷ []) [])
      (pick jumps (one_d before names token l) (Ok leads_nowhere))
  unfolding pick one_d resolve_labels places
  gone_jump token l true = gone_one all token l (label_place before 0 names l) (same l)
  gone_jump token l false = (λ rest. refl, refl, refl, refl)

  gone_by : (kind token : ℕ) (z : Last) → Gone all token (goes_by kind z) (leads_by before names kind token z)
  unfolding goes_by leads_by two_d resolve_labels places
  gone_by kind token (L.Name l t) = gone_jump token l.0 (eqb kind 9)
  gone_by kind token (L.Labels l m) =
      gone_two all token l.0 m.0 (label_place before 0 names l.0) (label_place before 0 names m.0)
      (same l.0) (same m.0)
  gone_by kind token (L.Run first count) = (λ rest. refl, refl, refl, refl)

  pub gone : (r : ItemRecord) → Gone all r.token (goes_of r) (goes_d before names r)
  unfolding goes_d
  gone r = gone_by r.kind r.token r.last
