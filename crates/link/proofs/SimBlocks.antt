-- The simulation of demand 3 for blocks: related shapes give related blocks, labels are resolved alike, and edges,
-- predecessors and dead marks are the same. Names are compared by equality alone.
use Prim.Native.Nat.{ℕ, ◌+◌, ◌<◌}
use mathlib.Core.Path.{◌≡◌, refl, ap}
use mathlib.Core.List.{List, [], ◌∷◌, ◌++◌}
use mathlib.Core.Bool.{Bool, true, false}
use borrow.Author.Tests.{eqb-false}
use lib.Dec.{eqb}
use Rattle.utils.specs.Bytes.{pick}
use Rattle.parser.specs.Step.{refusal}
use Rattle.body.specs.Body.{Item, closed_items}
use Rattle.body.specs.Shapes.{Shape, shapes_of}
use Rattle.link.specs.Blocks.{Block, fresh, grown, blocks_from, blocks_after, blocks_of}
use Rattle.link.specs.Edges.{Place, place_of, then_place, Resolved, resolve_labels, resolve_from, resolve_d}
use Rattle.link.specs.Edges.{places, successors, predecessors, is_dead}
use Rattle.parser.specs.Moved.{Move, SimE, Each, SimNumber}
use Rattle.body.specs.Moved.{SimItem, SimShape}
use Rattle.link.specs.Moved.{SimBlock, SimResolved}
use Rattle.parser.proofs.Sim.{has_s}
use Rattle.body.proofs.SimItems.{closed_items_s, shapes_s}

-- Blocks. -------------------------------------------------------------------------------------------------------------

fresh_s : {m : Move} {n : ℕ} {ls ls' : List ℕ} (at : ℕ) → Each (SimNumber m) ls ls'
    → SimBlock m n (fresh ls at) (fresh ls' at)
fresh_s at r =
    record {
      labels = r;
      first = refl;
      operations = refl;
      token = λ h. absurd (h refl);
      below = λ h. absurd (h refl);
      goes = Each.none;
    }

grown_s : {m : Move} {n : ℕ} {b b' : Block} {goes goes' : List ℕ} (w : ℕ) → SimBlock m n b b'
    → Each (SimNumber m) goes goes' → w < n
    → SimBlock m n (grown b (m.by + w) goes) (grown b' w goes')
grown_s w q r l =
    record {
      labels = q.labels;
      first = q.first;
      operations = ap (λ (k : ℕ). k + 1) q.operations;
      token = λ _. refl;
      below = λ _. l;
      goes = r;
    }

pub blocks_from_s : {m : Move} {n : ℕ} (at : ℕ) {b b' : Block} {ps ps' : List Shape} → SimBlock m n b b'
    → Each (SimShape m n) ps ps'
    → Each (SimBlock m n) (blocks_from at b ps) (blocks_from at b' ps')
unfolding blocks_from
blocks_from_s at q Each.none = Each.more q Each.none
blocks_from_s at q (Each.more (SimShape.name l) r) =
    Each.more q (blocks_from_s (at + 1) (fresh_s (at + 1) (Each.more l Each.none)) r)
blocks_from_s at q (Each.more (SimShape.operation w goes h) r) = blocks_from_s (at + 1) (grown_s w q goes h) r

append_s : {m : Move} {xs xs' : List ℕ} {l l' : ℕ} → Each (SimNumber m) xs xs' → SimNumber m l l'
    → Each (SimNumber m) (xs ++ (l ∷ [])) (xs' ++ (l' ∷ []))
append_s Each.none q = Each.more q Each.none
append_s (Each.more p r) q = Each.more p (append_s r q)

pub blocks_after_s : {m : Move} {n : ℕ} (at : ℕ) {ls ls' : List ℕ} {ps ps' : List Shape} → Each (SimNumber m) ls ls'
    → Each (SimShape m n) ps ps' → Each (SimBlock m n) (blocks_after at ls ps) (blocks_after at ls' ps')
unfolding blocks_after
blocks_after_s at q Each.none = Each.more (fresh_s at q) Each.none
blocks_after_s at q (Each.more (SimShape.name l) r) = blocks_after_s (at + 1) (append_s q l) r
blocks_after_s at q (Each.more (SimShape.operation w goes h) r) =
    blocks_from_s at (fresh_s at q) (Each.more (SimShape.operation w goes h) r)

pub blocks_s : {m : Move} {n : ℕ} {ps ps' : List Shape} → Each (SimShape m n) ps ps'
    → Each (SimBlock m n) (blocks_of ps) (blocks_of ps')
blocks_s r = blocks_after_s 0 Each.none r

-- Labels resolved. ----------------------------------------------------------------------------------------------------

-- a renamed label names the same block
pub place_s : {m : Move} {n : ℕ} {bs bs' : List Block} {l l' : ℕ} (k : ℕ) → Each (SimBlock m n) bs bs'
    → SimNumber m l l'
    → place_of bs l k ≡ place_of bs' l' k
unfolding place_of
place_s k Each.none p = refl
place_s k (Each.more q r) p = rw (has_s q.labels p, place_s (k + 1) r p)

found_s : {m : Move} {n : ℕ} (p : Place) {r r' e e' : Resolved} → SimResolved m n r r' → SimResolved m n e e'
    → SimResolved m n (then_place p (λ k. r) e) (then_place p (λ k. r') e')
unfolding then_place
found_s (Place.at k) q f = q
found_s Place.nowhere q f = f

module _ {m : Move} {n : ℕ} {all all' : List Block} (s : Each (SimBlock m n) all all') where
  pub resolve_labels_s : (token : ℕ) → token < n → {ls ls' : List ℕ} {rest rest' : Resolved} → Each (SimNumber m) ls ls'
      → SimResolved m n rest rest'
      → SimResolved m n (resolve_labels all (m.by + token) ls rest) (resolve_labels all' token ls' rest')
  unfolding resolve_labels
  resolve_labels_s token l Each.none t = t
  resolve_labels_s token l (Each.more {x} {x'} q r) t =
      rw (place_s 0 s q)
      (found_s (place_of all' x' 0) (resolve_labels_s token l r t) (SimResolved.refused _ _ (SimE.named 14 token 0 0
      q l)))

  -- a block that is empty, or one whose labels are resolved
  empty_s : (empty : Bool) (name : ℕ) {r r' : Resolved} → name < n → (empty ≡ false → SimResolved m n r r')
      → SimResolved m n (pick empty (Resolved.refused (refusal 22 (m.by + name) 0)) r)
      (pick empty (Resolved.refused (refusal 22 name 0)) r')
  unfolding pick
  empty_s true name l f = SimResolved.refused _ _ (SimE.moved 22 name 0 l)
  empty_s false name l f = f refl

  pub resolve_from_s : (name : ℕ) {bs bs' : List Block} → name < n → Each (SimBlock m n) bs bs'
      → SimResolved m n (resolve_from all (m.by + name) bs) (resolve_from all' name bs')
  unfolding resolve_from
  resolve_from_s name l Each.none = SimResolved.fine
  resolve_from_s name l (Each.more {x = b} {x' = b'} q r) =
      rw q.operations
      (empty_s (eqb b'.operations 0) name l (λ e.
      rw (q.token (eqb-false b'.operations 0 e))
      (resolve_labels_s b'.token (q.below (eqb-false b'.operations 0 e)) q.goes (resolve_from_s name l r))))

  -- Edges. ------------------------------------------------------------------------------------------------------------

  -- related blocks go to the same blocks
  pub places_s : {ls ls' : List ℕ} → Each (SimNumber m) ls ls' → places all ls ≡ places all' ls'
  unfolding places
  places_s Each.none = refl
  places_s (Each.more q r) = rw (place_s 0 s q, places_s r)

  pub successors_s : {bs bs' : List Block} → Each (SimBlock m n) bs bs' → successors all bs ≡ successors all' bs'
  unfolding successors
  successors_s Each.none = refl
  successors_s (Each.more q r) = rw (places_s q.goes, successors_s r)

-- THE SIMULATION of a function's blocks: labels are resolved or refused alike (22, with the name's token, moved; 14,
-- with the terminator's token, moved, and the label, renamed) ..
pub resolve_s : {m : Move} {n : ℕ} {bs bs' : List Block} (name : ℕ) → name < n → Each (SimBlock m n) bs bs'
    → SimResolved m n (resolve_d (m.by + name) bs) (resolve_d name bs')
resolve_s name l s = resolve_from_s s name l s

-- .. and edges, predecessors and dead marks are the same
pub edges_s : {m : Move} {n : ℕ} {bs bs' : List Block} → Each (SimBlock m n) bs bs'
    → successors bs bs ≡ successors bs' bs'
edges_s s = successors_s s s

pub predecessors_s : {m : Move} {n : ℕ} {bs bs' : List Block} (j k : ℕ) → Each (SimBlock m n) bs bs'
    → predecessors j k (successors bs bs) ≡ predecessors j k (successors bs' bs')
predecessors_s j k s = ap (λ (tss : List (List ℕ)). predecessors j k tss) (edges_s s)

pub dead_s : {m : Move} {n : ℕ} {bs bs' : List Block} (j : ℕ) → Each (SimBlock m n) bs bs'
    → is_dead j (successors bs bs) ≡ is_dead j (successors bs' bs')
dead_s j s = ap (λ (tss : List (List ℕ)). is_dead j tss) (edges_s s)

-- the blocks of a body, from its items
pub body_blocks_s : {m : Move} {n : ℕ} (void : Bool) {is is' : List Item} → Each (SimItem m n) is is'
    → Each (SimBlock m n) (blocks_of (shapes_of (closed_items void is))) (blocks_of (shapes_of (closed_items void is')))
body_blocks_s void r = blocks_s (shapes_s (closed_items_s void r))
