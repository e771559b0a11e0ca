-- The blocks of a function taken in order, once its closing brace is read: empty blocks, labels resolved, edges, dead
-- marks (document 01, "Functions, labels, edges").
use Rattle.std.specs.Prelude.{ℕ, ◌+◌, List, [], ◌∷◌, Bool, true, false, eqb}
use Rattle.utils.specs.Bytes.{pick}
use Rattle.parser.specs.Step.{refusal}
use Rattle.parser.specs.Labels.{has}
use Rattle.link.specs.Blocks.{Block}
use Rattle.parser.specs.declared.Refusal.{Refusal}

-- The block that a label names, counted from k, or none.
pub data Place : Type 0 where
  at : ℕ → Place
  nowhere : Place

unfoldable pub place_of : List Block → ℕ → ℕ → Place
place_of [] l k = nowhere
place_of (b ∷ bs) l k = let more = place_of bs l (k + 1) in pick (has b.labels l) (at k) more

-- what follows a label that was resolved, and one that names no block
unfoldable pub then_place : {A : Type 0} → Place → (ℕ → A) → A → A
then_place (at k) found none = found k
then_place nowhere found none = none

-- An empty block gives 22, with the function's name token; a terminator's labels are resolved first then second (14,
-- with the terminator's token and the label's name).
pub data Resolved : Type 0 where
  fine : Resolved
  refused : Refusal → Resolved

abbrev pub missing : ℕ → ℕ → Refusal
missing token l = record { number = 14; token = token; wanted = 0; found = 0; name = record { 0 = l } }

unfoldable pub resolve_labels : List Block → ℕ → List ℕ → Resolved → Resolved
resolve_labels all token [] rest = rest
resolve_labels all token (l ∷ ls) rest =
    let more = resolve_labels all token ls rest in
    then_place (place_of all l 0) (λ k. more) (refused (missing token l))

unfoldable pub resolve_from : List Block → ℕ → List Block → Resolved
resolve_from all name [] = fine
resolve_from all name (b ∷ bs) =
    let rest = resolve_from all name bs in
    pick (eqb b.operations 0) (refused (refusal 22 name 0)) (resolve_labels all b.token b.goes rest)

-- Blocks are taken in order.
abbrev pub resolve_d : ℕ → List Block → Resolved
resolve_d name all = resolve_from all name all

-- Edges go from each block to exactly its labels' blocks, in that order: two for `br`, equal or not, one for `jmp`,
-- none otherwise.
unfoldable pub places : List Block → List ℕ → List ℕ
places all [] = []
places all (l ∷ ls) = let more = places all ls in then_place (place_of all l 0) (λ k. k ∷ more) more

unfoldable pub successors : List Block → List Block → List (List ℕ)
successors all [] = []
successors all (b ∷ bs) = places all b.goes ∷ successors all bs

-- Predecessors are listed in order of the edges: block k once for each of its edges that enters block j, before `more`;
-- and so from block k on.
unfoldable pub entering : ℕ → ℕ → List ℕ → List ℕ → List ℕ
entering j k [] more = more
entering j k (t ∷ ts) more = let rest = entering j k ts more in pick (eqb t j) (k ∷ rest) rest

unfoldable pub predecessors : ℕ → ℕ → List (List ℕ) → List ℕ
predecessors j k [] = []
predecessors j k (ts ∷ tss) = let more = predecessors j (k + 1) tss in entering j k ts more

-- The dead mark: set when it isn't block 0 and no edge enters it.
abbrev pub is_none : List ℕ → Bool
is_none [] = true
is_none (x ∷ xs) = false

unfoldable pub is_dead : ℕ → List (List ℕ) → Bool
is_dead j tss = pick (eqb j 0) false (is_none (predecessors j 0 tss))
