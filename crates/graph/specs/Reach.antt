-- What the laws of the order speak of, and what owes nothing to the walk: edges and paths, how often a number stands in
-- a list, and the textbook's post-order.
use Rattle.std.specs.Prelude.{ℕ, ◌+◌, ◌≤◌, ◌<◌, ◌≡◌, ◌⊎◌, List, [], ◌∷◌, ◌++◌, eqb, length}
use Rattle.utils.specs.Bytes.{pick}

pub data In : ℕ → List ℕ → Type 0 where
  front : {v : ℕ} {vs : List ℕ} → In v (v ∷ vs)
  later : {v w : ℕ} {vs : List ℕ} → In v vs → In v (w ∷ vs)

-- An edge goes from a block to each of its successors that is a block.
pub record Edge (successors : ℕ → List ℕ) (n u w : ℕ) : Type 0 where
  pub from : u < n
  pub to : w < n
  pub along : In w (successors u)

-- A path of edges, of any length, from block u.
pub data PathFrom (successors : ℕ → List ℕ) (n u : ℕ) : ℕ → Type 0 where
  start : u < n → PathFrom successors n u u
  on : {v w : ℕ} → PathFrom successors n u v → Edge successors n v w → PathFrom successors n u w

-- how often k stands in a list
abbrev pub times : ℕ → List ℕ → ℕ
times k [] = 0
times k (x ∷ xs) = pick (eqb x k) 1 0 + times k xs

-- The numbers below n, each once, in some order.
pub record Permutation (n : ℕ) (l : List ℕ) : Type 0 where
  pub long : length l ≡ n
  pub once : (k : ℕ) → k < n → times k l ≡ 1
  pub no_other : (k : ℕ) → n ≤ k → times k l ≡ 0

-- The textbook's depth-first walk, as rules, with no bound and no flags. Given the blocks to go to, the last first, and
-- those met before: the blocks left, in the order in which the walk leaves them, and all blocks met then.
pub data Post (successors : ℕ → List ℕ) (n : ℕ) : List ℕ → List ℕ → List ℕ → List ℕ → Type 0 where
  done : {seen : List ℕ} → Post successors n [] seen [] seen
  -- a block that is not there, or was met before
  pass : {v : ℕ} {vs seen out seen₁ : List ℕ} → Post successors n vs seen out seen₁ → (n ≤ v) ⊎ In v seen₁
      → Post successors n (v ∷ vs) seen out seen₁
  -- any other block is left once all that comes of its successors is
  into : {v : ℕ} {vs seen out seen₁ inner seen₂ : List ℕ} → Post successors n vs seen out seen₁
      → v < n → (In v seen₁ → ⊥) → Post successors n (successors v) (v ∷ seen₁) inner seen₂
      → Post successors n (v ∷ vs) seen (out ++ (inner ++ (v ∷ []))) seen₂

-- The post-order of a walk from block 0.
pub record PostOrder (successors : ℕ → List ℕ) (n : ℕ) (out : List ℕ) : Type 0 where
  pub seen : List ℕ
  pub rules : Post successors n (0 ∷ []) [] out seen
