-- How the code walks without recursion: the Rust's `processing`, a stack of things still to do. Definitions of the
-- contracts within the crate.
use Rattle.std.specs.Prelude.{ℕ, zero, suc, ◌+◌, ◌-◌, ◌*◌, ◌≤◌, ◌<◌, ◌≡◌, List, [], ◌∷◌, eqb, ltb, length, get_or, set, take, drop, replicate}
use Rattle.utils.specs.Bytes.{pick}
use Rattle.graph.specs.Walk.{Walk, walk_from, leave}
use Rattle.graph.specs.declared.walk.State.{State}

-- A stack: its first `top` entries.
pub record Stack : Type 0 where
  pub entries : List ℕ
  pub top : ℕ

abbrev pub stack : List ℕ → ℕ → Stack
stack entries top = record { entries = entries; top = top }

-- A block goes on top, if it is one of the n; several do, one after the other.
unfoldable pub push_one : ℕ → ℕ → Stack → Stack
push_one n v p = pick (ltb v n) (stack (set p.entries p.top v) (p.top + 1)) p

abbrev pub push_all : ℕ → List ℕ → Stack → Stack
push_all n [] p = p
push_all n (v ∷ vs) p = push_all n vs (push_one n v p)

-- how many blocks are still to be met
abbrev pub waiting : List ℕ → ℕ
waiting [] = 0
waiting (flag ∷ flags) = pick (eqb flag 0) 1 0 + waiting flags

-- What the code has in hand: the flags, the blocks left, from `at` on, and the first `top` entries of the stack.
abbrev pub state : List ℕ → List ℕ → List ℕ → ℕ → ℕ → State
state met left entries top at = record { met = met; left = left; entries = entries; top = top; at = at }

-- before the walk
abbrev pub unbegun : State
unbegun = state (replicate 256 0) (replicate 256 0) (replicate 513 0) 0 256

-- A push changes the stack alone.
pub record SameWalk (a a' : State) : Type 0 where
  pub met : a'.met ≡ a.met
  pub left : a'.left ≡ a.left
  pub at : a'.at ≡ a.at

-- Where the walk of n blocks is then.
abbrev pub here : ℕ → List ℕ → List ℕ → ℕ → Walk
here n met left at = record { met = take n met; left = drop at left }

-- An entry below 256 says: walk from this block. With 256 more it says: leave it.
abbrev pub frame : (ℕ → List ℕ) → ℕ → ℕ → Walk → Walk
frame successors n entry s =
    let into = walk_from successors n entry s in
    let out = leave (entry - 256) s in
    pick (ltb entry 256) into out

-- The first `top` entries are done, the last first.
abbrev pub resume : (ℕ → List ℕ) → ℕ → List ℕ → ℕ → Walk → Walk
resume successors n entries zero s = s
resume successors n entries (suc t) s = resume successors n entries t (frame successors n (get_or entries t 0) s)

-- What comes of it all.
abbrev pub coming : (ℕ → List ℕ) → ℕ → State → Walk
coming successors n a = resume successors n a.entries a.top (here n a.met a.left a.at)

-- how many of the first `top` entries say to leave a block
abbrev pub marks : List ℕ → ℕ → ℕ
marks entries zero = 0
marks entries (suc t) = pick (ltb (get_or entries t 0) 256) 0 1 + marks entries t

-- how much is left to do
abbrev pub size : ℕ → State → ℕ
size n a = a.top + 3 * waiting (take n a.met)

-- Between two turns: there is room on the stack for two successors of each block that is still to be met, and in front
-- of the blocks left for each block that is still to be left.
pub record Ready (n : ℕ) (a : State) : Type 0 where
  pub few : n ≤ 256
  pub long_met : length a.met ≡ 256
  pub long_left : length a.left ≡ 256
  pub deep : length a.entries ≡ 513
  pub small : (k : ℕ) → k < a.top → get_or a.entries k 0 < 512
  pub blocks : (k : ℕ) → k < a.top → get_or a.entries k 0 < 256 → get_or a.entries k 0 < n
  pub room : a.top + waiting (take n a.met) + waiting (take n a.met) ≤ 513
  pub front : waiting (take n a.met) + marks a.entries a.top ≤ a.at
  pub within : a.at ≤ 256

-- A turn keeps what comes of it all, and leaves less to do.
pub record Turned (successors : ℕ → List ℕ) (n : ℕ) (a a' : State) : Type 0 where
  pub ready : Ready n a'
  pub less : size n a' < size n a
  pub same : coming successors n a' ≡ coming successors n a

-- The arrays hold the walk s.
pub record Holds (s : Walk) (n : ℕ) (met left : List ℕ) (at : ℕ) : Type 0 where
  pub long_met : length met ≡ 256
  pub long_left : length left ≡ 256
  pub within : at ≤ 256
  pub same : here n met left at ≡ s
