-- One turn of the loop, by what the entry on top is: a block to leave, a block that was met before, a block to meet.
-- Each time the same comes of what is left to do, and there is less of it: an entry goes, or a block is met, which
-- counts for three, and two entries at most are added.
use Prim.Native.Nat.{ℕ, zero, suc, ◌+◌, ◌-◌, ◌≤◌, ◌<◌}
use mathlib.Core.Path.{◌≡◌, sym, ap, ◌∙◌, subst}
use mathlib.Core.Bool.{false}
use mathlib.Core.List.{List, [], ◌∷◌}
use native.Mathlib.Omega.{arith}
use borrow.Author.Tests.{lt-ltb, le-ltb, ne_eqb}
use lib.ListN.{length, get_or, set, take, drop, length-set}
use lib.Seq.{drop-cons, get_or-set_same, drop-set-lt, get_or-take, take-set-lt, length-take-le}
use Rattle.utils.specs.Bytes.{pick}
use Rattle.graph.specs.Walk.{Walk, is_new, meet, leave, last_first, walk_from}
use Rattle.graph.specs.Frames.{Stack, stack, push_all, state, here, frame, resume}
use Rattle.graph.specs.Frames.{marks, waiting, Ready, Turned, SameWalk}
use Rattle.graph.specs.declared.walk.State.{State}
use Rattle.graph.proofs.Steps.{New, is_new_lem, get_d_any, walk_again}
use Rattle.graph.proofs.Counts.{waiting-set}
use Rattle.graph.proofs.Depth.{enough_on}
use Rattle.graph.proofs.Stack.{frame-low, frame_high, resume-top, marks-top, Pushed, pushed_none, pushed-all}

waiting_most : (flags : List ℕ) → waiting flags ≤ length flags
unfolding pick
waiting_most [] = omega arith
waiting_most (zero ∷ flags) = let r = waiting_most flags in omega arith
waiting_most (suc x ∷ flags) = let r = waiting_most flags in rw (ne_eqb (suc x) 0 (λ e. omega arith)) (omega arith)

-- an element is stored right before the rest
drop-set : (xs : List ℕ) (k v : ℕ) → k < length xs → drop k (set xs k v) ≡ v ∷ drop (suc k) xs
drop-set xs k v h =
    drop-cons (set xs k v) k 0 (rw length-set h)
    ∙ rw (get_or-set_same xs k v 0 h, drop-set-lt (suc k) xs k v (omega arith))

-- the entry on top
abbrev pub current : State → ℕ
current a = get_or a.entries (a.top - 1) 0

-- the stack once the entry on top says to leave its block
abbrev marked : State → List ℕ
marked a = set a.entries (a.top - 1) (current a + 256)

-- once that block is met
abbrev met : State → Stack → State
met a p = state (set a.met (current a) 1) a.left p.entries p.top a.at

module _ (g : ℕ → List ℕ) (n : ℕ) (a : State) (ready : Ready n a) (some : 0 < a.top) where
  abbrev from : Walk
  from = here n a.met a.left a.at

  -- what comes of the entries below the top one
  abbrev below : Walk → Walk
  below = resume g n a.entries (a.top - 1)

  long : length (take n a.met) ≡ n
  long = length-take-le n a.met (omega (arith, ready.long_met, ready.few))

  there : current a < 256 → current a < n
  there = ready.blocks (a.top - 1) (omega arith)

  marks_high : 256 ≤ current a → marks a.entries a.top ≡ 1 + marks a.entries (a.top - 1)
  unfolding pick
  marks_high h = rw (le-ltb (current a) 256 h) at (marks-top a.entries a.top some)

  marks-low : current a < 256 → marks a.entries a.top ≡ marks a.entries (a.top - 1)
  unfolding pick
  marks-low h = let m = rw (lt-ltb (current a) 256 h) at (marks-top a.entries a.top some) in omega arith

  pub room-left : 256 ≤ current a → 0 < a.at
  room-left h = omega (arith, marks_high h, ready.front)

  pub turn_leave : 256 ≤ current a
      → Turned g n a (state a.met (set a.left (a.at - 1) (current a - 256)) a.entries (a.top - 1) (a.at - 1))
  turn_leave h =
      let left = set a.left (a.at - 1) (current a - 256) in
      let there = room-left h in
      let k : suc (a.at - 1) ≡ a.at = omega arith in
      let front : drop (a.at - 1) left ≡ (current a - 256) ∷ drop a.at a.left =
      rw k at (drop-set a.left (a.at - 1) (current a - 256) (omega (arith, ready.long_left, ready.within))) in
      let gone : here n a.met left (a.at - 1) ≡ leave (current a - 256) from =
      λ i. record { met = take n a.met; left = front i } in
      record {
        ready =
            record {
              few = ready.few;
              long_met = ready.long_met;
              long_left = length-set a.left (a.at - 1) (current a - 256) ∙ ready.long_left;
              deep = ready.deep;
              small = λ k l. ready.small k (omega arith);
              blocks = λ k l. ready.blocks k (omega arith);
              room = omega (arith, ready.room);
              front = omega (arith, marks_high h, ready.front);
              within = omega (arith, ready.within);
            };
        less = omega arith;
        same =
            ap below (gone ∙ sym (frame_high g n (current a) from h))
            ∙ sym (resume-top g n a.entries a.top from some);
      }

  flag_new : current a < 256 → get_or a.met (current a) 0 ≡ 0 → New (current a) (take n a.met)
  flag_new h z =
      record { there = rw long (there h); flag = get_or-take n a.met (current a) 0 (there h) ∙ z }

  flag_old : current a < 256 → (get_or a.met (current a) 0 ≡ 0 → ⊥) → is_new (current a) from ≡ false
  flag_old h f =
      let e : get_or (take n a.met) (current a) 1 ≡ get_or a.met (current a) 0 =
      get_d_any (take n a.met) (current a) 1 0 (rw long (there h)) ∙ get_or-take n a.met (current a) 0 (there h) in
      ne_eqb (get_or (take n a.met) (current a) 1) 0 (λ z. f (sym e ∙ z))

  pub turn_old : current a < 256 → (get_or a.met (current a) 0 ≡ 0 → ⊥)
      → Turned g n a (state a.met a.left a.entries (a.top - 1) a.at)
  turn_old h f =
      record {
        ready =
            record {
              few = ready.few;
              long_met = ready.long_met;
              long_left = ready.long_left;
              deep = ready.deep;
              small = λ k l. ready.small k (omega arith);
              blocks = λ k l. ready.blocks k (omega arith);
              room = omega (arith, ready.room);
              front = omega (arith, marks-low h, ready.front);
              within = ready.within;
            };
        less = omega arith;
        same =
            ap below (sym (frame-low g n (current a) from h ∙ walk_again g n (current a) from (flag_old h f)))
            ∙ sym (resume-top g n a.entries a.top from some);
      }

  -- A block to meet, and its successors pushed.
  module _ (h : current a < 256) (z : get_or a.met (current a) 0 ≡ 0) where
    met-take : take n (set a.met (current a) 1) ≡ set (take n a.met) (current a) 1
    met-take = take-set-lt n a.met (current a) 1 (there h)

    fewer : waiting (take n (set a.met (current a) 1)) + 1 ≡ waiting (take n a.met)
    fewer = ap (λ (l : List ℕ). waiting l + 1) met-take ∙ waiting-set (take n a.met) (current a) (flag_new h z)

    pub room-two : a.top + 2 ≤ 513
    room-two = omega (arith, fewer, ready.room)

    meets : (p : Stack) → Pushed g n a.entries a.top (current a) (g (current a)) p → p.top ≤ a.top + 2
        → Turned g n a (met a p)
    meets p q l =
        let s = meet (current a) from in
        let met-is : here n (set a.met (current a) 1) a.left a.at ≡ s =
        λ i. record { met = met-take i; left = drop a.at a.left } in
        let step : frame g n (current a) from ≡ leave (current a) (last_first (walk_from g n) (g (current a)) s) =
        frame-low g n (current a) from h
        ∙ enough_on g n (current a) from (omega (arith, waiting_most (take n a.met), long))
        (is_new_lem (current a) from (flag_new h z)) in
        record {
          ready =
              record {
                few = ready.few;
                long_met = length-set a.met (current a) 1 ∙ ready.long_met;
                long_left = ready.long_left;
                deep = q.deep ∙ ready.deep;
                small = q.small;
                blocks = q.blocks;
                room = omega (arith, fewer, ready.room);
                front = omega (arith, fewer, marks-low h, q.marked, ready.front);
                within = ready.within;
              };
          less = omega (arith, fewer);
          same =
              ap (resume g n p.entries p.top) met-is
              ∙ q.resumed s (omega (arith, length-set (take n a.met) (current a) 1, long))
              ∙ ap below (sym step)
              ∙ sym (resume-top g n a.entries a.top from some);
        }

    -- a block has two successors at most
    pub turn_meet : (a' : State) → length (g (current a)) ≤ 2
        → SameWalk (state (set a.met (current a) 1) a.left (marked a) a.top a.at) a'
        → stack a'.entries a'.top ≡ push_all n (g (current a)) (stack (marked a) a.top) → Turned g n a a'
    turn_meet a' l s e =
        let on-top = stack (marked a) a.top in
        let mark =
        pushed_none g n a.entries a.top (current a) some (omega (arith, ready.deep, room-two)) h ready.small
        ready.blocks in
        let all =
        pushed-all g n a.entries a.top (current a) ready.few (g (current a)) [] on-top mark
        (omega (arith, ready.deep, room-two)) in
        let p = stack a'.entries a'.top in
        let t =
        subst (λ (q : Stack). Turned g n a (met a q)) (sym e)
        (meets (push_all n (g (current a)) on-top) all (omega (arith, all.up))) in
        let is : a' ≡ met a p =
        λ i. record { met = s.met i; left = s.left i; entries = p.entries; top = p.top; at = s.at i } in
        subst (λ (x : State). Turned g n a x) (sym is) t
