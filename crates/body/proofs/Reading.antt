-- Why the body's loop is right: what is left to read, read from here, gives the whole body; the cells are those of what
-- was read. One lemma for each way a turn can end.
use Rattle.std.specs.Prelude.{Err, Ok}
use Prim.Native.Nat.{ℕ, zero, suc, ◌+◌, ◌-◌, ◌*◌, ◌≤◌}
use mathlib.Core.Path.{◌≡◌, refl, sym, ◌∙◌}
use mathlib.Core.Bool.{Bool, true}
use mathlib.Core.List.{List}
use native.Mathlib.Omega.{arith}
use native.Mathlib.Nat.{zero-add}
use lib.ListN.{length}
use lib.Seq.{sets, length-sets}
use Rattle.lexer.specs.Decoded.{Tok}
use Rattle.parser.specs.Step.{then_at}
use Rattle.body.specs.Body.{Body, body_stop, labels_of, lacks_ret, closed_from, closed_items}
use Rattle.body.specs.Shapes.{shapes_of}
use Rattle.parser.specs.declared.Refusal.{Refusal}
use Rattle.body.specs.Records.{items_cells, arguments_cells, arguments_count}
use Rattle.body.specs.Room.{Within, filled}
use Rattle.body.specs.Answer.{function_body, body_read, Stored, Held}
use Rattle.body.specs.Turns.{before_number, added, Ready, body_from, Gone, Ended}
use Rattle.body.specs.declared.Before.TheVariants as B
use Rattle.body.specs.declared.Closed.{Closed}
use Rattle.body.specs.declared.Going.{Going}
use Rattle.body.proofs.Cells.{fresh, started, items-on, arguments-on, items-count-on, arguments_count-on, blocks-on}
use Rattle.body.proofs.Cells.{labels-on, labels-count-on, items-few-on, blocks-few-on, ending_filled, ending_few}
use Rattle.body.proofs.Cells.{lacks_operation}

-- the loop's state, with the room that is left and the blocks begun so far
pub record Reading (ts : List Tok) (void : Bool) (at first used : ℕ) (whole : Body) (items₀ arguments₀ labels₀ : List ℕ)
    (s : Going) (items arguments labels : List ℕ) (room blocks : ℕ) : Type 0 where
  pub within : Within ts s.at
  pub long-items : length items ≡ length items₀
  pub long-arguments : length arguments ≡ length arguments₀
  pub long-labels : length labels ≡ length labels₀
  pub fuel : 4096 ≤ room + s.at
  pub ends : (body_from ts room s labels).end ≡ whole.end
  pub items-rest : sets items (s.items * 8)
      (items_cells s.arguments (closed_from void (before_number s.before) s.last (body_from ts room s labels).items))
      ≡ sets items₀ (first * 8) (items_cells used (closed_items void whole.items))
  pub arguments-rest : sets arguments (s.arguments * 2) (arguments_cells (body_from ts room s labels).items)
      ≡ sets arguments₀ (used * 2) (arguments_cells whole.items)
  pub labels-rest : sets labels s.labels (labels_of (body_from ts room s labels).items)
      ≡ sets labels₀ 0 (labels_of whole.items)
  pub items-count : s.items + length
      (closed_from void (before_number s.before) s.last (body_from ts room s labels).items)
      ≡ first + length (closed_items void whole.items)
  pub arguments_count_lem : s.arguments + arguments_count (body_from ts room s labels).items
      ≡ used + arguments_count whole.items
  pub labels-count : s.labels + length (labels_of (body_from ts room s labels).items) ≡ length (labels_of whole.items)
  pub blocks-count : blocks
      + filled (fresh (before_number s.before))
      (shapes_of (closed_from void (before_number s.before) s.last (body_from ts room s labels).items))
      ≡ filled true (shapes_of (closed_items void whole.items))
  pub items_few : at * 3 + s.items * 4 ≤ s.at * 3 + first * 4
  pub items_spared : before_number s.before ≡ 2 → at * 3 + s.items * 4 + 2 ≤ s.at * 3 + first * 4
  pub arguments_few : at * 16 + s.arguments * 19 ≤ s.at * 16 + used * 19
  pub labels_few : s.labels ≤ 255
  pub blocks_few : at + blocks * 4 ≤ s.at + 2
  pub blocks_spared : before_number s.before ≤ 1 → at + blocks * 4 ≤ s.at

abbrev pub beginning : ℕ → ℕ → ℕ → Going
beginning at first used = record { at = at; items = first; arguments = used; labels = 0; before = B.Brace; last = 0 }

pub begin : (ts : List Tok) (void : Bool) (at first used : ℕ) (items arguments labels : List ℕ) → Within ts at
    → Reading ts void at first used (function_body ts at) items arguments labels
    (beginning at first used) items arguments labels
    4096 0
begin ts void at first used items arguments labels w =
    record {
      within = w;
      long-items = refl;
      long-arguments = refl;
      long-labels = refl;
      fuel = omega arith;
      ends = refl;
      items-rest = refl;
      arguments-rest = refl;
      labels-rest = refl;
      items-count = refl;
      arguments_count_lem = refl;
      labels-count = zero-add (length (labels_of (function_body ts at).items));
      blocks-count = zero-add (filled true (shapes_of (closed_items void (function_body ts at).items)));
      items_few = omega arith;
      items_spared = λ z. absurd (omega (arith, z));
      arguments_few = omega arith;
      labels_few = omega arith;
      blocks_few = omega arith;
      blocks_spared = λ z. omega arith;
    }

-- the answer of a body that is closed
pub closed-read : (ts : List Tok) (void : Bool) (at first used : ℕ) (whole : Body) (e : Closed)
    (items₀ items arguments₀ arguments labels₀ labels : List ℕ)
    → (whole.end ≡ Ok e.next) × (length (closed_items void whole.items) + first ≡ e.items)
    × (arguments_count whole.items + used ≡ e.arguments) × (length (labels_of whole.items) ≡ e.labels)
    × Stored ts void whole.items at first used e.next items₀ items arguments₀ arguments labels₀ labels
    → (Ok (record { next = e.next; items = e.items - first; arguments = e.arguments - used; labels = e.labels })
    ≡ body_read void whole)
    × Held ts void whole.items at first used items₀ items arguments₀ arguments labels₀ labels whole.end
unfolding body_read then_at
closed-read ts void at first used whole e items₀ items arguments₀ arguments labels₀ labels f =
    let n : e.items - first ≡ length (closed_items void whole.items) = omega (arith, f.1) in
    let m : e.arguments - used ≡ arguments_count whole.items = omega (arith, f.2) in
    rw (f.0, n, m, ← f.3) (refl, f.4)

-- the answer of a body that is refused
pub refused-read : (ts : List Tok) (void : Bool) (at first used : ℕ) (whole : Body) (e : Refusal)
    (items₀ items arguments₀ arguments labels₀ labels : List ℕ) → whole.end ≡ Err e
    → (Err e ≡ body_read void whole)
    × Held ts void whole.items at first used items₀ items arguments₀ arguments labels₀ labels whole.end
unfolding body_read then_at
refused-read ts void at first used whole e items₀ items arguments₀ arguments labels₀ labels f = rw f (refl, tt)

module _ {ts : List Tok} {void : Bool} {at first used : ℕ} {whole : Body} {items₀ arguments₀ labels₀ : List ℕ}
    (first-few : first * 4 ≤ at * 3) (used-few : used * 19 ≤ at * 16) where
  module _ {s : Going} {items arguments labels : List ℕ} where
    pub ready : {room blocks : ℕ}
        → Reading ts void at first used whole items₀ arguments₀ labels₀ s items arguments labels room blocks
        → Ready ts s
    ready v =
        record {
          within = v.within;
          items_few = omega (arith, v.items_few);
          arguments_few = omega (arith, v.arguments_few);
          labels_few = v.labels_few;
        }

    -- room is left
    roomy : {room blocks : ℕ}
        → Reading ts void at first used whole items₀ arguments₀ labels₀ s items arguments labels room blocks → 1 ≤ room
    roomy v = omega (arith, v.fuel, v.within.reached, v.within.few)

    -- one item more
    pub onward : (room blocks : ℕ) {s' : Going} {items' arguments' labels' : List ℕ}
        → Reading ts void at first used whole items₀ arguments₀ labels₀ s items arguments labels room blocks
        → length labels' ≡ length labels
        → Gone ts void s s' items items' arguments arguments' labels labels'
        → (room' : ℕ) × (blocks' : ℕ)
        × Reading ts void at first used whole items₀ arguments₀ labels₀ s' items' arguments' labels' room' blocks'
    onward zero blocks v k g = absurd (omega (arith, roomy v))
    onward (suc room) blocks {s'} {items'} {arguments'} {labels'} v k g =
        let i = g.read in
        let is = (body_from ts room s' labels').items in
        let t = g.taken in
        let go = g.goes room in
        let few =
        items-few-on void s.last i (before_number s.before) s.items (at * 3) s.at s'.at (first * 4) v.items_few
        v.items_spared g.passed.two in
        let begun =
        blocks-few-on i (before_number s.before) blocks at s.at s'.at v.blocks_few v.blocks_spared g.passed.two in (
          room,
          blocks + started (before_number s.before) i,
          record {
            within = g.passed.within;
            long-items = rw (t.items_are, length-sets) v.long-items;
            long-arguments = rw (t.arguments_are, length-sets) v.long-arguments;
            long-labels = k ∙ v.long-labels;
            fuel = omega (arith, v.fuel, g.passed.two);
            ends = rw go at v.ends;
            items-rest = items-on t is ∙ rw go at v.items-rest;
            arguments-rest = arguments-on t is ∙ rw go at v.arguments-rest;
            labels-rest =
                labels-on i is s.labels s'.labels g.labels_next labels labels' g.labels_are
                ∙ rw go at v.labels-rest;
            items-count = items-count-on t is ∙ rw go at v.items-count;
            arguments_count_lem = arguments_count-on t is ∙ rw go at v.arguments_count_lem;
            labels-count =
                labels-count-on i is s.labels s'.labels g.labels_next ∙ rw go at v.labels-count;
            blocks-count = omega (arith, blocks-on t is, rw go at v.blocks-count);
            items_few = rw t.items_next few.0;
            items_spared = λ z. rw t.items_next (few.1 (sym t.before_is ∙ z));
            arguments_few = omega (arith, v.arguments_few, t.arguments_next, g.passed.arguments_few);
            labels_few = g.labels_few;
            blocks_few = begun.0;
            blocks_spared = λ z. begun.1 (rw t.before_is at z);
          },
        )

    -- a refusal
    pub stop : (room blocks : ℕ) (e : Refusal)
        → Reading ts void at first used whole items₀ arguments₀ labels₀ s items arguments labels room blocks
        → ((room : ℕ) → body_from ts (suc room) s labels ≡ body_stop e) → whole.end ≡ Err e
    stop zero blocks e v g = absurd (omega (arith, roomy v))
    stop (suc room) blocks e v g = let go = g room in sym (rw go at v.ends)

    -- the closing brace
    pub finish : (room blocks : ℕ) {e : Closed} {items' arguments' labels' : List ℕ}
        → Reading ts void at first used whole items₀ arguments₀ labels₀ s items arguments labels room blocks
        → Ended ts void s e items items' arguments arguments' labels labels'
        → (whole.end ≡ Ok e.next) × (length (closed_items void whole.items) + first ≡ e.items)
        × (arguments_count whole.items + used ≡ e.arguments) × (length (labels_of whole.items) ≡ e.labels)
        × Stored ts void whole.items at first used e.next items₀ items' arguments₀ arguments' labels₀ labels'
    unfolding closed_from items_cells arguments_cells arguments_count labels_of added
    finish zero blocks v g = absurd (omega (arith, roomy v))
    finish (suc room) blocks {e} v g =
        let go = g.goes room in
        let lacks = lacks_ret void (before_number s.before) in
        let n : s.items + length (added lacks s.last) ≡ first + length (closed_items void whole.items) =
        rw go at v.items-count in
        let m : s.arguments + 0 ≡ used + arguments_count whole.items = rw go at v.arguments_count_lem in
        let l : s.labels + 0 ≡ length (labels_of whole.items) = rw go at v.labels-count in
        let b : blocks + filled (fresh (before_number s.before)) (shapes_of (added lacks s.last))
        ≡ filled true (shapes_of (closed_items void whole.items)) =
        rw go at v.blocks-count in
        let few =
        ending_few lacks s.last (before_number s.before) s.items (at * 3) s.at e.next (first * 4)
        (lacks_operation void (before_number s.before)) v.items_few v.items_spared g.one in (
          sym (rw go at v.ends),
          omega (arith, g.items_next),
          omega (arith, g.arguments_next),
          omega (arith, g.labels_next),
          record {
            items_are = g.items_are ∙ rw go at v.items-rest;
            arguments_are = g.arguments_are ∙ rw go at v.arguments-rest;
            labels_are = g.labels_are ∙ rw go at v.labels-rest;
            few-labels = omega (arith, l, v.labels_few);
            on = g.within;
            bounds =
                record {
                  items_few = omega (arith, few, n);
                  arguments_few = omega (arith, v.arguments_few, g.one);
                  blocks_few = omega (
                    arith,
                    b,
                    ending_filled void (before_number s.before) s.last,
                    v.blocks_few,
                    g.one,
                  );
                };
          },
        )
