-- From a body read and its blocks linked to the whole: what was read is what the definition gives, it stands in the
-- slices, and there is room to go on.
use Rattle.std.specs.Prelude.{Err, Ok, Result}
use Prim.Native.Nat.{ℕ, ◌+◌, ◌*◌, ◌≤◌}
use mathlib.Core.Path.{◌≡◌, refl, ap, subst, ◌∙◌}
use mathlib.Core.Bool.{Bool, true}
use mathlib.Core.List.{List}
use native.Mathlib.Omega.{arith}
use lib.ListN.{length, take, drop}
use lib.Seq.{length-sets, sets-eq, take-append_seam}
use Rattle.lexer.specs.Decoded.{Tok}
use Rattle.parser.specs.Step.{then_at}
use Rattle.body.specs.Body.{Item, Body, labels_of, closed_items}
use Rattle.body.specs.Shapes.{shapes_of}
use Rattle.link.specs.Blocks.{Block}
use Rattle.link.specs.Edges.{Resolved, fine, refused, resolve_d, successors}
use Rattle.body.proofs.BodyLaws.{names-closed}
use Rattle.parser.specs.declared.Refusal.{Refusal}
use Rattle.body.specs.Records.{items_cells, arguments_count, parts_at}
use Rattle.body.specs.Room.{Bounds, filled}
use Rattle.body.specs.Answer.{function_body, body_read, Stored, Held}
use Rattle.body.proofs.Decode.{parts_stored}
use Rattle.body.proofs.Lay.{arguments_cells-closed, arguments_count-closed}
use Rattle.body.specs.declared.Closed.{Closed}
use Rattle.link.specs.Cells.{predecessor_cells, linked_by, link_d, Linking}
use Rattle.link.specs.declared.Linked.{Linked}
use Rattle.link.specs.Steps.{Ready}
use Rattle.link.proofs.Laws.{at_most_256, blocks-counted}
use Rattle.link.proofs.Edges.{thin_blocks, entries-few}
use Rattle.link.proofs.Whole.{entries_are}
use Rattle.functions.specs.Functions.{built, not_built, blocks_in, built_d}
use Rattle.functions.specs.Answer.{edges_in, predecessors_in, Room, Long, BuildHeld, build_read}
use Rattle.functions.specs.declared.Counts.{Counts}

-- what a body's answer says of where it ended
done_at : (e : Result ℕ Refusal) (next items arguments labels : ℕ) (c : Closed)
    → Ok c ≡ then_at Err e (λ next. Ok (record {
      next = next;
      items = items;
      arguments = arguments;
      labels = labels;
    }))
    → (e ≡ Ok c.next) × (c.items ≡ items) × (c.arguments ≡ arguments) × (c.labels ≡ labels)
unfolding then_at
done_at (Ok i) next items arguments labels c h = (cc, cc, cc, cc)
done_at (Err e) next items arguments labels c h = absurd (let z : ◌≡◌ {A = ℕ} 0 1 = cc in omega arith)

refused_at_lem : (e : Result ℕ Refusal) (items arguments labels : ℕ) (r : Refusal)
    → ◌≡◌ {A = Result Closed Refusal} (Err r) (then_at Err e (λ next. Ok (record {
      next = next;
      items = items;
      arguments = arguments;
      labels = labels;
    })))
    → e ≡ Err r
unfolding then_at
refused_at_lem (Ok i) items arguments labels r h = absurd (let z : ◌≡◌ {A = ℕ} 0 1 = cc in omega arith)
refused_at_lem (Err e) items arguments labels r h = cc

linked_refused : (bs : List Block) (x : Resolved) (e : Refusal) → Err e ≡ linked_by bs x → x ≡ refused e
linked_refused bs fine e h = let z : ◌≡◌ {A = ℕ} 0 1 = cc in absurd (omega arith)
linked_refused bs (refused e') e h = cc

linked_done : (bs : List Block) (x : Resolved) (l : Linked) → Ok l ≡ linked_by bs x
    → (x ≡ fine) × (l.blocks ≡ length bs) × (l.predecessors ≡ length (predecessor_cells 0 (successors bs bs) bs))
linked_done bs fine l h = (refl, cc, cc)
linked_done bs (refused e) l h = let z : ◌≡◌ {A = ℕ} 0 1 = cc in absurd (omega arith)

module _ (ts : List Tok) (void : Bool) (named at : ℕ) (n : Counts)
    (items₀ items arguments₀ arguments labels₀ labels : List ℕ) where
  abbrev body : Body
  body = function_body ts at

  abbrev is : List Item
  is = closed_items void body.items

  abbrev bs : List Block
  bs = blocks_in is

  pub body_refused : (e : Refusal) → Err e ≡ body_read void body → built_d ts void named at ≡ not_built e
  unfolding body_read built_d then_at
  body_refused e h =
      rw (refused_at_lem body.end (length is) (arguments_count body.items) (length (labels_of body.items)) e h)

  module _ (c : Closed) (done : Ok c ≡ body_read void body)
      (held : Held ts void body.items at n.items n.arguments items₀ items arguments₀ arguments labels₀ labels
      body.end)
      (room : Room ts at n) (behind : n.blocks * 4 + 2 ≤ at) (blocks₀ preds₀ : List ℕ)
      (long : Long items₀ arguments₀ blocks₀ preds₀) (labels-long : 255 ≤ length labels) where
    ended : (body.end ≡ Ok c.next) × (c.items ≡ length is) × (c.arguments ≡ arguments_count body.items)
        × (c.labels ≡ length (labels_of body.items))
    unfolding body_read
    ended = done_at body.end 0 (length is) (arguments_count body.items) (length (labels_of body.items)) c done

    stored : Stored ts void body.items at n.items n.arguments c.next items₀ items arguments₀ arguments
        labels₀ labels
    stored =
        subst (λ (e : Result ℕ Refusal).
        Held ts void body.items at n.items n.arguments items₀ items arguments₀ arguments labels₀ labels e)
        ended.0 held

    bounds : Bounds at c.next (length is) (arguments_count body.items) (filled true (shapes_of is))
    bounds = stored.bounds

    few-items : n.items + c.items ≤ 3072
    few-items =
        omega (arith, bounds.items_few, room.items_few, stored.on.reached, stored.on.few, ended.1)

    items_long : length items ≡ length items₀
    items_long = ap length stored.items_are ∙ length-sets items₀ (n.items * 8) (items_cells n.arguments is)

    parts : parts_at items n.items c.items ≡ shapes_of is
    parts =
        ap (λ (k : ℕ). parts_at items n.items k) ended.1
        ∙ parts_stored items items₀ n.arguments n.items is stored.items_are
        (omega (arith, few-items, ended.1, long.items_long))

    -- the labels stand at the front
    labels-front : take (length (labels_of body.items)) labels ≡ labels_of body.items
    labels-front =
        let ls : List ℕ = labels_of body.items in
        let same : length labels ≡ length labels₀ = ap length stored.labels_are ∙ length-sets labels₀ 0 ls in
        let fits : 0 + length ls ≤ length labels₀ = omega (arith, stored.few-labels, labels-long) in
        rw (stored.labels_are, sets-eq ls labels₀ 0 fits) (take-append_seam ls (drop (0 + length ls) labels₀))

    few-filled : (n.blocks + filled true (shapes_of is)) * 4 ≤ 4096
    few-filled = omega (arith, bounds.blocks_few, behind, stored.on.reached, stored.on.few)

    pub ready : Ready items n.items c.items labels c.labels blocks₀ n.blocks preds₀ n.predecessors
    ready =
        record {
          items_there = omega (arith, few-items, items_long, long.items_long);
          few-items = few-items;
          few-labels = omega (arith, ended.3, stored.few-labels);
          labels_there = omega (arith, ended.3, stored.few-labels, labels-long);
          labels_are =
              rw (ended.3, parts, names-closed void 0 0 body.items) labels-front;
          few_blocks = rw parts (omega (arith, few-filled));
          blocks_there = long.blocks_long;
          few-before = room.predecessors_few;
          predecessors_there = long.predecessors_long;
        }

    pub link_refused : (e : Refusal) → Err e ≡ link_d named (parts_at items n.items c.items)
        → built_d ts void named at ≡ not_built e
    unfolding built_d then_at link_d
    link_refused e h =
        rw (ended.0, linked_refused bs (resolve_d named bs) e (rw parts at h))

    module _ (l : Linked) (linked : Ok l ≡ link_d named (parts_at items n.items c.items)) (blocks preds : List ℕ)
        (kept : Linking (parts_at items n.items c.items) n.items n.blocks n.predecessors blocks₀ blocks
        preds₀ preds)
      where
        linked_to : (resolve_d named bs ≡ fine) × (l.blocks ≡ length bs) × (l.predecessors ≡ length
            (predecessors_in is))
        unfolding link_d
        linked_to = linked_done bs (resolve_d named bs) l (rw parts at linked)

        pub is-built : built_d ts void named at ≡ built is c.next
        unfolding built_d then_at
        is-built = rw (ended.0, linked_to.0)

        few-predecessors : length (predecessors_in is) ≤ length bs * 2
        few-predecessors =
            let thin = rw parts at (thin_blocks items n.items c.items) in
            omega (arith, entries-few bs bs (length bs) thin, ap length (entries_are bs 0 (edges_in is)))

        pub answered : Ok (record {
          next = c.next;
          items = c.items;
          arguments = c.arguments;
          blocks = l.blocks;
          predecessors = l.predecessors;
        })
            ≡ build_read (built_d ts void named at)
        answered =
            rw is-built
            (rw (ended.1, ended.2, linked_to.1, linked_to.2, arguments_count-closed void body.items))

        pub is_held : BuildHeld ts n items₀ items arguments₀ arguments blocks₀ blocks preds₀ preds
            (built_d ts void named at)
        is_held =
            rw is-built
            (record {
              items_are = stored.items_are;
              arguments_are = rw (arguments_cells-closed void body.items) stored.arguments_are;
              blocks_are = rw parts at kept.blocks_are;
              predecessors_are = rw parts at kept.predecessors_are;
              room =
                  record {
                    within = stored.on;
                    items_few = omega (arith, bounds.items_few, room.items_few);
                    arguments_few =
                        omega (
                          arith,
                          bounds.arguments_few,
                          room.arguments_few,
                          arguments_count-closed void
                              body.items,
                        );
                    blocks_few =
                        omega (arith, bounds.blocks_few, behind, blocks-counted named (shapes_of is) linked_to.0);
                    predecessors_few = omega (arith, few-predecessors, room.predecessors_few);
                  };
              few_blocks =
                  at_most_256 (shapes_of is)
                  (omega (arith, stored.few-labels, ap length (names-closed void 0 0 body.items)));
              on = omega (arith, bounds.blocks_few, behind);
            })
