-- One turn: by the token at hand a label, an operation or the closing brace, as `body_d` takes it.
use Rattle.std.specs.Prelude.{Err, Ok, Result}
use Rattle.parser.specs.declared.Refusal.{Refusal}
use Prim.Native.Nat.{ℕ, ◌+◌, ◌*◌, ◌≤◌, ◌<◌}
use mathlib.Core.Path.{◌≡◌, refl, sym, ap, ◌∙◌}
use mathlib.Core.Bool.{Bool, true, false}
use mathlib.Core.List.{List, [], ◌∷◌, ◌++◌}
use native.Mathlib.Omega.{arith}
use native.Mathlib.Nat.{add-zero}
use native.Mathlib.Numerals.{add-one}
use borrow.Author.Tests.{eqb-true}
use lib.Dec.{eqb}
use lib.ListN.{length, take, set, length-append}
use lib.Seq.{sets, length-take-le, take-suc-set}
use Rattle.utils.specs.Bytes.{pick}
use Rattle.utils.proofs.Runs.{sets_append}
use Rattle.pieces.proofs.Progress.{pick_either}
use Rattle.pieces.specs.declared.Identifier.{Identifier}
use Rattle.lexer.specs.Decoded.{Tok, token_at}
use Rattle.parser.specs.Step.{opened}
use Rattle.parser.specs.Runs.{variables_cells}
use Rattle.parser.specs.Labels.{labelled_d}
use Rattle.body.specs.Body.{label, body_d, body_then, closes, behind, labels_of, lacks_ret}
use Rattle.body.specs.Records.{none, item_record, record_of, record_cells, items_cells}
use Rattle.body.specs.declared.Last.TheVariants as L
use Rattle.body.specs.Room.{Within}
use Rattle.body.specs.Turns.{before_number, added, closing, before_next, last_next, item_then, Ready, ItemTurned}
use Rattle.body.specs.Turns.{behind_label, label_put, LabelTaken, LabelTurned, Ended, Turned}
use Rattle.body.specs.declared.Closed.{Closed}
use Rattle.body.specs.declared.Going.{Going}
use Rattle.body.specs.declared.Turn.{Turn}
use Rattle.body.specs.declared.Turn.TheVariants as T
use Rattle.body.proofs.Cells.{added_cells_lem}
use Rattle.body.proofs.Lay.{length-items_cells, items_cells_append}
use Rattle.body.proofs.Progress.{LabelIn, label_in, moves}

-- A label. ----------------------------------------------------------------------------------------------------------

pub added_short : (t : Bool) (last : ℕ) → length (added t last) ≤ 1
unfolding added pick
added_short true last = omega arith
added_short false last = omega arith

module _ (ts : List Tok) (void : Bool) (s : Going) {l : Identifier} {next : ℕ} (labels₀ : List ℕ) (g : Ready ts s)
    (long : 255 ≤ length labels₀) {r : Result (Identifier × ℕ) Refusal}
    (e : r ≡ labelled_d ts (take s.labels labels₀) s.at)
    (f : r ≡ Ok (l, next))
  where
    labelled : (s.at + 2 ≤ next) × (next ≤ g.within.last) × (s.labels < 255)
    labelled =
        let w = g.within in
        let few : s.labels ≤ length labels₀ = omega (arith, g.labels_few, long) in
        let h : LabelIn s.at w.last (length (take s.labels labels₀)) (Ok (l, next)) =
        rw (sym e ∙ f) at (label_in ts w.last w.ends (take s.labels labels₀) s.at w.reached) in
        (h.0, h.1, rw (length-take-le s.labels labels₀ few) at h.2)

    -- there is room for it, and for the `ret` before it
    pub label-room : (items : List ℕ) → 24576 ≤ length items
        → (s.at ≤ 4095) × (s.items * 8 + 24 ≤ 24576) × (24576 ≤ length items) × (s.labels < 255)
        × (255 ≤ length labels₀)
    label-room items there =
        let few = g.within.few in (
          omega (arith, labelled.0, labelled.1, few),
          omega (arith, labelled.0, labelled.1, few, g.items_few),
          there,
          labelled.2,
          long,
        )

    at_label : (items₀ : List ℕ)
        → LabelTaken ts void s (behind_label void s next) items₀ (label_put void s l items₀) labels₀
        (set labels₀ s.labels l.0)
    unfolding closing items_cells record_of variables_cells before_next last_next
    at_label items₀ =
        let w = g.within in
        let t = lacks_ret void (before_number s.before) in
        let xs = added t s.last in
        let m : (s.items + length xs) * 8 ≡ s.items * 8 + length (items_cells s.arguments xs) =
        omega (arith, length-items_cells s.arguments xs) in
        record {
          name = l;
          goes = sym e ∙ f;
          labels_next = refl;
          labels_few = omega (arith, labelled.2);
          labels_are = refl;
          passed =
              record {
                two = labelled.0;
                within = record { last = w.last; ends = w.ends; reached = labelled.1; few = w.few };
                arguments_few = omega (arith, labelled.0);
              };
          taken =
              record {
                items_next = omega (arith, length-append xs (label s.at l ∷ []));
                arguments_next = sym (add-zero s.arguments);
                before_is = refl;
                last_is = refl;
                items_are =
                    rw (
                      added_cells_lem t s.last s.arguments,
                      m,
                      items_cells_append s.arguments xs (label s.at l ∷ []),
                    )
                    (sym
                    (sets_append (items_cells s.arguments xs)
                    (record_cells (item_record 1 s.at none 0 none 0 (L.Name l 0))) items₀
                    (s.items * 8)));
                arguments_are = refl;
              };
        }

    pub label-taken : (s' : Going) (items₀ items labels : List ℕ) → s' ≡ behind_label void s next
        → items ≡ label_put void s l items₀ → labels ≡ set labels₀ s.labels l.0
        → LabelTaken ts void s s' items₀ items labels₀ labels
    label-taken s' items₀ items labels p i j = rw (p, i, j) (at_label items₀)

-- The closing brace. ------------------------------------------------------------------------------------------------

pub closes_kind : (before kind : ℕ) → closes before kind ≡ true → kind ≡ 28
unfolding closes
closes_kind before kind =
    pick_either (λ (b : Bool). b ≡ true → kind ≡ 28) (eqb before 1) _ _
    (λ t h. absurd (cc)) (λ t h. eqb-true kind 28 h)

pub body_ended : (ts : List Tok) (void : Bool) (s : Going) (e : Closed) (items₀ items arguments labels : List ℕ)
    → Within ts s.at → closes (before_number s.before) (token_at ts s.at).kind ≡ true
    → e.next ≡ (token_at ts s.at).next
    → e.items ≡ s.items + length (added (lacks_ret void (before_number s.before)) s.last)
    → e.arguments ≡ s.arguments → e.labels ≡ s.labels
    → items ≡ sets items₀ (s.items * 8) (items_cells 0 (added (lacks_ret void (before_number s.before)) s.last))
    → Ended ts void s e items₀ items arguments arguments labels labels
unfolding body_d opened
body_ended ts void s e items₀ items arguments labels w h next n used count f =
    let k = closes_kind (before_number s.before) (token_at ts s.at).kind h in
    let m = moves ts w.last w.ends s.at w.reached (λ z. omega (arith, z, k)) in
    let one : e.next ≡ s.at + 1 = next ∙ m.0 in
    record {
      goes = λ room. rw (h, next);
      one = omega (arith, one);
      within = record { last = w.last; ends = w.ends; reached = omega (arith, one, m.1); few = w.few };
      items_next = n;
      arguments_next = used;
      labels_next = count;
      items_are = f ∙ ap (sets items₀ (s.items * 8))
          (added_cells_lem (lacks_ret void (before_number s.before)) s.last s.arguments);
      arguments_are = refl;
      labels_are = refl;
    }

-- The body from a state on. -----------------------------------------------------------------------------------------

module _ (ts : List Tok) (void : Bool) (s : Going) (items₀ items labels₀ : List ℕ)
    (goes_on : closes (before_number s.before) (token_at ts s.at).kind ≡ false) (few : s.labels ≤ 255)
    (long : 255 ≤ length labels₀) where
  pub label_turned : (r : Result Turn Refusal) (arguments labels : List ℕ) → eqb (token_at ts s.at).kind 3 ≡ true
      → LabelTurned ts void s items₀ items labels₀ labels r
      → Turned ts void s items₀ items arguments arguments labels₀ labels r
  unfolding body_d opened labels_of before_next variables_cells
  label_turned (Ok (T.On s')) arguments labels k h =
      let t = h.taken in
      let so_far : take s'.labels labels ≡ take s.labels labels₀ ++ (h.name.0 ∷ []) =
      rw (h.labels_are, h.labels_next, add-one s.labels)
      (take-suc-set labels₀ s.labels h.name.0 (omega (arith, h.labels_next, h.labels_few))) in
      record {
        read = label s.at h.name;
        goes = λ room. rw (goes_on, k, h.goes, so_far, t.before_is);
        labels_next = h.labels_next;
        labels_few = h.labels_few;
        labels_are = h.labels_are;
        passed = h.passed;
        taken =
            record {
              items_next = t.items_next;
              arguments_next = t.arguments_next;
              before_is = t.before_is;
              last_is = t.last_is;
              items_are = t.items_are;
              arguments_are = refl;
            };
      }
  label_turned (Ok (T.Done e)) arguments labels k h = absurd h
  label_turned (Err e) arguments labels k h = λ room. rw (goes_on, k, h)

  pub item_turned : (r : Result Turn Refusal) (arguments₀ arguments : List ℕ) → eqb (token_at ts s.at).kind 3 ≡ false
      → ItemTurned ts s items₀ items arguments₀ arguments r
      → Turned ts void s items₀ items arguments₀ arguments labels₀ labels₀ r
  unfolding body_d opened item_then
  item_turned (Ok (T.On s')) arguments₀ arguments k f =
      let h = f void in
      let t = h.taken in
      record {
        read = h.read;
        goes = λ room.
            rw (goes_on, k)
            (h.goes (λ i at1. body_then i (body_d ts room (take s.labels labels₀) (behind i) at1))
            ∙ rw (h.labels_next, t.before_is, h.before_same));
        labels_next = rw (h.no_label, add-zero) h.labels_next;
        labels_few = rw h.labels_next few;
        labels_are = rw h.no_label;
        passed = h.passed;
        taken = t;
      }
  item_turned (Ok (T.Done e)) arguments₀ arguments k h = absurd h
  item_turned (Err e) arguments₀ arguments k h = λ room. rw (goes_on, k) (h _)
