-- From the blocks cut and the edges entered to the whole answer.
use Rattle.std.specs.Prelude.{Err, Ok, Result}
use Prim.Native.Nat.{ℕ, ◌+◌, ◌-◌, ◌*◌, ◌≤◌}
use mathlib.Core.Path.{◌≡◌, refl, sym, ap, subst, ◌∙◌}
use mathlib.Core.Bool.{true}
use mathlib.Core.List.{List}
use native.Mathlib.Omega.{arith}
use native.Mathlib.Nat.{add-zero}
use lib.ListN.{length}
use lib.Seq.{sets, length-take-le}
use Rattle.graph.specs.Records.{recorded}
use Rattle.body.specs.Shapes.{Shape, names_in}
use Rattle.link.specs.Blocks.{Block, blocks_of}
use Rattle.link.specs.Edges.{Resolved, fine, refused, resolve_d, successors}
use Rattle.parser.specs.declared.Refusal.{Refusal}
use Rattle.body.specs.Records.{parts_at}
use Rattle.body.specs.Room.{filled}
use Rattle.link.specs.Cells.{predecessor_cells, link_d, Linking}
use Rattle.link.specs.Steps.{Ready, ClosedHeld, put_closed, numbered_by, links_from, entries_from, put_entered}
use Rattle.link.proofs.Edges.{thin_blocks, entries-few}
use Rattle.link.proofs.Laws.{blocks-counted, at_most_256}
use Rattle.link.proofs.Whole.{links_back, records-whole, entries_are}

numbered-refused : (bs : List Block) (x : Resolved) (e : Refusal) → Err e ≡ numbered_by bs x → x ≡ refused e
numbered-refused bs fine e h = absurd (cc)
numbered-refused bs (refused e') e h = cc

numbered-done : (bs : List Block) (x : Resolved) (n : ℕ) → Ok n ≡ numbered_by bs x → (x ≡ fine) × (n ≡ length bs)
numbered-done bs fine n h = (refl, cc)
numbered-done bs (refused e) n h = absurd (cc)

pub link_refused : (ps : List Shape) (named : ℕ) (e : Refusal)
    → Err e ≡ numbered_by (blocks_of ps) (resolve_d named (blocks_of ps)) → Err e ≡ link_d named ps
unfolding link_d
link_refused ps named e h = rw (numbered-refused (blocks_of ps) (resolve_d named (blocks_of ps)) e h)

module _ {items : List ℕ} {first count : ℕ} {labels : List ℕ} {labelled : ℕ} {cells₀ : List ℕ} {base : ℕ}
    {preds₀ : List ℕ} {used : ℕ} (ready : Ready items first count labels labelled cells₀ base preds₀ used)
    (named : ℕ) (cells : List ℕ) {r : Result ℕ Refusal} {n : ℕ}
    (e : r ≡ numbered_by (blocks_of (parts_at items first count)) (resolve_d named (blocks_of (parts_at items first
    count))))
    (h : ClosedHeld (blocks_of (parts_at items first count)) first base cells₀ cells r) (f : r ≡ Ok n)
  where
    abbrev ps : List Shape
    ps = parts_at items first count

    abbrev all : List Block
    all = blocks_of ps

    abbrev links : List (List ℕ)
    links = successors all all

    done : Ok n ≡ numbered_by all (resolve_d named all)
    done = sym f ∙ e

    closed : cells ≡ put_closed all first cells₀ base all
    closed = subst (λ (x : Result ℕ Refusal). ClosedHeld all first base cells₀ cells x) f h

    few : base + filled true ps ≤ 1024
    few = ready.few_blocks

    room : 8192 ≤ length cells₀
    room = ready.blocks_there

    low : used ≤ base * 2
    low = ready.few-before

    resolved : resolve_d named all ≡ fine
    resolved = (numbered-done all (resolve_d named all) n done).0

    counted : n ≡ length all
    counted = (numbered-done all (resolve_d named all) n done).1

    pub fits : base + n ≤ 1024
    fits = omega (arith, counted, blocks-counted named ps resolved)

    -- there is a row for each block
    rows_enough : n ≤ 256
    rows_enough =
        let short : length (names_in ps) ≤ 255 =
        rw (← ready.labels_are, length-take-le labelled labels ready.labels_there) ready.few-labels in
        omega (arith, counted, at_most_256 ps short)

    read_back : links_from (recorded cells base) 0 n ≡ links
    read_back =
        rw (closed, counted)
        (rw add-zero at
        (links_back all all first base 0 cells₀ (thin_blocks items first count) (omega (arith, fits, counted))))

    entries : entries_from 0 (links_from (recorded cells base) 0 n) n ≡ predecessor_cells 0 links all
    entries = rw (read_back, counted) (entries_are all 0 links)

    -- there is room for the predecessors
    entries_fit : used + length (entries_from 0 (links_from (recorded cells base) 0 n) n) ≤ 2048
    entries_fit =
        rw read_back (omega (arith, entries-few all all n (thin_blocks items first count), fits, counted))

    -- so the edges can be entered
    pub enter-ready : length cells ≡ length cells₀ → (n ≤ 256) × (base + n ≤ 1024) × (8192 ≤ length cells)
        × (used + length (entries_from 0 (links_from (recorded cells base) 0 n) n) ≤ 2048) × (2048 ≤ length preds₀)
    enter-ready long = (rows_enough, fits, omega (arith, long, room), entries_fit, ready.predecessors_there)

    pub link_done : (next : ℕ) → next ≡ used + length (entries_from 0 (links_from (recorded cells base) 0 n) n)
        → Ok (record { blocks = n; predecessors = next - used }) ≡ link_d named ps
    unfolding link_d
    link_done next h =
        let m : next - used ≡ length (predecessor_cells 0 links all) = omega (arith, h, ap length entries) in
        rw (resolved, m, counted)

    pub link_held : (cells' preds : List ℕ)
        → cells' ≡ put_entered 0 used (links_from (recorded cells base) 0 n) cells base n
        → preds ≡ sets preds₀ used (entries_from 0 (links_from (recorded cells base) 0 n) n)
        → Linking ps first base used cells₀ cells' preds₀ preds
    link_held cells' preds h q =
        record {
          blocks_are =
              h ∙ rw (read_back, closed, counted)
              (records-whole all links first all 0 used cells₀ base (omega (arith, fits, counted)));
          predecessors_are = q ∙ ap (λ (x : List ℕ). sets preds₀ used x) entries;
        }
