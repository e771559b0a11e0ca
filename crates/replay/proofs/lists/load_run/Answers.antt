-- A run that has room is its values and the rows that repeat them (`with_room`).
use Rattle.std.proofs.Common.{ℕ, length-append, length-drop, length-take, sym, ◌∙◌, arith, refl, leb-true, length-take-le}
use Rattle.replay.proofs.Runs.{without_room, with_room}
use Rattle.replay.proofs.lists.load_run.Goals as goal

pub returns-then-not-has_room : goal.returns-then-not-has_room
returns-then-not-has_room c =
    without_room c.args.kind c.args.«data».now c.args.cells.now c.args.from c.number_at-times.result
    c.number_at-width.result
    c.times_more-more.result c.number_at-times.ensures c.number_at-width.ensures c.times_more-more.ensures _
    (sym c.has_room.ensures ∙ c.if-not-has_room.true) refl refl

pub slice_bounds-load_values-end : goal.slice_bounds-load_values-end
slice_bounds-load_values-end c =
    let room = sym c.has_room.ensures ∙ c.if-not-has_room.false in
    omega (arith, leb-true)

pub load_rows-requires : goal.load_rows-requires
load_rows-requires c =
    let room = sym c.has_room.ensures ∙ c.if-not-has_room.false in
    omega (arith, leb-true, length-append {A = ℕ}, length-drop {A = ℕ}, length-take {A = ℕ})

pub returns : goal.returns
returns c =
    let room = sym c.has_room.ensures ∙ c.if-not-has_room.false in
    with_room c.args.kind c.args.«data».now c.args.cells.now c.args.from c.number_at-times.result
    c.number_at-width.result
    c.times_more-more.result c.number_at-times.ensures c.number_at-width.ensures c.times_more-more.ensures
    c.behind_quote-at.result
    c.load_values-next.result _ c.load_values-next.new.cells c.load_rows.new.cells c.load_rows.result
    c.behind_quote-at.ensures
    (length-take-le _ c.args.cells.now (omega (arith, leb-true)))
    c.load_values-next.ensures.value room
    c.load_values-next.ensures.cells_after c.load_rows.ensures.count c.load_rows.ensures.next
    c.load_rows.ensures.cells_after
