-- Where the bytes end, no more are stored (`sets-out`).
use Rattle.std.proofs.Common.{◌≤◌, ◌<◌, ⊎_elim, length, drop, sym, arith, add-one, drop-cons, drop_of_length-le}
use Rattle.std.proofs.lemmas.Bool.{cases_lt}
use Rattle.replay.specs.Lists.{low_bytes}
use Rattle.replay.proofs.Rows.{sets-out}
use Rattle.replay.proofs.lists.narrow.Goals as goal

pub loop-i-preserved : goal.loop-i-preserved
unfolding low_bytes
loop-i-preserved c =
    rw (← c.loop-i.invariant, drop-cons c.args.cells.now c.loop-i.i 0 (omega arith), add-one c.loop-i.i)

pub returns : goal.returns
unfolding low_bytes
returns c =
    let i = c.loop-i.i in
    ⊎_elim
    (λ (h : i < length c.args.cells.now).
    rw (← c.loop-i.invariant)
    (sym (sets-out c.loop-i.bytes (low_bytes (drop i c.args.cells.now)) i (omega arith))))
    (λ (h : length c.args.cells.now ≤ i). rw (← c.loop-i.invariant, drop_of_length-le c.args.cells.now {i = i} h))
    (cases_lt i (length c.args.cells.now))
