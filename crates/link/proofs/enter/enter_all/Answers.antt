-- The predecessors that are left, stored from here, give all of them (`Entered`), and so do the records that are left.
use native.Mathlib.Omega.{arith}
use Prim.Native.Nat.{ℕ, ◌+◌, ◌-◌, ◌*◌}
use mathlib.Core.Path.{refl, ap, ◌∙◌}
use mathlib.Core.List.{List}
use native.Mathlib.Nat.{add-zero, sub-zero}
use lib.ListN.{length, length-append}
use lib.Seq.{length-sets}
use Rattle.graph.specs.Records.{cells_of, block_at, row_of}
use Rattle.link.specs.Edges.{predecessors}
use Rattle.link.specs.Steps.{links_from, entries_from, entered_by, put_entered}
use Rattle.link.proofs.Entering.{entered-none, entered-more, entered_all}
use Rattle.link.proofs.Entering.{entries-more, entries_none, entered_step, entered-end}
use Rattle.link.proofs.enter.enter_all.Goals as goal

pub loop-j-init : goal.loop-j-init
loop-j-init c =
    let all = links_from (row_of c.args.succs.now c.args.counts.now) 0 c.args.n in (
      refl,
      rw sub-zero (entered-none (entries_from 0 all c.args.n) c.args.used c.args.sources.now),
      rw (add-zero, sub-zero),
    )

pub enter_edges-next-requires : goal.enter_edges-next-requires
enter_edges-next-requires c =
    let all = links_from (row_of c.args.succs.now c.args.counts.now) 0 c.args.n in
    let more = entries-more all c.loop-j.j c.args.n (omega arith) in
    let e = rw (more, length-append) at c.loop-j.invariant.1.count in
    (c.requires.0, omega (arith, e, c.loop-j.invariant.1.long, c.requires))

pub overflow_sub-next : goal.overflow_sub-next
overflow_sub-next c =
    omega (arith, c.enter_edges-next.ensures.0)

pub put_entries-requires : goal.put_entries-requires
put_entries-requires c =
    let all = links_from (row_of c.args.succs.now c.args.counts.now) 0 c.args.n in
    let more = entries-more all c.loop-j.j c.args.n (omega arith) in
    let e = rw (more, length-append) at c.loop-j.invariant.1.count in (
      omega (arith, c.requires),
      omega (arith, c.requires, c.loop-j.invariant.0),
      omega (arith, e, c.requires),
      omega (arith, e, c.enter_edges-next.ensures.0, c.requires),
    )

pub loop-j-preserved : goal.loop-j-preserved
loop-j-preserved c =
    let all = links_from (row_of c.args.succs.now c.args.counts.now) 0 c.args.n in
    let more = entries-more all c.loop-j.j c.args.n (omega arith) in
    let whole = cells_of (entered_by (block_at c.loop-j.blocks (c.args.base + c.loop-j.j)) c.loop-j.j c.loop-j.here
    (c.enter_edges-next.result - c.loop-j.here)) in (
      ap length c.put_entries.ensures ∙ length-sets c.loop-j.blocks ((c.args.base + c.loop-j.j) * 8) whole ∙
          c.loop-j.invariant.0,
      entered-more (predecessors c.loop-j.j 0 all) (entries_from (c.loop-j.j + 1) all (c.args.n - (c.loop-j.j + 1)))
          c.enter_edges-next.result
          c.enter_edges-next.new.sources c.loop-j.invariant.1 more c.enter_edges-next.ensures,
      ap (λ (b : List ℕ). put_entered (c.loop-j.j + 1) c.enter_edges-next.result all b (c.args.base + (c.loop-j.j +
          1)) (c.args.n - (c.loop-j.j + 1))) c.put_entries.ensures
          ∙ entered_step c.loop-j.here all c.loop-j.blocks c.args.base c.loop-j.j c.args.n c.enter_edges-next.result
          (omega arith) c.enter_edges-next.ensures.0
          ∙ c.loop-j.invariant.2,
    )

pub returns : goal.returns
returns c =
    let all = links_from (row_of c.args.succs.now c.args.counts.now) 0 c.args.n in
    let done = entered_all c.loop-j.invariant.1 (entries_none all c.loop-j.j (c.args.n - c.loop-j.j) (omega arith)) in
    let none = entered-end c.loop-j.here all c.loop-j.blocks c.loop-j.j (c.args.base + c.loop-j.j) (c.args.n -
    c.loop-j.j)
    (omega arith) in
    record { value = done.0; blocks_after = rw none at c.loop-j.invariant.2; sources_after = done.1 }
