-- The sources that are left, stored from here, give all of them (`Entered`).
use native.Mathlib.Omega.{arith}
use native.Mathlib.Nat.{sub-zero}
use Prim.Native.Nat.{ℕ, ◌+◌, ◌-◌}
use mathlib.Core.List.{List, []}
use lib.ListN.{length-append}
use Rattle.graph.specs.Records.{row_of}
use Rattle.link.specs.Edges.{entering, predecessors}
use Rattle.link.specs.Steps.{links_from}
use Rattle.link.proofs.Entering.{entered-none, entered-more, entered_all, predecessors-more, predecessors-none}
use Rattle.link.proofs.enter.enter_edges.Goals as goal

pub loop-k-init : goal.loop-k-init
loop-k-init c =
    let all = predecessors c.args.j.0 0 (links_from (row_of c.args.succs.now c.args.counts.now) 0 c.args.n) in
    rw sub-zero (entered-none all c.args.used c.args.sources.now)

pub enter_from-here-requires : goal.enter_from-here-requires
enter_from-here-requires c =
    let goes : ℕ → List ℕ = row_of c.args.succs.now c.args.counts.now in
    let more = predecessors-more goes c.args.j.0 c.loop-k.k c.args.n (omega arith) in
    let e = rw (more, length-append) at c.loop-k.invariant.count in
    (omega arith, omega (arith, e, c.loop-k.invariant.long, c.requires.1))

pub loop-k-preserved : goal.loop-k-preserved
loop-k-preserved c =
    let goes : ℕ → List ℕ = row_of c.args.succs.now c.args.counts.now in
    let k = c.loop-k.k in
    let own = entering c.args.j.0 k (goes k) [] in
    let later = predecessors c.args.j.0 (k + 1) (links_from goes (k + 1) (c.args.n - (k + 1))) in
    entered-more own later c.enter_from-here.result c.enter_from-here.new.sources c.loop-k.invariant
    (predecessors-more goes c.args.j.0 k c.args.n (omega arith)) c.enter_from-here.ensures

pub returns : goal.returns
returns c =
    let goes : ℕ → List ℕ = row_of c.args.succs.now c.args.counts.now in
    entered_all c.loop-k.invariant
    (predecessors-none goes c.args.j.0 c.loop-k.k (c.args.n - c.loop-k.k) (omega arith))
