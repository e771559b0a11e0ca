-- The rows hold the records' successors, so what is entered from the rows is entered from the records.
use native.Mathlib.Omega.{arith}
use Prim.Native.Nat.{ℕ}
use mathlib.Core.List.{List}
use lib.ListN.{replicate}
use Rattle.graph.specs.Records.{recorded, row_of}
use Rattle.graph.proofs.Rows.{loaded_row}
use Rattle.link.proofs.Entering.{links_same}
use Rattle.link.proofs.enter.enter_blocks.Goals as goal

pub enter_all-requires : goal.enter_all-requires
enter_all-requires c =
    let rows : ℕ → List ℕ = row_of c.load.new.succs c.load.new.counts in
    let records : ℕ → List ℕ = recorded c.args.blocks.now c.args.base in
    let each = loaded_row c.args.blocks.now c.args.base c.args.n (replicate 256 (replicate 2 0)) c.load.new.succs
    (replicate 256 0)
    c.load.new.counts c.load.ensures in
    let same = links_same rows records 0 c.args.n (λ v h. each v (omega arith)) in
    (c.requires.0, c.requires.1, c.requires.2, rw same c.requires.3, c.requires.4)

pub returns : goal.returns
returns c =
    let rows : ℕ → List ℕ = row_of c.load.new.succs c.load.new.counts in
    let records : ℕ → List ℕ = recorded c.args.blocks.now c.args.base in
    let each = loaded_row c.args.blocks.now c.args.base c.args.n (replicate 256 (replicate 2 0)) c.load.new.succs
    (replicate 256 0)
    c.load.new.counts c.load.ensures in
    let same = links_same rows records 0 c.args.n (λ v h. each v (omega arith)) in
    record {
      value = rw same at c.enter_all.ensures.value;
      blocks_after = rw same at c.enter_all.ensures.blocks_after;
      sources_after = rw same at c.enter_all.ensures.sources_after;
    }
