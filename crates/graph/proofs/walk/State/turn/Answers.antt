-- `turn` meets its contract: its three ways to return are those of proofs/Turns.antt.
use native.Mathlib.Omega.{arith}
use Prim.Native.Nat.{ℕ}
use mathlib.Core.List.{List}
use Rattle.graph.specs.Records.{row_of}
use Rattle.graph.proofs.Rows.{row-short}
use Rattle.graph.proofs.Turns.{current, room-left, room-two, turn_leave, turn_old, turn_meet}
use Rattle.graph.proofs.walk.State.turn.Goals as goal

pub overflow_sub-self : goal.overflow_sub-self
overflow_sub-self c =
    let g : ℕ → List ℕ = row_of c.args.succs.now c.args.counts.now in
    let left = room-left g c.args.n c.args.self.now c.requires.0 c.requires.1 c.if-current-ge-LEAVE.true in
    omega arith

pub returns-then-current-ge-LEAVE : goal.returns-then-current-ge-LEAVE
returns-then-current-ge-LEAVE c =
    turn_leave (row_of c.args.succs.now c.args.counts.now) c.args.n c.args.self.now c.requires.0 c.requires.1
    c.if-current-ge-LEAVE.true

pub returns-then-self-block-ne0 : goal.returns-then-self-block-ne0
returns-then-self-block-ne0 c =
    turn_old (row_of c.args.succs.now c.args.counts.now) c.args.n c.args.self.now c.requires.0 c.requires.1
    c.if-current-ge-LEAVE.false c.if-self-block-ne0.true

pub push_successors-requires : goal.push_successors-requires
push_successors-requires c = (
  c.if-current-ge-LEAVE.false,
  room-two (row_of c.args.succs.now c.args.counts.now) c.args.n c.args.self.now c.requires.0 c.requires.1
      c.if-current-ge-LEAVE.false c.if-self-block-ne0.false,
)

pub returns : goal.returns
returns c =
    turn_meet (row_of c.args.succs.now c.args.counts.now) c.args.n c.args.self.now c.requires.0 c.requires.1
    c.if-current-ge-LEAVE.false c.if-self-block-ne0.false c.push_successors.new.self
    (row-short c.args.succs.now c.args.counts.now (current c.args.self.now)) c.push_successors.ensures.others
    c.push_successors.ensures.result_after
