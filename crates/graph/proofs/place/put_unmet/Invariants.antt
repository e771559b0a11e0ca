-- What each turn of a loop keeps.
use Prim.Native.Nat.{◌+◌, ◌≤◌}
use mathlib.Core.Path.{◌≡◌}
use lib.ListN.{take, drop}
use lib.Seq.{sets}
use Rattle.graph.specs.Walk.{never_met}
use Rattle.graph.specs.Frames.{waiting}
use Rattle.graph.proofs.place.put_unmet.Given as goal

abbrev pub invariant-loop-k : goal.invariant-loop-k
invariant-loop-k l =
    record {
      room : l.at + waiting (drop l.k (take l.n l.met)) ≤ 256;
      stored :
          sets l.out l.at (never_met l.k (drop l.k (take l.n l.met)))
          ≡ sets l.initial.out l.start (never_met 0 (take l.n l.met));
    }
