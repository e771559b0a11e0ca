-- The array is as long as it was made. Spelled out to the last argument, so that nothing counts the cells.
use Rattle.std.proofs.Common.{ℕ, sym}
use Rattle.std.proofs.lemmas.List.{length-replicate}
use Rattle.replay_check.proofs.main.Goals as goal

pub slice_bounds-start-end : goal.slice_bounds-start-end
slice_bounds-start-end c = sym (length-replicate {0} {A = ℕ} 524288 0)
