-- The whole answer of `recheck`: `recheck_of`, and the gate and the zeros as check has them
-- (crates/checker/specs/Promise.antt).
use Rattle.std.specs.Prelude.{ℕ, List}
use Rattle.functions.specs.Answer.{Slices}
use Rattle.checker.specs.Check.{Checking}
use Rattle.checker.specs.Promise.{gated, Gives}
use Rattle.checker.specs.declared.CheckAnswer.{CheckAnswer}
use Rattle.recheck.specs.Recheck.{recheck_of}

unfoldable pub recheck_def : List ℕ → List ℕ → ℕ → List ℕ → List ℕ → List ℕ → List ℕ → Slices → Checking
recheck_def old table number new m t n u = gated m t n u (recheck_of old table number new)

-- THE PROMISE of `recheck`: the answer and all slices at exit, of the four inputs and the slices at entry.
abbrev pub Rechecks : List ℕ → List ℕ → ℕ → List ℕ → List ℕ → List ℕ → List ℕ → Slices → CheckAnswer → List ℕ → List ℕ
    → List ℕ → Slices → Type 0
Rechecks old table number new m₀ t₀ n₀ u₀ r m t n u = Gives (recheck_def old table number new m₀ t₀ n₀ u₀) r m t n u
