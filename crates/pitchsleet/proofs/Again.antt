-- What the promise of `pitchsleet_recheck` shuts out: a second answer, and any trace of what the slices held before.
use Prim.Native.Nat.{ℕ, ◌≤◌}
use mathlib.Core.Path.{◌≡◌}
use mathlib.Core.List.{List}
use lib.ListN.{length}
use Rattle.checker.specs.declared.CheckAnswer.{CheckAnswer}
use Rattle.recheck.specs.Recheck.{recheck_of}
use Rattle.exports.specs.CheckBytes.{export}
use Rattle.exports.proofs.Checks.{gives_equal, same-gated}
use Rattle.pitchsleet.specs.RecheckBytes.{table_of, recheck_def, Rechecks}

-- TWO PERMITTED ANSWERS ARE EQUAL
pub permitted_again : (old table : List ℕ) (number : ℕ) (new o₀ m₀ : List ℕ) {r r' : CheckAnswer} {o m o' m' : List ℕ}
    → Rechecks old table number new o₀ m₀ r o m → Rechecks old table number new o₀ m₀ r' o' m'
    → export r o m ≡ export r' o' m'
permitted_again old table number new o₀ m₀ a b = gives_equal a b

-- EQUAL INPUTS AND LENGTHS GIVE EQUAL ANSWERS
pub same_inputs : (old table : List ℕ) (number : ℕ) (new : List ℕ) (o₀ m₀ o₁ m₁ : List ℕ) {r r' : CheckAnswer}
    {o m o' m' : List ℕ}
    → 252228 ≤ length o₀ → 512 ≤ length m₀ → length o₀ ≡ length o₁ → length m₀ ≡ length m₁
    → Rechecks old table number new o₀ m₀ r o m → Rechecks old table number new o₁ m₁ r' o' m'
    → export r o m ≡ export r' o' m'
unfolding recheck_def
same_inputs old table number new o₀ m₀ o₁ m₁ h k p q a b =
    same-gated (recheck_of old (table_of table) number new) o₀ m₀ o₁ m₁ h k p q a b
