-- What demand 3 says of a function that is rechecked by its own text: it is accepted, and reads as it did. That it
-- holds of every function of every accepted text is `own-accepted` (proofs/Itself.antt).
use Rattle.std.specs.Prelude.{ℕ, ◌-◌, ◌≡◌, List, take, drop}
use Rattle.checker.specs.Check.{check_of}
use Rattle.edited.specs.Reading.{reading_of}
use Rattle.edited.specs.Demand3.{begins_at, ends_at, rechecked_as}

-- the bytes of function k
abbrev pub own_text : List ℕ → ℕ → List ℕ
own_text old k = take (ends_at old k - begins_at old k) (drop (begins_at old k) old)

pub record RechecksItself (old : List ℕ) (k : ℕ) : Type 0 where
  pub accepted : (rechecked_as old k (own_text old k)).answer.number ≡ 0
  pub reading : reading_of (own_text old k) (rechecked_as old k (own_text old k)) 0 ≡ reading_of old (check_of old) k
