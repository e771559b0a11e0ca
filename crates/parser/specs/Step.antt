-- Steps: each looks at tokens, and gives what it found with the index to go on at, or a refusal. A refusal holds its
-- number, a token's index and what its message needs besides the token, never a line or a place: those are looked up
-- with the token, by whoever answers. (13 and a header's 15 spell the name of their own token.)
use Rattle.std.specs.Prelude.{ℕ, Result, Ok, Err}
use Rattle.pieces.specs.declared.Identifier.{Identifier}
use Rattle.lexer.specs.declared.TokenAt.{TokenAt}
use Rattle.utils.specs.Bytes.{pick}
use Rattle.parser.specs.declared.Refusal.{Refusal}
use Rattle.parser.specs.declared.Ty.{Ty}
use Rattle.parser.specs.declared.Variable.{Variable}

-- What a refusal's `wanted` and `found` hold: for 5 the kind that had to stand there, and 0; for 15 the cells of the
-- type that the name has and of the one it is entered with; for 17 the cells of two types; for 20 two counts of
-- arguments; for all others 0 and 0. Its `name` is the one that 14, 15 and 16 spell.
abbrev pub refusal : ℕ → ℕ → ℕ → Refusal
refusal number token wanted =
    record { number = number; token = token; wanted = wanted; found = 0; name = record { 0 = 0 } }

-- a look at a token: its kind, and the index after it
unfoldable pub look : {A : Type 0} → TokenAt → (ℕ → ℕ → A) → A
look t k = k t.kind t.next

-- what follows a step that found what it wanted; `fail` takes its refusal on
unfoldable pub then_at : {A : Type 0} → (Refusal → A) → Result ℕ Refusal → (ℕ → A) → A
then_at fail (Ok i) k = k i
then_at fail (Err e) k = fail e

unfoldable pub then_named : {A : Type 0} → (Refusal → A) → Result (Identifier × ℕ) Refusal → (Identifier → ℕ → A) → A
then_named fail (Ok p) k = k p.0 p.1
then_named fail (Err e) k = fail e

unfoldable pub then_type : {A : Type 0} → (Refusal → A) → Result (Ty × ℕ) Refusal → (Ty → ℕ → A) → A
then_type fail (Ok p) k = k p.0 p.1
then_type fail (Err e) k = fail e

unfoldable pub then_defined : {A : Type 0} → (Refusal → A) → Result (Variable × ℕ) Refusal → (Variable → ℕ → A) → A
then_defined fail (Ok p) k = k p.0 p.1
then_defined fail (Err e) k = fail e

-- to unfold this is to unfold every step
unfoldable pub opened : ℕ
unfolding pick look then_at then_named then_type then_defined
opened = 0
