-- Where a definition goes by cases of an answer, the case that the code has met decides it: one lemma for each such
-- definition, from what the call ensures and what its answer was. `search` puts them together.
use Rattle.std.specs.Prelude.{Option, Result, Ok}
use Prim.Native.Nat.{ℕ, ◌*◌, ◌<◌, ◌≤◌}
use mathlib.Core.Path.{◌≡◌}
use mathlib.Core.List.{List}
use mathlib.Core.Bool.{true, false}
use native.Mathlib.Omega.{arith}
use borrow.Author.Tests.{lt-ltb, le-ltb}
use lib.Dec.{ltb}
use lib.ListN.{length, take}
use lib.Seq.{length-take-le}
use Rattle.lexer.specs.Numbered.{on_found}
use Rattle.lexer.specs.Steps.{parts_of, Table}
use Rattle.lexer.proofs.Parts.{parts_count}
use Rattle.pieces.specs.declared.Name.{Name}
use Rattle.pieces.specs.declared.Refusal.{Refusal}
use Rattle.lexer.specs.declared.Identified.{Identified}
use Rattle.lexer.specs.declared.Identified.TheVariants as I
use Rattle.pieces.specs.declared.Identifier.{Identifier}

-- a name looked up, and how many there are so far
pub found_as : (count : ℕ) (n : Name) (f : Option Identifier) {r g : Option Identifier}
    {a : Result Identified Refusal} → r ≡ f → r ≡ g → a ≡ on_found count n g → a ≡ on_found count n f
found_as count n f t e h = rw (← t, e) h

module _ (n : ℕ) (cells : List ℕ) {s : List ℕ} (table : Table s cells n) where
  names_counted : length (parts_of (take (n * 2) cells)) ≡ n
  names_counted =
      parts_count (take (n * 2) cells) n
      (length-take-le (n * 2) cells (omega (arith, table.few, table.room)))

  pub names_few : n < 1024 → ltb (length (parts_of (take (n * 2) cells))) 1024 ≡ true
  names_few h = rw names_counted (lt-ltb n 1024 h)

  pub names_full : 1024 ≤ n → ltb (length (parts_of (take (n * 2) cells))) 1024 ≡ false
  names_full h = rw names_counted (le-ltb n 1024 h)

  pub new-number : ◌≡◌ {A = Result Identified Refusal} (Ok (I.New (record { 0 = n })))
      (Ok (I.New (record { 0 = length (parts_of (take (n * 2) cells)) })))
  new-number = rw names_counted
