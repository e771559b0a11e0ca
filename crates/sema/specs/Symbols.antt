-- "One table of names per function: entering a name with another type is 15, reading one absent is 16." The table is a
-- list of type cells by name number, 0 where the name is absent: 1 int, 2 bool (crates/parser/specs/Runs.antt).
use Rattle.std.specs.Prelude.{ℕ, List, eqb, get_or, set, Result, Ok, Err}
use Rattle.utils.specs.Bytes.{pick}
use Rattle.pieces.specs.declared.Identifier.{Identifier}
use Rattle.parser.specs.declared.Refusal.{Refusal}

-- the table after a step, and whether typing goes on
pub record Typed : Type 0 where
  pub table : List ℕ
  pub end : Result Unit Refusal

abbrev pub typed : List ℕ → Result Unit Refusal → Typed
typed t e = record { table = t; end = e }

abbrev pub on : List ℕ → Typed
on t = typed t (Ok tt)

abbrev pub stop : List ℕ → Refusal → Typed
stop t e = typed t (Err e)

-- what follows a step that was fine
unfoldable pub then_end : Result Unit Refusal → Typed → Typed → Typed
then_end (Ok tt) next this = next
then_end (Err e) next this = this

unfoldable pub then_typed : Typed → (List ℕ → Typed) → Typed
then_typed this k = then_end this.end (k this.table) this

-- a refusal's token and what its message needs: the types or counts wanted and found, and the name
abbrev pub facts : ℕ → ℕ → ℕ → ℕ → Identifier → Refusal
facts number token wanted found name =
    record { number = number; token = token; wanted = wanted; found = found; name = name }

abbrev pub no_name : Identifier
no_name = record { 0 = 0 }

-- Unexpected type .. Expected .. (15).
unfoldable pub enter_d : List ℕ → ℕ → Identifier → ℕ → Typed
enter_d t token name type =
    let known = get_or t name.0 0 in
    pick (eqb known 0) (on (set t name.0 type))
    (pick (eqb known type) (on t) (stop t (facts 15 token known type name)))

-- The type that a name has; undefined identifier (16).
unfoldable pub looked_d : List ℕ → ℕ → Identifier → Result ℕ Refusal
looked_d t token name =
    let known = get_or t name.0 0 in
    pick (eqb known 0) (Err (facts 16 token 0 0 name)) (Ok known)

-- Undefined identifier (16).
unfoldable pub then_look : List ℕ → ℕ → Identifier → (ℕ → Typed) → Typed
then_look t token name k =
    let known = get_or t name.0 0 in
    pick (eqb known 0) (stop t (facts 16 token 0 0 name)) (k known)

-- 'e' type expected; 'f' found (17).
unfoldable pub same_d : ℕ → ℕ → ℕ → Result Unit Refusal
same_d token found wanted = pick (eqb found wanted) (Ok tt) (Err (facts 17 token wanted found no_name))

-- what follows where the types are the same (17 otherwise)
unfoldable pub then_same : List ℕ → ℕ → ℕ → ℕ → Typed → Typed
then_same t token found wanted next = pick (eqb found wanted) next (stop t (facts 17 token wanted found no_name))

-- to unfold this is to unfold what follows each step
unfoldable pub opened : ℕ
unfolding pick then_end then_typed looked_d then_look same_d then_same
opened = 0
