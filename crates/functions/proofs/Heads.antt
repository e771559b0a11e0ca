-- A header has at most 16 formals, and is entered by the rows as by the headers so far.
use Rattle.std.specs.Prelude.{Err, Ok, Result}
use Rattle.parser.specs.declared.Refusal.{Refusal}
use Prim.Native.Nat.{ℕ, zero, suc, ◌+◌, ◌*◌, ◌≤◌, ◌<◌}
use mathlib.Core.Path.{◌≡◌}
use mathlib.Core.List.{List, ◌∷◌}
use mathlib.Core.Bool.{Bool, true, false}
use native.Mathlib.Omega.{arith}
use lib.Dec.{eqb}
use lib.ListN.{length}
use lib.Seq.{sets}
use Rattle.utils.specs.Bytes.{pick}
use Rattle.lexer.specs.Decoded.{Tok, token_at}
use Rattle.parser.specs.Step.{look, then_defined}
use Rattle.parser.specs.Grammar.{consume_d}
use Rattle.pieces.specs.declared.Identifier.{Identifier}
use Rattle.parser.specs.Runs.{Variables, ended, stopped, formal_d, formals_from_d, formals_d, variables_cells, type_cell}
use Rattle.parser.specs.declared.Ty.{Ty}
use Rattle.parser.specs.declared.Variable.{Variable}
use Rattle.functions.specs.Functions.{optional_formals, entered_d}
use Rattle.functions.specs.Known.{signature}
use Rattle.functions.specs.Columns.{formals_at}
use Rattle.functions.specs.Rows.{types_at, known_from}
use Rattle.functions.proofs.Stores.{known-below, types_there}

up : {a b : ℕ} → a ≤ b → suc a ≤ suc b
up h = omega arith

pick-few : (b : Bool) (x y : Variables) (n : ℕ) → length x.list ≤ n → length y.list ≤ n
    → length (pick b x y).list ≤ n
unfolding pick
pick-few true x y n h g = h
pick-few false x y n h g = g

then_few : (d : Result (Variable × ℕ) Refusal) (k : Variable → ℕ → Variables) (n : ℕ) → ((v : Variable) (at : ℕ)
    → length (k v at).list ≤ n)
    → length (then_defined stopped d k).list ≤ n
unfolding then_defined
then_few (Ok (v, i)) k n h = h v i
then_few (Err e) k n h = omega arith

from-few : (ts : List Tok) (room at : ℕ) → length (formals_from_d ts room at).list ≤ room
unfolding formals_from_d look
from-few ts zero at = then_few (formal_d ts true at) _ 0 (λ v i. omega arith)
from-few ts (suc room) at =
    then_few (formal_d ts false at) _ (suc room) (λ v i.
    up (pick-few (eqb (token_at ts i).kind 31) (formals_from_d ts room (token_at ts i).next)
    (ended (consume_d ts i 26)) room (from-few ts room (token_at ts i).next) (omega arith)))

pub formals_few : (ts : List Tok) (at : ℕ) → length (optional_formals ts at).list ≤ 16
unfolding optional_formals formals_d look
formals_few ts at =
    let next = (token_at ts at).next in
    pick-few (eqb (token_at ts at).kind 25) _ (ended (Ok at)) 16
    (pick-few (eqb (token_at ts next).kind 26) (ended (Ok (token_at ts next).next)) (formals_from_d ts 16 next) 16
    (omega arith)
    (from-few ts 16 next))
    (omega arith)

-- A name is entered by what the rows hold as by the headers so far: the formals stand in the row after the last.
pub entered-same : (ts : List Tok) (rows rows₁ : List ℕ) (n types token : ℕ) (name : Identifier) (vs : List Variable)
    (ret : Ty) (cell count at : ℕ) → rows₁ ≡ sets rows (formals_at n) (variables_cells vs) → cell ≡ type_cell ret
    → length vs ≡ count → count ≤ 16 → n < 64 → 2881 ≤ length rows
    → entered_d ts (known_from rows₁ 0 n) types token name (cell ∷ count ∷ types_at rows₁ (formals_at n) count) at
    ≡ entered_d ts (known_from rows 0 n) types token name (signature ret vs) at
entered-same ts rows rows₁ n types token name vs ret cell count at s r c h m l =
    let room : formals_at n + length vs * 2 ≤ length rows = omega arith in
    rw (
      s,
      r,
      ← c,
      known-below n (variables_cells vs) rows (formals_at n) 0 (omega arith),
      types_there vs rows (formals_at n) room,
    )
