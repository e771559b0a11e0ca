-- Two typings of one function under a `Move` (demand 3): the tables of names agree at renamed names, and the answers
-- are the same but for moved tokens and renamed names. `proofs/SimTyping.antt` shows that the definitions of typing
-- give related answers on related tables and items.
use Rattle.std.specs.Prelude.{Err, Ok, Result, ℕ, ◌≤◌, ◌<◌, ◌≡◌, List, [], ◌∷◌, eqb, length, get_or}
use Rattle.parser.specs.Moved.{Move, SimE}
use Rattle.parser.specs.declared.Refusal.{Refusal}
use Rattle.functions.specs.Known.{formal_types}
use Rattle.functions.specs.Functions.{Function}
use Rattle.sema.specs.Symbols.{Typed, typed}
use Rattle.sema.specs.Typing.{Global}

-- A renamed name has the type that the name has. Both tables have room for all names: to enter a name out of range
-- would do nothing.
pub record Tables (m : Move) (t t' : List ℕ) : Type 0 where
  pub same : (x : ℕ) → x < m.names → get_or t (m.name x) 0 ≡ get_or t' x 0
  pub room : (x : ℕ) → x < m.names → m.name x < length t
  pub room' : m.names ≤ length t'

pub data SimChecked (m : Move) (n : ℕ) : Result Unit Refusal → Result Unit Refusal → Type 0 where
  fine : SimChecked m n (Ok tt) (Ok tt)
  refused : {e e' : Refusal} → SimE m n e e' → SimChecked m n (Err e) (Err e')

-- both fine, or related refusals, at one of the first n tokens; the tables related
pub data SimTyped (m : Move) (n : ℕ) : Typed → Typed → Type 0 where
  both : {t t' : List ℕ} {e e' : Result Unit Refusal} → Tables m t t' → SimChecked m n e e'
      → SimTyped m n (typed t e) (typed t' e')

-- A renamed callee has the type that the callee has.
pub record SameGlobals (m : Move) (g g' : ℕ → Global) : Type 0 where
  pub same : (x : ℕ) → x < m.names → g (m.name x) ≡ g' x

-- Functions as calls see them: their names are related by S, and they have the same result, formals' types and number
-- of their function type.
pub record SameHead (S : ℕ → ℕ → Type 0) (f f' : Function) : Type 0 where
  pub name : S f.head.name.0 f'.head.name.0
  pub ret : f.head.ret ≡ f'.head.ret
  pub formals : formal_types f.head.formals ≡ formal_types f'.head.formals
  pub type : f.head.type ≡ f'.head.type

-- a relation of names that tells them apart as they are
abbrev pub Apart : (ℕ → ℕ → Type 0) → Type 0
Apart S = (x x' y y' : ℕ) → S x x' → S y y' → eqb x y ≡ eqb x' y'

-- each element of a list
pub data All {A : Type 0} (Q : A → Type 0) : List A → Type 0 where
  none : All Q []
  more : {x : A} {xs : List A} → Q x → All Q xs → All Q (x ∷ xs)
