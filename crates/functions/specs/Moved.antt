-- Two readings of one function (demand 3), on from the parser's relations: what the functions so far, a header, a body
-- with its blocks and a function are to those of the other reading. `proofs/SimFunctions.antt` shows that the
-- definitions give related answers on related tokens.
use Rattle.std.specs.Prelude.{ℕ, ◌+◌, ◌≤◌, ◌<◌, ◌≡◌, List, eqb, Err, Ok, Result}
use Rattle.body.specs.Body.{Item}
use Rattle.parser.specs.Moved.{Move, SimName, SimE, SimV, SimClose, Each}
use Rattle.body.specs.Moved.{SimItem}
use Rattle.parser.specs.declared.Refusal.{Refusal}
use Rattle.functions.specs.Known.{Known}
use Rattle.functions.specs.Functions.{Header, HeaderAt, BuiltAt, Function, FunctionAt, Program}

-- The same function type, and a name that the related tokens' names are told apart from alike in both readings. It need
-- not be among these: the function may stand elsewhere.
pub record SimKnown (m : Move) (k k' : Known) : Type 0 where
  pub name : (x : ℕ) → x < m.names → eqb k.name (m.name x) ≡ eqb k'.name x
  pub type : k.type ≡ k'.type
  pub signed : k.signed ≡ k'.signed

-- a name that was entered, or related refusals; the index to go on at is below l
pub data SimEntered (m : Move) (l : ℕ) : Result (ℕ × ℕ) Refusal → Result (ℕ × ℕ) Refusal → Type 0 where
  at : (type i : ℕ) → i < l → SimEntered m l (Ok (type, (m.by + i))) (Ok (type, i))
  refused : (e e' : Refusal) → SimE m l e e' → SimEntered m l (Err e) (Err e')

-- the same header, with its name and its formals renamed
pub record SimHeader (m : Move) (h h' : Header) : Type 0 where
  pub name : SimName m h.name h'.name
  pub formals : Each (SimV m) h.formals h'.formals
  pub ret : h.ret ≡ h'.ret
  pub type : h.type ≡ h'.type

pub data SimHeaderAt (m : Move) (l : ℕ) : HeaderAt → HeaderAt → Type 0 where
  header : {h h' : Header} → SimHeader m h h' → (i : ℕ) → i < l
      → SimHeaderAt m l (HeaderAt.header h (m.by + i)) (HeaderAt.header h' i)
  refused : (e e' : Refusal) → SimE m l e e' → SimHeaderAt m l (HeaderAt.no_header e) (HeaderAt.no_header e')

-- related items; the closing brace may be the last token, so that the index behind it is l at most, and isn't 0
pub data SimBuilt (m : Move) (l : ℕ) : BuiltAt → BuiltAt → Type 0 where
  built : {is is' : List Item} → Each (SimItem m l) is is' → (i : ℕ) → i ≤ l → 1 ≤ i
      → SimBuilt m l (BuiltAt.built is (m.by + i)) (BuiltAt.built is' i)
  refused : (e e' : Refusal) → SimE m l e e' → SimBuilt m l (BuiltAt.not_built e) (BuiltAt.not_built e')

-- the same function, which begins and ends within the l tokens: its header and its items related, its name's token and
-- the index behind it moved
pub record SimFunction (m : Move) (l : ℕ) (f f' : Function) : Type 0 where
  pub token : f.token ≡ m.by + f'.token
  pub head : SimHeader m f.head f'.head
  pub items : Each (SimItem m l) f.items f'.items
  pub next : f.next ≡ m.by + f'.next
  pub within : f'.next ≤ l
  pub begins : f'.token < l
  pub closes : 1 ≤ f'.next

pub data SimFunctionAt (m : Move) (l : ℕ) : FunctionAt → FunctionAt → Type 0 where
  function : {f f' : Function} → SimFunction m l f f'
      → SimFunctionAt m l (FunctionAt.function f) (FunctionAt.function f')
  refused : (e e' : Refusal) → SimE m l e e' → SimFunctionAt m l (FunctionAt.no_function e) (FunctionAt.no_function e')

-- all functions, one by one, and the end or related refusals; the end may stand right behind the l tokens
pub record SimProgram (m : Move) (l : ℕ) (u u' : Program) : Type 0 where
  pub functions : Each (SimFunction m l) u.functions u'.functions
  pub end : SimClose m l u.end u'.end
