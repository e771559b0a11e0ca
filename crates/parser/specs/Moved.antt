-- Two readings of one function (demand 3): what stands at `by + i` in the one token list is what stands at i in the
-- other, moved: tokens go on by `by`, lines by `down`, bytes by `on`, and names, of which there are `names`, are
-- renamed and stay apart. The parser's definitions give related answers on related tokens; `proofs/Sim.antt` shows it
-- of each.
use Rattle.std.specs.Prelude.{Err, Ok, Result, ℕ, ◌+◌, ◌≤◌, ◌<◌, ◌≡◌, List, [], ◌∷◌, true}
use Rattle.utils.specs.Bytes.{pick}
use Rattle.lexer.specs.Decoded.{Tok, is_name, token_at}
use Rattle.lexer.specs.declared.TokenAt.{TokenAt}
use Rattle.pieces.specs.declared.Identifier.{Identifier}
use Rattle.pieces.specs.Kinds as T
use Rattle.parser.specs.Step.{refusal}
use Rattle.parser.specs.Runs.{Variables, stopped, Calling, calling}
use Rattle.parser.specs.declared.Refusal.{Refusal}
use Rattle.parser.specs.declared.Ty.{Ty}
use Rattle.parser.specs.declared.Variable.{Variable}
use Rattle.parser.specs.declared.Operation.{Operation}
use Rattle.parser.specs.declared.Operation.TheVariants as O
use Rattle.parser.specs.declared.Parsed.{Parsed}
use Rattle.parser.specs.declared.Parsed.TheVariants as P

pub record Move : Type 0 where
  pub by : ℕ
  pub down : ℕ
  pub on : ℕ
  pub names : ℕ
  pub name : ℕ → ℕ
  pub apart : (x y : ℕ) → x < names → y < names → name x ≡ name y → x ≡ y

-- a token, moved
abbrev pub move_t : Move → TokenAt → TokenAt
move_t m t =
    record {
      kind = t.kind;
      name = record { 0 = pick (is_name t.kind) (m.name t.name.0) t.name.0 };
      integer = t.integer;
      line = record { 0 = m.down + t.line.0 };
      place = m.on + t.place;
      next = m.by + t.next;
    }

-- The first n tokens of ts' stand in ts from `by` on. Only a closing brace may be the last of them.
pub record Sim (m : Move) (n : ℕ) (ts ts' : List Tok) : Type 0 where
  pub same : (i : ℕ) → i < n → token_at ts (m.by + i) ≡ move_t m (token_at ts' i)
  pub fit : (i : ℕ) → i < n → is_name (token_at ts' i).kind ≡ true → (token_at ts' i).name.0 < m.names
  pub near : (i : ℕ) → i < n → (token_at ts' i).next ≤ n
  pub inner : (i : ℕ) → i < n → ((token_at ts' i).kind ≡ T.right_brace → ⊥) → (token_at ts' i).next < n

pub data SimName (m : Move) : Identifier → Identifier → Type 0 where
  renamed : (x : ℕ) → x < m.names → SimName m (record { 0 = m.name x }) (record { 0 = x })

-- the same refusal, at the moved token, which is one of the first l; where its message spells a name, that name is
-- renamed
abbrev pub spelling : ℕ → ℕ → ℕ → ℕ → Identifier → Refusal
spelling number token wanted found x =
    record { number = number; token = token; wanted = wanted; found = found; name = x }

pub data SimE (m : Move) (l : ℕ) : Refusal → Refusal → Type 0 where
  moved : (number token wanted : ℕ) → token < l
      → SimE m l (refusal number (m.by + token) wanted) (refusal number token wanted)
  named : (number token wanted found : ℕ) {x x' : Identifier} → SimName m x x' → token < l
      → SimE m l (spelling number (m.by + token) wanted found x) (spelling number token wanted found x')
  -- two types or counts, and no name (17, 20)
  told : (number token wanted found : ℕ) → token < l
      → SimE m l (spelling number (m.by + token) wanted found (record { 0 = 0 }))
      (spelling number token wanted found (record { 0 = 0 }))

-- related answers; an index to go on at is below l
pub data SimC (m : Move) (l : ℕ) : Result ℕ Refusal → Result ℕ Refusal → Type 0 where
  at : (i : ℕ) → i < l → SimC m l (Ok (m.by + i)) (Ok i)
  refused : (e e' : Refusal) → SimE m l e e' → SimC m l (Err e) (Err e')

pub data SimN (m : Move) (l : ℕ) : Result (Identifier × ℕ) Refusal → Result (Identifier × ℕ) Refusal → Type 0 where
  at : {x x' : Identifier} → SimName m x x' → (i : ℕ) → i < l → SimN m l (Ok (x, (m.by + i))) (Ok (x', i))
  refused : (e e' : Refusal) → SimE m l e e' → SimN m l (Err e) (Err e')

pub data SimR (m : Move) (l : ℕ) : Result (Ty × ℕ) Refusal → Result (Ty × ℕ) Refusal → Type 0 where
  at : (t : Ty) (i : ℕ) → i < l → SimR m l (Ok (t, (m.by + i))) (Ok (t, i))
  refused : (e e' : Refusal) → SimE m l e e' → SimR m l (Err e) (Err e')

pub data SimV (m : Move) : Variable → Variable → Type 0 where
  of : {x x' : Identifier} → SimName m x x' → (t : Ty)
      → SimV m (record { id = x; ty = t }) (record { id = x'; ty = t })

pub data SimD (m : Move) (l : ℕ) : Result (Variable × ℕ) Refusal → Result (Variable × ℕ) Refusal → Type 0 where
  at : {v v' : Variable} → SimV m v v' → (i : ℕ) → i < l → SimD m l (Ok (v, (m.by + i))) (Ok (v', i))
  refused : (e e' : Refusal) → SimE m l e e' → SimD m l (Err e) (Err e')

-- the same operation, with its token, one of the first l, moved and its names renamed
pub data SimO (m : Move) (l : ℕ) : Operation → Operation → Type 0 where
  binary : (w : ℕ) {v v' : Variable} {x x' y y' : Identifier} → SimV m v v' → SimName m x x' → SimName m y y'
      → w < l
      → SimO m l (O.BinaryOp (m.by + w) v x y) (O.BinaryOp w v' x' y')
  unary : (w : ℕ) {v v' : Variable} {x x' : Identifier} → SimV m v v' → SimName m x x'
      → w < l → SimO m l (O.UnaryOp (m.by + w) v x) (O.UnaryOp w v' x')
  const : (w : ℕ) {v v' : Variable} → SimV m v v' → w < l → SimO m l (O.Const (m.by + w) v) (O.Const w v')
  jump : (w : ℕ) {x x' : Identifier} → SimName m x x' → w < l → SimO m l (O.Jump (m.by + w) x) (O.Jump w x')
  branch : (w : ℕ) {x x' y y' z z' : Identifier} → SimName m x x' → SimName m y y' → SimName m z z'
      → w < l → SimO m l (O.Branch (m.by + w) x y z) (O.Branch w x' y' z')
  ret : (w : ℕ) → w < l → SimO m l (O.Ret (m.by + w)) (O.Ret w)
  ret_value : (w : ℕ) {x x' : Identifier} → SimName m x x' → w < l
      → SimO m l (O.RetValue (m.by + w) x) (O.RetValue w x')
  print : (w : ℕ) {x x' : Identifier} → SimName m x x' → w < l → SimO m l (O.Print (m.by + w) x) (O.Print w x')
  nop : (w : ℕ) → w < l → SimO m l (O.Nop (m.by + w)) (O.Nop w)

pub data SimP (m : Move) (l : ℕ) : Result Parsed Refusal → Result Parsed Refusal → Type 0 where
  done : {o o' : Operation} → SimO m l o o' → (i : ℕ) → i < l → SimP m l (Ok (P.Done o (m.by + i))) (Ok (P.Done o' i))
  call : (i : ℕ) → i < l → SimP m l (Ok (P.Call (m.by + i))) (Ok (P.Call i))
  call_into : {v v' : Variable} → SimV m v v' → (i : ℕ) → i < l → SimP m l (Ok (P.CallInto v (m.by + i))) (Ok (P.CallInto v' i))
  refused : (e e' : Refusal) → SimE m l e e' → SimP m l (Err e) (Err e')

-- lists, element by element
pub data Each {A : Type 0} (R : A → A → Type 0) : List A → List A → Type 0 where
  none : Each R [] []
  more : {x x' : A} {xs xs' : List A} → R x x' → Each R xs xs' → Each R (x ∷ xs) (x' ∷ xs')

pub record SimVs (m : Move) (l : ℕ) (r r' : Variables) : Type 0 where
  pub list : Each (SimV m) r.list r'.list
  pub end : SimC m l r.end r'.end

-- a call, with its callee renamed
pub data SimCalling (m : Move) (l : ℕ) : Calling → Calling → Type 0 where
  called : {g g' : Identifier} {r r' : Variables} → SimName m g g' → SimVs m l r r'
      → SimCalling m l (calling g r) (calling g' r')
  refused : (e e' : Refusal) → SimE m l e e'
      → SimCalling m l (calling (record { 0 = 0 }) (stopped e)) (calling (record { 0 = 0 }) (stopped e'))

-- labels by their numbers
abbrev pub SimNumber : Move → ℕ → ℕ → Type 0
SimNumber m x x' = SimName m (record { 0 = x }) (record { 0 = x' })

-- where the end was asked for, which may stand right behind the l tokens
pub data SimClose (m : Move) (l : ℕ) : Result ℕ Refusal → Result ℕ Refusal → Type 0 where
  at : (i : ℕ) → i ≤ l → SimClose m l (Ok (m.by + i)) (Ok i)
  refused : (e e' : Refusal) → SimE m l e e' → SimClose m l (Err e) (Err e')

-- The two answers are related by T; a family of its own, so that a search can read m, n and T off.
pub data Rel (m : Move) (n : ℕ) {A : Type 0} (T : Move → ℕ → A → A → Type 0) : A → A → Type 0 where
  is : {x x' : A} → T m n x x' → Rel m n T x x'
