-- The simulation of demand 3, one lemma for each definition: related tokens give related answers. What follows a step
-- is related where it is related whatever the step gave; each definition is a chain of such steps.
use Rattle.std.specs.Prelude.{Result}
use Prim.Native.Nat.{ℕ, zero, suc, ◌+◌, ◌≤◌, ◌<◌}
use mathlib.Core.Path.{◌≡◌, refl, sym, ap, ◌∙◌}
use mathlib.Core.List.{List}
use mathlib.Core.Bool.{Bool, true, false}
use native.Mathlib.Omega.{arith}
use native.Mathlib.Decide.{ℕ_discrete}
use borrow.Author.Tests.{eqb-true, eqb-false, eq-eqb, ne_eqb}
use lib.Dec.{eqb, leb}
use lib.ListN.{length}
use Rattle.utils.specs.Bytes.{pick}
use Rattle.lexer.specs.Decoded.{Tok, is_name, token_at}
use Rattle.pieces.specs.declared.Identifier.{Identifier}
use Rattle.parser.specs.Step.{look, then_at, then_named, then_type, then_defined}
use Rattle.parser.specs.Grammar.{consume_d, named_d, local_d, label_d, global_d, type_d, print_d, ret_d, jump_d, branch_d}
use Rattle.parser.specs.Grammar.{nop_d, defined_d, const_d, unary_d, binary_d, is_constant, is_unary, is_binary, value_d}
use Rattle.parser.specs.Grammar.{definition_d, instruction_d}
use Rattle.parser.specs.Labels.{has, labelled_d}
use Rattle.parser.specs.Runs.{Variables, ended, and_then, formal_d, formals_from_d, formals_d, arguments_d, calling}
use Rattle.parser.specs.Runs.{call_d}
use Rattle.parser.specs.Moved.{Move, Sim, SimName, SimE, SimC, SimN, SimR, SimV, SimD, SimO, SimP, Rel}
use Rattle.parser.specs.Moved.{Each, SimVs, SimCalling, SimNumber}
use Rattle.parser.specs.declared.Refusal.{Refusal}
use Rattle.parser.specs.declared.Ty.{Ty}
use Rattle.parser.specs.declared.Variable.{Variable}

-- What follows a step, whatever it is.
module _ {A : Type 0} (T : Move → ℕ → A → A → Type 0) (m : Move) (n : ℕ) where
  pub pick_s : (q : Bool) (x y x' y' : A) → (q ≡ true → Rel m n T x x') → Rel m n T y y'
      → Rel m n T (pick q x y) (pick q x' y')
  unfolding pick
  pick_s true x y x' y' f g = f refl
  pick_s false x y x' y' f g = g

  module _ (f f' : Refusal → A) where
    pub then_at_s : {c c' : Result ℕ Refusal} (k k' : ℕ → A) → Rel m n SimC c c'
        → ((e e' : Refusal) → SimE m n e e' → Rel m n T (f e) (f' e'))
        → ((i : ℕ) → i < n → Rel m n T (k (m.by + i)) (k' i))
        → Rel m n T (then_at f c k) (then_at f' c' k')
    unfolding then_at
    then_at_s k k' (Rel.is (SimC.at i h)) w g = g i h
    then_at_s k k' (Rel.is (SimC.refused e e' r)) w g = w e e' r

    pub then_named_s : {c c' : Result (Identifier × ℕ) Refusal} (k k' : Identifier → ℕ → A) → Rel m n SimN c c'
        → ((e e' : Refusal) → SimE m n e e' → Rel m n T (f e) (f' e'))
        → ((x x' : Identifier) → SimName m x x' → (i : ℕ) → i < n → Rel m n T (k x (m.by + i)) (k' x' i))
        → Rel m n T (then_named f c k) (then_named f' c' k')
    unfolding then_named
    then_named_s k k' (Rel.is (SimN.at {x} {x'} q i h)) w g = g x x' q i h
    then_named_s k k' (Rel.is (SimN.refused e e' r)) w g = w e e' r

    pub then_type_s : {c c' : Result (Ty × ℕ) Refusal} (k k' : Ty → ℕ → A) → Rel m n SimR c c'
        → ((e e' : Refusal) → SimE m n e e' → Rel m n T (f e) (f' e'))
        → ((t : Ty) (i : ℕ) → i < n → Rel m n T (k t (m.by + i)) (k' t i))
        → Rel m n T (then_type f c k) (then_type f' c' k')
    unfolding then_type
    then_type_s k k' (Rel.is (SimR.at t i h)) w g = g t i h
    then_type_s k k' (Rel.is (SimR.refused e e' r)) w g = w e e' r

    pub then_defined_s : {c c' : Result (Variable × ℕ) Refusal} (k k' : Variable → ℕ → A) → Rel m n SimD c c'
        → ((e e' : Refusal) → SimE m n e e' → Rel m n T (f e) (f' e'))
        → ((v v' : Variable) → SimV m v v' → (i : ℕ) → i < n → Rel m n T (k v (m.by + i)) (k' v' i))
        → Rel m n T (then_defined f c k) (then_defined f' c' k')
    unfolding then_defined
    then_defined_s k k' (Rel.is (SimD.at {v} {v'} q i h)) w g = g v v' q i h
    then_defined_s k k' (Rel.is (SimD.refused e e' r)) w g = w e e' r

pub ruleset shapes = (
  Rel.is,
  pick_s,
  then_at_s,
  then_named_s,
  then_type_s,
  then_defined_s,
  SimC.at,
  SimC.refused,
  SimN.at,
  SimN.refused,
  SimR.at,
  SimR.refused,
  SimD.at,
  SimD.refused,
  SimV.of,
  SimE.moved,
  SimP.done,
  SimP.call,
  SimP.call_into,
  SimP.refused,
  SimO.binary,
  SimO.unary,
  SimO.const,
  SimO.jump,
  SimO.branch,
  SimO.ret,
  SimO.ret_value,
  SimO.print,
  SimO.nop,
)

-- a run that has ended, and one with a variable more
pub ended_s : {m : Move} {n : ℕ} (c c' : Result ℕ Refusal) → Rel m n SimC c c' → Rel m n SimVs (ended c) (ended c')
ended_s c c' (Rel.is q) = Rel.is (record { list = Each.none; end = q })

pub and_then_s : {m : Move} {n : ℕ} {v v' : Variable} (r r' : Variables) → SimV m v v' → Rel m n SimVs r r'
    → Rel m n SimVs (and_then v r) (and_then v' r')
and_then_s r r' p (Rel.is q) = Rel.is (record { list = Each.more p q.list; end = q.end })

pub calling_s : {m : Move} {n : ℕ} {g g' : Identifier} (r r' : Variables) → SimName m g g' → Rel m n SimVs r r'
    → Rel m n SimCalling (calling g r) (calling g' r')
calling_s r r' p (Rel.is q) = Rel.is (SimCalling.called p q)

-- Labels are compared by equality, which an injective renaming keeps.
pub eqb_s : {m : Move} {x x' y y' : ℕ} → SimNumber m x x' → SimNumber m y y' → eqb x y ≡ eqb x' y'
eqb_s {m} (SimName.renamed x h) (SimName.renamed y g) = go (ℕ_discrete x y)
  where
    go : Dec (x ≡ y) → eqb (m.name x) (m.name y) ≡ eqb x y
    go (yes e) = eq-eqb _ _ (ap m.name e) ∙ sym (eq-eqb x y e)
    go (no e) = ne_eqb _ _ (λ q. e (m.apart x y h g q)) ∙ sym (ne_eqb x y e)

pub has_s : {m : Move} {ys ys' : List ℕ} {x x' : ℕ} → Each (SimNumber m) ys ys' → SimNumber m x x'
    → has ys x ≡ has ys' x'
unfolding has
has_s Each.none p = refl
has_s (Each.more q r) p = rw (eqb_s q p, has_s r p)

each-length : {m : Move} {ys ys' : List ℕ} → Each (SimNumber m) ys ys' → length ys ≡ length ys'
each-length Each.none = refl
each-length (Each.more q r) = ap suc (each-length r)

pub length_s : {m : Move} {ys ys' : List ℕ} → Each (SimNumber m) ys ys' → leb 255 (length ys) ≡ leb 255 (length ys')
length_s r = ap (λ (k : ℕ). leb 255 k) (each-length r)

-- a test that is the same in both
pub test_s : {A : Type 0} (T : Move → ℕ → A → A → Type 0) (m : Move) (n : ℕ) (q q' : Bool) (x y x' y' : A)
    → q ≡ q' → (q' ≡ true → Rel m n T x x') → Rel m n T y y' → Rel m n T (pick q x y) (pick q' x' y')
test_s T m n q q' x y x' y' e f g = rw e (pick_s T m n q' x y x' y' f g)

-- The definitions, from the steps up.
module _ {m : Move} {n : ℕ} {ts ts' : List Tok} (s : Sim m n ts ts') where
  -- a kind that is not the closing brace's has a token after it
  pub next_s : (i k : ℕ) → eqb (token_at ts' i).kind k ≡ true → i < n → eqb k 28 ≡ false → (token_at ts' i).next < n
  next_s i k e h q = s.inner i h (λ z. eqb-false k 28 q (sym (eqb-true _ _ e) ∙ z))

  pub look_s : {A : Type 0} (T : Move → ℕ → A → A → Type 0) (i : ℕ) (k k' : ℕ → ℕ → A) → i < n
      → ((kind next : ℕ) → next ≤ n → ((kind ≡ 28 → ⊥) → next < n) → Rel m n T (k kind (m.by + next)) (k' kind next))
      → Rel m n T (look (token_at ts (m.by + i)) k) (look (token_at ts' i) k')
  unfolding look
  look_s T i k k' h g = rw (s.same i h) (g (token_at ts' i).kind (token_at ts' i).next (s.near i h) (s.inner i h))

  -- a test of the kind that was looked at
  pub kind_s : (k j next : ℕ) → ((k ≡ 28 → ⊥) → next < n) → eqb k j ≡ true → eqb j 28 ≡ false → next < n
  kind_s k j next f e q = f (λ z. eqb-false j 28 q (sym (eqb-true k j e) ∙ z))

  pub consume_s : (i k : ℕ) → i < n → eqb k 28 ≡ false → Rel m n SimC (consume_d ts (m.by + i) k) (consume_d ts' i k)
  unfolding consume_d
  consume_s i k h q = search (shapes, look_s, kind_s) depth 14

  pub named_s : (i k number : ℕ) → i < n → eqb k 28 ≡ false → is_name k ≡ true
      → Rel m n SimN (named_d ts (m.by + i) k number) (named_d ts' i k number)
  unfolding named_d pick
  named_s i k number h q v =
      rw (s.same i h)
      (pick_s SimN m n _ _ _ _ _ (λ e.
      let a : is_name (token_at ts' i).kind ≡ true = rw (eqb-true (token_at ts' i).kind k e) v in
      rw a (Rel.is (SimN.at (SimName.renamed _ (s.fit i h a)) _ (next_s i k e h q)))) (search shapes))

  pub local_s : (i : ℕ) → i < n → Rel m n SimN (local_d ts (m.by + i)) (local_d ts' i)
  unfolding is_name pick
  local_s i h = named_s i 1 6 h refl refl

  pub global_s : (i : ℕ) → i < n → Rel m n SimN (global_d ts (m.by + i)) (global_d ts' i)
  unfolding is_name pick
  global_s i h = named_s i 2 7 h refl refl

  pub label_s : (i : ℕ) → i < n → Rel m n SimN (label_d ts (m.by + i)) (label_d ts' i)
  unfolding is_name pick
  label_s i h = named_s i 3 8 h refl refl

  pub type_s : (i : ℕ) → i < n → Rel m n SimR (type_d ts (m.by + i)) (type_d ts' i)
  unfolding type_d
  type_s i h = search (shapes, look_s, kind_s) depth 14

  pub ruleset steps = (shapes, look_s, kind_s, consume_s, local_s, label_s, global_s, type_s)

  pub print_s : (w i : ℕ) → w < n → i < n → Rel m n SimP (print_d ts (m.by + w) (m.by + i)) (print_d ts' w i)
  unfolding print_d
  print_s w i l h = search steps depth 14

  pub ret_s : (w i : ℕ) → w < n → i < n → Rel m n SimP (ret_d ts (m.by + w) (m.by + i)) (ret_d ts' w i)
  unfolding ret_d
  ret_s w i l h = search steps depth 14

  pub jump_s : (w i : ℕ) → w < n → i < n → Rel m n SimP (jump_d ts (m.by + w) (m.by + i)) (jump_d ts' w i)
  unfolding jump_d
  jump_s w i l h = search steps depth 14

  pub branch_s : (w i : ℕ) → w < n → i < n → Rel m n SimP (branch_d ts (m.by + w) (m.by + i)) (branch_d ts' w i)
  unfolding branch_d
  branch_s w i l h = search steps depth 20

  pub nop_s : (w i : ℕ) → w < n → i < n → Rel m n SimP (nop_d ts (m.by + w) (m.by + i)) (nop_d ts' w i)
  unfolding nop_d
  nop_s w i l h = search steps depth 14

  pub defined_s : (i : ℕ) → i < n → Rel m n SimD (defined_d ts (m.by + i)) (defined_d ts' i)
  unfolding defined_d
  defined_s i h = search steps depth 20

  -- a kind of a class that the closing brace is not in
  pub class_s : (class : ℕ → Bool) (k next : ℕ) → ((k ≡ 28 → ⊥) → next < n) → class k ≡ true → class 28 ≡ false
      → next < n
  class_s class k next f e q =
      f (λ z. let a : class 28 ≡ true = rw z at e in let b : ◌≡◌ {A = ℕ} 0 1 = cc in omega arith)

  pub constant_s : (k next : ℕ) → ((k ≡ 28 → ⊥) → next < n) → is_constant k ≡ true → next < n
  unfolding is_constant pick
  constant_s k next f e = class_s is_constant k next f e refl

  pub unary_kind_s : (k next : ℕ) → ((k ≡ 28 → ⊥) → next < n) → is_unary k ≡ true → next < n
  unfolding is_unary pick
  unary_kind_s k next f e = class_s is_unary k next f e refl

  pub binary_kind_s : (k next : ℕ) → ((k ≡ 28 → ⊥) → next < n) → is_binary k ≡ true → next < n
  unfolding is_binary pick
  binary_kind_s k next f e = class_s is_binary k next f e refl

  pub const_s : {v v' : Variable} → SimV m v v' → (w i : ℕ) → w < n → i < n
      → Rel m n SimP (const_d ts v (m.by + w) (m.by + i)) (const_d ts' v' w i)
  unfolding const_d
  const_s q w i l h = search (steps, constant_s) depth 16

  pub unary_s : {v v' : Variable} → SimV m v v' → (w i : ℕ) → w < n → i < n
      → Rel m n SimP (unary_d ts v (m.by + w) (m.by + i)) (unary_d ts' v' w i)
  unfolding unary_d
  unary_s q w i l h = search steps depth 16

  pub binary_s : {v v' : Variable} → SimV m v v' → (w i : ℕ) → w < n → i < n
      → Rel m n SimP (binary_d ts v (m.by + w) (m.by + i)) (binary_d ts' v' w i)
  unfolding binary_d
  binary_s q w i l h = search steps depth 18

  pub value_s : {v v' : Variable} → SimV m v v' → (i : ℕ) → i < n
      → Rel m n SimP (value_d ts v (m.by + i)) (value_d ts' v' i)
  unfolding value_d
  value_s q i h = search (steps, unary_kind_s, binary_kind_s, const_s, unary_s, binary_s) depth 18

  pub definition_s : (i : ℕ) → i < n → Rel m n SimP (definition_d ts (m.by + i)) (definition_d ts' i)
  unfolding definition_d
  definition_s i h = search (steps, defined_s, value_s) depth 14

  pub instruction_s : (i : ℕ) → i < n → Rel m n SimP (instruction_d ts (m.by + i)) (instruction_d ts' i)
  unfolding instruction_d
  instruction_s i h = search (steps, print_s, ret_s, jump_s, branch_s, nop_s, definition_s) depth 18

  pub formal_s : (full : Bool) (i : ℕ) → i < n → Rel m n SimD (formal_d ts full (m.by + i)) (formal_d ts' full i)
  unfolding formal_d
  formal_s full i h = search steps depth 18

  pub formals_from_s : (room i : ℕ) → i < n → Rel m n SimVs (formals_from_d ts room (m.by + i)) (formals_from_d ts' room i)
  unfolding formals_from_d
  formals_from_s zero i h = search (steps, formal_s, ended_s) depth 14
  formals_from_s (suc room) i h = search (steps, formal_s, ended_s, and_then_s, formals_from_s room) depth 16

  pub formals_s : (i : ℕ) → i < n → Rel m n SimVs (formals_d ts (m.by + i)) (formals_d ts' i)
  unfolding formals_d
  formals_s i h = search (steps, ended_s, formals_from_s) depth 14

  pub arguments_s : (room i : ℕ) → i < n → Rel m n SimVs (arguments_d ts room (m.by + i)) (arguments_d ts' room i)
  unfolding arguments_d
  arguments_s zero i h = search (steps, ended_s) depth 14
  arguments_s (suc room) i h = search (steps, ended_s, and_then_s, arguments_s room) depth 16

  pub labelled_s : {ls ls' : List ℕ} → Each (SimNumber m) ls ls' → (i : ℕ) → i < n
      → Rel m n SimN (labelled_d ts ls (m.by + i)) (labelled_d ts' ls' i)
  unfolding labelled_d
  labelled_s r i h = search (steps, test_s, has_s, length_s) depth 16

  pub call_s : (i : ℕ) → i < n → Rel m n SimCalling (call_d ts (m.by + i)) (call_d ts' i)
  unfolding call_d
  call_s i h = search (steps, calling_s, arguments_s, SimCalling.refused) depth 16
