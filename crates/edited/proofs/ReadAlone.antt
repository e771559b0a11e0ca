-- A function that is read behind others is read with nothing known, too, and from its own tokens alone: the same
-- function, but for the number of its function type.
use Rattle.std.specs.Prelude.{Result, Ok}
use Prim.Native.Nat.{ℕ, ◌+◌, ◌<◌}
use mathlib.Core.Path.{◌≡◌, refl, sym, ap, subst, ◌∙◌}
use mathlib.Core.Bool.{false}
use mathlib.Core.List.{List, [], ◌∷◌, ◌++◌}
use native.Mathlib.Omega.{arith}
use borrow.Author.Tests.{eq-eqb}
use Rattle.utils.specs.Bytes.{pick}
use Rattle.lexer.specs.Decoded.{Tok, token_at}
use Rattle.pieces.specs.declared.Identifier.{Identifier}
use Rattle.parser.specs.Step.{look}
use Rattle.parser.specs.Moved.{Move, Sim, Each, Rel}
use Rattle.parser.specs.declared.Ty.{Ty}
use Rattle.parser.specs.declared.Refusal.{Refusal}
use Rattle.parser.specs.declared.Variable.{Variable}
use Rattle.functions.specs.Known.{Known}
use Rattle.functions.specs.Functions.{Function, FunctionAt, function, no_function, then_function, optional_formals}
use Rattle.functions.specs.Functions.{optional_type, function_d}
use Rattle.functions.specs.Moved.{SimFunction, SimFunctionAt}
use Rattle.unit.specs.Outcome.{checked, unit_d}
use Rattle.recheck.specs.Recheck.{alone_d, retyped}
use Rattle.related.specs.Runs.{start, behind_all}
use Rattle.related.specs.Entry.{retyped_function_at, UpToEntry, Enters}
use Rattle.functions.proofs.SimFunctions.{function_s}
use Rattle.related.proofs.Running.{turn, cut}
use Rattle.related.proofs.Entry.{function-known, function-entered, function_up_to}
use Rattle.related.proofs.Edited.{accepted-by}
use Rattle.edited.proofs.Closing.{function_spans}

-- With nothing known. ------------------------------------------------------------------------------------------------

-- what is read before a name is entered is one header
record SameEntry (g g' : Identifier) (vs vs' : List Variable) (ret ret' : Ty) : Type 0 where
  name : g ≡ g'
  formals : vs ≡ vs'
  result : ret ≡ ret'

same_entry : {ts : List Tok} {at : ℕ} {g g' : Identifier} {vs vs' : List Variable} {ret ret' : Ty}
    → UpToEntry ts at g vs ret → UpToEntry ts at g' vs' ret' → SameEntry g g' vs vs' ret ret'
same_entry {ts} {g = g} {g'} {ret = ret} {ret'} u w =
    let named : ◌≡◌ {A = Identifier × ℕ} (g, u.at1) (g', w.at1) = cc (u.named, w.named) in
    let name : g ≡ g' = ap (λ (a : Identifier × ℕ). a.0) named in
    let at1 : u.at1 ≡ w.at1 = ap (λ (a : Identifier × ℕ). a.1) named in
    let closed : Ok u.at2 ≡ Ok w.at2 =
    sym u.closed ∙ ap (λ (i : ℕ). (optional_formals ts i).end) at1 ∙ w.closed in
    let at2 : u.at2 ≡ w.at2 = cc in
    let typed : ◌≡◌ {A = Result (Ty × ℕ) Refusal} (Ok (ret, u.at3)) (Ok (ret', w.at3)) =
    sym u.typed ∙ ap (optional_type ts) at2 ∙ w.typed in
    let found : ◌≡◌ {A = Ty × ℕ} (ret, u.at3) (ret', w.at3) = cc (typed) in
    record {
      name = name;
      formals = sym u.listed ∙ ap (λ (i : ℕ). (optional_formals ts i).list) at1 ∙ w.listed;
      result = ap (λ (a : Ty × ℕ). a.0) found;
    }

pub record ReadFree (ts : List Tok) (at : ℕ) (f : Function) : Type 0 where
  pub free : Function
  pub is : function_d ts false [] 0 at ≡ function free
  pub same : retyped f.head.type free ≡ f

module _ (ts : List Tok) (known : List Known) (types at : ℕ) (f : Function)
    (read : function_d ts false known types at ≡ function f) where
  enters : (g : Identifier) (vs : List Variable) (ret : Ty) → UpToEntry ts at g vs ret
      → Enters known types f.head.type g vs ret
  enters g vs ret u =
      let e = same_entry (function_up_to ts known types at f read) u in
      rw (← e.name, ← e.formals, ← e.result) (function-entered ts known types at f read)

  pub read_free : ReadFree ts at f
  read_free =
      by (function_d ts false [] 0 at) refl
      (sym (function-known ts known types f.head.type at enters) ∙ read)
    where
      by : (x : FunctionAt) → function_d ts false [] 0 at ≡ x → retyped_function_at f.head.type x ≡ function f
          → ReadFree ts at f
      by (function g) e q = record { free = g; is = e; same = cc }
      by (no_function r) e q = absurd (let z : ◌≡◌ {A = ℕ} 0 1 = cc in omega arith)

-- a function of an accepted text
pub accepted_free : (ts : List Tok) (before : List Function) (f : Function) (behind : List Function)
    → unit_d ts ≡ checked (before ++ (f ∷ behind)) → ReadFree ts f.token f
accepted_free ts before f behind e =
    let c = cut ts 64 start before (f ∷ behind) (accepted-by ts (before ++ (f ∷ behind)) e).functions in
    let p = behind_all start before in
    let read = (turn ts c.left p f behind c.rest).read in
    let at : p.at ≡ f.token = sym (function_spans ts false p.known p.types p.at f read).token in
    subst (λ (i : ℕ). ReadFree ts i f) at (read_free ts p.known p.types p.at f read)

-- From its own tokens. -----------------------------------------------------------------------------------------------

pub record ReadOwn (m : Move) (n : ℕ) (alone : List Tok) (f : Function) : Type 0 where
  pub own : Function
  pub is : alone_d alone ≡ function own
  pub same : SimFunction m n f own

own-by : {m : Move} {n : ℕ} {x x' : FunctionAt} {f : Function} → Rel m n SimFunctionAt x x' → x ≡ function f
    → (g : Function) × (x' ≡ function g) × SimFunction m n f g
own-by {m} {n} {f = f} (Rel.is (SimFunctionAt.function {f = h} {f' = g} q)) e =
    let same : h ≡ f = cc in
    (g, refl, subst (λ (k : Function). SimFunction m n k g) same q)
own-by (Rel.is (SimFunctionAt.refused x x' q)) e = absurd (let z : ◌≡◌ {A = ℕ} 0 1 = cc in omega arith)

alone-is : (alone : List Tok) (g : Function) → function_d alone false [] 0 0 ≡ function g
    → (token_at alone g.next).kind ≡ 38 → alone_d alone ≡ function g
unfolding alone_d then_function look pick
alone-is alone g e ends = rw (e, eq-eqb (token_at alone g.next).kind 38 ends)

-- n tokens, and the end token behind them
pub read-own : {m : Move} {n : ℕ} {ts alone : List Tok} {f : Function} → Sim m n ts alone → 0 < n
    → function_d ts false [] 0 (m.by + 0) ≡ function f → f.next ≡ m.by + n → (token_at alone n).kind ≡ 38
    → ReadOwn m n alone f
read-own {m} {n} {ts} {alone} {f} s some read next ends =
    let z = own-by (function_s s Each.none 0 false 0 some) read in
    let at : n ≡ z.0.next = omega (arith, z.2.next, next) in
    record {
      own = z.0;
      is = alone-is alone z.0 z.1 (ap (λ (i : ℕ). (token_at alone i).kind) (sym at) ∙ ends);
      same = z.2;
    }
