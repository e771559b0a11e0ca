-- The simulation of demand 3 along several functions: a run of functions within related tokens.
use Prim.Native.Nat.{ℕ, ◌+◌, ◌≤◌, ◌<◌}
use mathlib.Core.Path.{◌≡◌, refl, sym, ap, subst, ◌∙◌}
use mathlib.Core.List.{List, [], ◌∷◌}
use mathlib.Core.Bool.{false}
use native.Mathlib.Omega.{arith}
use Rattle.lexer.specs.Decoded.{Tok, token_at}
use Rattle.parser.specs.Moved.{Move, Sim, Each, Rel}
use Rattle.functions.specs.Functions.{Function, FunctionAt, function}
use Rattle.functions.specs.Moved.{SimKnown, SimFunction, SimFunctionAt}
use Rattle.functions.proofs.SimFunctions.{known_of_s, each_more, function_s}
use Rattle.related.specs.Runs.{Place, behind_one, behind_all, function_here, Run}
use Rattle.related.proofs.SimTyping.{kind-same}
use Rattle.related.proofs.Onward.{function-on}
use Rattle.related.proofs.Running.{on-by, run_onward}

-- related places to go on at
pub record SimPlace (m : Move) (p p' : Place) : Type 0 where
  pub known : Each (SimKnown m) p.known p'.known
  pub types : p.types ≡ p'.types
  pub at : p.at ≡ m.by + p'.at

-- the functions that are read in ts where fs are read in the other tokens
pub record Along (m : Move) (n : ℕ) (ts : List Tok) (p p' : Place) (fs : List Function) : Type 0 where
  pub functions : List Function
  pub run : Run ts p functions
  pub same : Each (SimFunction m n) functions fs
  pub reached : SimPlace m (behind_all p functions) (behind_all p' fs)

pub record Found (m : Move) (n : ℕ) (a : FunctionAt) (f : Function) : Type 0 where
  pub found : Function
  pub is : a ≡ function found
  pub same : SimFunction m n found f

pub found-by : {m : Move} {n : ℕ} {a a' : FunctionAt} {f : Function} → Rel m n SimFunctionAt a a' → a' ≡ function f
    → Found m n a f
found-by {m} {n} {f = f} (Rel.is (SimFunctionAt.function {f = g} {f' = g'} q)) e =
    let z : g' ≡ f = cc in
    record { found = g; is = refl; same = subst (λ (h : Function). SimFunction m n g h) z q }
found-by (Rel.is (SimFunctionAt.refused x x' q)) e = let z : ◌≡◌ {A = ℕ} 0 1 = cc in absurd (omega arith)

behind_s : {m : Move} {n : ℕ} {p p' : Place} {f f' : Function} → SimPlace m p p' → SimFunction m n f f'
    → SimPlace m (behind_one p f) (behind_one p' f')
behind_s {p = p} {p'} {f} {f'} q s =
    record {
      known = each_more q.known (known_of_s s.head);
      types = rw (q.types, s.head.type) refl;
      at = s.next;
    }

module _ {m : Move} {n : ℕ} {ts ts' : List Tok} (s : Sim m n ts ts') where
  here : {p p' : Place} {f' : Function} → SimPlace m p p' → p'.at < n → function_here ts' p' ≡ function f'
      → Found m n (function_here ts p) f'
  here {p} {p'} q h e =
      rw (q.types, q.at)
      (found-by (function_s s q.known p'.types false p'.at h) e)

  -- THE SIMULATION of a run of functions within the related tokens
  pub along : {p p' : Place} {fs : List Function} (last : ℕ) → (token_at ts' last).kind ≡ 38 → SimPlace m p p'
      → p'.at ≤ last
      → (behind_all p' fs).at ≤ n → Run ts' p' fs → Along m n ts p p' fs
  along last ends q h g Run.none = record { functions = []; run = Run.none; same = Each.none; reached = q }
  along {p} {p'} last ends q h g (Run.more {f = f'} {fs = fs} begun e r) =
      let o = on-by (function-on ts' last ends false p'.known p'.types p'.at h) e in
      let far = run_onward last ends o.2 r in
      let inside : p'.at < n = omega (arith, o.1, far.0) in
      let a = here q inside e in
      let more = along {p = behind_one p a.found} last ends (behind_s q a.same) o.2 g r in
      record {
        functions = a.found ∷ more.functions;
        run =
            Run.more (λ z. begun
            (sym (kind-same s p'.at inside) ∙ (ap (λ (i : ℕ). (token_at ts i).kind) (sym q.at) ∙ z))) a.is
            more.run;
        same = Each.more a.same more.same;
        reached = more.reached;
      }
