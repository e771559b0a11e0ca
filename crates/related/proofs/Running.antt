-- Reading all functions is reading some of them, and then the others from where these end.
use Rattle.std.specs.Prelude.{Ok}
use Prim.Native.Nat.{ℕ, zero, suc, ◌+◌, ◌≤◌}
use mathlib.Core.Path.{◌≡◌, refl, sym, ap, subst, ◌∙◌}
use mathlib.Core.List.{List, [], ◌∷◌, ◌++◌}
use mathlib.Core.Bool.{Bool, true, false}
use native.Mathlib.Omega.{arith}
use borrow.Author.Tests.{eqb-false, ne_eqb}
use lib.Dec.{eqb}
use lib.ListN.{length}
use Rattle.utils.specs.Bytes.{pick}
use Rattle.lexer.specs.Decoded.{Tok, token_at}
use Rattle.parser.specs.Step.{look}
use Rattle.parser.specs.declared.Refusal.{Refusal}
use Rattle.functions.specs.Functions.{Function, FunctionAt, function, no_function, Program, program_end, program_stop}
use Rattle.functions.specs.Functions.{program_then, then_function, function_d, functions_d}
use Rattle.related.specs.Runs.{Place, behind_one, behind_all, function_here, functions_here, Run, all_then}
use Rattle.related.proofs.Onward.{FunctionOn, function-on}

-- a turn that reads a function, and one that is refused
pub turn_read : (ts : List Tok) (room : ℕ) (p : Place) (f : Function) → ((token_at ts p.at).kind ≡ 38 → ⊥)
    → function_here ts p ≡ function f
    → functions_here ts (suc room) p ≡ program_then f (functions_here ts room (behind_one p f))
unfolding functions_d look pick then_function
turn_read ts room p f h e = rw (ne_eqb (token_at ts p.at).kind 38 h, e) refl

pub turn_refused : (ts : List Tok) (room : ℕ) (p : Place) (e : Refusal) → ((token_at ts p.at).kind ≡ 38 → ⊥)
    → function_here ts p ≡ no_function e → functions_here ts (suc room) p ≡ program_stop e
unfolding functions_d look pick then_function
turn_refused ts room p e h q = rw (ne_eqb (token_at ts p.at).kind 38 h, q) refl

-- reading goes on behind a run
pub run_on : {ts : List Tok} {p : Place} {fs : List Function} (room : ℕ) → Run ts p fs
    → functions_here ts (length fs + room) p ≡ all_then fs (functions_here ts room (behind_all p fs))
run_on {ts} {p} room Run.none =
    let z : length {A = Function} [] + room ≡ room = omega arith in
    ap (λ (k : ℕ). functions_here ts k p) z
run_on {ts} {p} room (Run.more {f = f} {fs = fs} h e r) =
    let z : length (f ∷ fs) + room ≡ suc (length fs + room) = omega arith in
    ap (λ (k : ℕ). functions_here ts k p) z ∙ turn_read ts (length fs + room) p f h e ∙ ap
    (λ (u : Program). program_then f u) (run_on room r)

-- What a turn was, by what was read. ---------------------------------------------------------------------------------

pub record Turn (ts : List Tok) (room : ℕ) (p : Place) (f : Function) (fs : List Function) : Type 0 where
  pub left : ℕ
  pub room_is : room ≡ suc left
  pub begun : (token_at ts p.at).kind ≡ 38 → ⊥
  pub read : function_here ts p ≡ function f
  pub rest : (functions_here ts left (behind_one p f)).functions ≡ fs
  pub end : (functions_here ts room p).end ≡ (functions_here ts left (behind_one p f)).end

record Taken (b : Bool) (a : FunctionAt) (k : Function → Program) (whole : Program) (f : Function) (fs : List Function)
    : Type 0 where
  taken : Function
  test : b ≡ false
  is : a ≡ function taken
  functions : (k taken).functions ≡ f ∷ fs
  end : whole.end ≡ (k taken).end

taken-by : (b : Bool) (a : FunctionAt) (k : Function → Program) (at : ℕ) (f : Function) (fs : List Function)
    → (pick b (program_end (Ok at)) (then_function program_stop a k)).functions ≡ f ∷ fs
    → Taken b a k (pick b (program_end (Ok at)) (then_function program_stop a k)) f fs
unfolding pick then_function
taken-by true a k at f fs e = let z : ◌≡◌ {A = ℕ} 0 1 = cc in absurd (omega arith)
taken-by false (function g) k at f fs e = record { taken = g; test = refl; is = refl; functions = e; end = refl }
taken-by false (no_function x) k at f fs e = let z : ◌≡◌ {A = ℕ} 0 1 = cc in absurd (omega arith)

pub turn : (ts : List Tok) (room : ℕ) (p : Place) (f : Function) (fs : List Function)
    → (functions_here ts room p).functions ≡ f ∷ fs → Turn ts room p f fs
unfolding functions_d look
turn ts zero p f fs e =
    let t =
    taken-by (eqb (token_at ts p.at).kind 38) (function_d ts true p.known p.types p.at) _ p.at f fs e in
    let q : ◌≡◌ {A = List Function} [] (f ∷ fs) = t.functions in
    let z : ◌≡◌ {A = ℕ} 0 1 = cc in absurd (omega arith)
turn ts (suc room) p f fs e =
    let t = taken-by (eqb (token_at ts p.at).kind 38) (function_here ts p)
    (λ g. program_then g (functions_here ts room (behind_one p g))) p.at f fs e in
    let same : t.taken ≡ f = cc t.functions in
    let rest : (functions_here ts room (behind_one p t.taken)).functions ≡ fs = cc t.functions in
    record {
      left = room;
      room_is = refl;
      begun = eqb-false (token_at ts p.at).kind 38 t.test;
      read = t.is ∙ ap function same;
      rest = ap (λ (g : Function). (functions_here ts room (behind_one p g)).functions) (sym same) ∙ rest;
      end = t.end ∙ ap (λ (g : Function). (functions_here ts room (behind_one p g)).end) same;
    }

-- .. and a run, with what follows it
pub record Cut (ts : List Tok) (room : ℕ) (p : Place) (fs gs : List Function) : Type 0 where
  pub left : ℕ
  pub room_is : room ≡ length fs + left
  pub run : Run ts p fs
  pub rest : (functions_here ts left (behind_all p fs)).functions ≡ gs
  pub end : (functions_here ts room p).end ≡ (functions_here ts left (behind_all p fs)).end

pub cut : (ts : List Tok) (room : ℕ) (p : Place) (fs gs : List Function)
    → (functions_here ts room p).functions ≡ fs ++ gs → Cut ts room p fs gs
cut ts room p [] gs e =
    record { left = room; room_is = omega arith; run = Run.none; rest = e; end = refl }
cut ts room p (f ∷ fs) gs e =
    let t = turn ts room p f (fs ++ gs) e in
    let c = cut ts t.left (behind_one p f) fs gs t.rest in
    record {
      left = c.left;
      room_is = omega (arith, t.room_is, c.room_is);
      run = Run.more t.begun t.read c.run;
      rest = c.rest;
      end = t.end ∙ c.end;
    }

-- A run goes on. -----------------------------------------------------------------------------------------------------

pub on-by : {from last : ℕ} {a : FunctionAt} {f : Function} → FunctionOn from last a → a ≡ function f
    → (f.token ≡ from) × (from + 2 ≤ f.next) × (f.next ≤ last)
on-by {from} {last} q e = subst (λ (a : FunctionAt). FunctionOn from last a) e q

pub run_onward : {ts : List Tok} {p : Place} {fs : List Function} (last : ℕ) → (token_at ts last).kind ≡ 38 → p.at ≤ last
    → Run ts p fs → (p.at ≤ (behind_all p fs).at) × ((behind_all p fs).at ≤ last)
run_onward last ends h Run.none = (omega arith, h)
run_onward {ts} {p} last ends h (Run.more e q r) =
    let o = on-by (function-on ts last ends false p.known p.types p.at h) q in
    let more = run_onward last ends o.2 r in
    (omega (arith, o.1, more.0), more.1)
