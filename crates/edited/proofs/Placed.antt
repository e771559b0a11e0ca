-- Where a function of an accepted text stands among its tokens: from a global to a closing brace, behind the start or
-- another closing brace, and before the end token. The functions of a text follow each other.
use Prim.Native.Nat.{ℕ, ◌+◌, ◌≤◌}
use mathlib.Core.Path.{◌≡◌, ap, ◌∙◌}
use mathlib.Core.List.{List, ◌∷◌, ◌++◌}
use mathlib.Core.Bool.{false}
use native.Mathlib.Omega.{arith}
use Rattle.lexer.specs.Decoded.{Tok, token_at}
use Rattle.functions.specs.Functions.{Function}
use Rattle.unit.specs.Outcome.{checked, unit_d}
use Rattle.related.specs.Runs.{Place, start, behind_all, Run}
use Rattle.related.proofs.Onward.{function-on}
use Rattle.related.proofs.Running.{turn, cut, on-by, run_onward}
use Rattle.related.proofs.Edited.{accepted-by}
use Rattle.edited.proofs.Closing.{function_spans}

-- no token stands there, or a closing brace before it
abbrev pub BehindFunctions : List Tok → ℕ → Type 0
BehindFunctions ts at = (i : ℕ) → i + 1 ≡ at → (token_at ts i).kind ≡ 28

run_ends : {ts : List Tok} {p : Place} {fs : List Function} → Run ts p fs → BehindFunctions ts p.at
    → BehindFunctions ts (behind_all p fs).at
run_ends Run.none h = h
run_ends {ts} {p} (Run.more {f = f} e q r) h =
    let s = function_spans ts false p.known p.types p.at f q in
    run_ends r (λ i g.
    let same : i ≡ s.ends.brace = omega (arith, s.ends.behind) in
    ap (λ (k : ℕ). (token_at ts k).kind) same ∙ s.ends.kind)

-- the function f, `last` being the end token's index
pub record Placed (ts : List Tok) (last : ℕ) (f : Function) : Type 0 where
  pub opens : (token_at ts f.token).kind ≡ 2
  pub brace : ℕ
  pub behind : f.next ≡ brace + 1
  pub closes : (token_at ts brace).kind ≡ 28
  pub order : f.token + 2 ≤ f.next
  pub within : f.next ≤ last
  pub front : BehindFunctions ts f.token

pub function_placed : (ts : List Tok) (last : ℕ) → (token_at ts last).kind ≡ 38 → (before : List Function) (f : Function)
    (behind : List Function) → unit_d ts ≡ checked (before ++ (f ∷ behind)) → Placed ts last f
function_placed ts last ends before f behind e =
    let c = cut ts 64 start before (f ∷ behind) (accepted-by ts (before ++ (f ∷ behind)) e).functions in
    let p = behind_all start before in
    let read = (turn ts c.left p f behind c.rest).read in
    let s = function_spans ts false p.known p.types p.at f read in
    let on = run_onward last ends (omega arith) c.run in
    let o = on-by (function-on ts last ends false p.known p.types p.at on.1) read in
    let nothing : BehindFunctions ts 0 = λ i g. absurd (omega arith) in
    record {
      opens = ap (λ (k : ℕ). (token_at ts k).kind) s.token ∙ s.opens;
      brace = s.ends.brace;
      behind = s.ends.behind;
      closes = s.ends.kind;
      order = omega (arith, s.token, o.1);
      within = o.2;
      front = λ i g. run_ends c.run nothing i (g ∙ s.token);
    }
