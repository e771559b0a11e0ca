-- Typing all functions is typing each: where all others are fine, one function decides.
use Rattle.std.specs.Prelude.{Err, Ok, Result}
use Rattle.parser.specs.declared.Refusal.{Refusal}
use Prim.Native.Nat.{ℕ}
use mathlib.Core.Path.{◌≡◌, refl, sym, ◌∙◌}
use mathlib.Core.List.{List, [], ◌∷◌, ◌++◌}
use native.Mathlib.Omega.{arith}
use Rattle.lexer.specs.Decoded.{Tok}
use Rattle.parser.specs.Moved.{Move, Sim, Each}
use Rattle.functions.specs.Functions.{Function}
use Rattle.functions.specs.Moved.{SimFunction}
use Rattle.sema.specs.Symbols.{Typed, then_end, then_typed}
use Rattle.sema.specs.Typing.{Global}
use Rattle.sema.specs.Program.{globals_of, type_program_d, function_typed}
use Rattle.related.specs.Tables.{All, SimChecked, SimTyped, Tables, SameGlobals}
use Rattle.related.proofs.SimProgram.{function_typed_s}

-- both steps are fine
fine_end : (c : Result Unit Refusal) (next this : Typed) → this.end ≡ c → (then_end c next this).end ≡ (Ok tt)
    → (c ≡ (Ok tt)) × (next.end ≡ (Ok tt))
unfolding then_end
fine_end (Ok tt) next this e h = (refl, h)
fine_end (Err x) next this e h = let z : ◌≡◌ {A = ℕ} 0 1 = cc in absurd (omega arith)

-- the second decides where the first is fine, and the first where the second is
second_decides : (c : Result Unit Refusal) (next this : Typed) → c ≡ (Ok tt) → (then_end c next this).end ≡ next.end
unfolding then_end
second_decides (Ok tt) next this e = refl
second_decides (Err x) next this e = let z : ◌≡◌ {A = ℕ} 0 1 = cc in absurd (omega arith)

first_decides : (c : Result Unit Refusal) (next this : Typed) → this.end ≡ c → next.end ≡ (Ok tt)
    → (then_end c next this).end ≡ this.end
unfolding then_end
first_decides (Ok tt) next this e h = h ∙ sym e
first_decides (Err x) next this e h = refl

module _ (ts : List Tok) (all : List Function) (blank : List ℕ) where
  -- this function is typed, and fine
  abbrev pub FineIn : Function → Type 0
  FineIn f = (function_typed ts (globals_of all) f blank).end ≡ (Ok tt)

  pub each-fine : (fs : List Function) → (type_program_d ts all fs blank).end ≡ (Ok tt) → All FineIn fs
  unfolding type_program_d then_typed
  each-fine [] e = All.none
  each-fine (f ∷ fs) e =
      let this = function_typed ts (globals_of all) f blank in
      let both = fine_end this.end (type_program_d ts all fs blank) this refl e in
      All.more both.0 (each-fine fs both.1)

  pub all-fine : {fs : List Function} → All FineIn fs → (type_program_d ts all fs blank).end ≡ (Ok tt)
  unfolding type_program_d then_typed
  all-fine All.none = refl
  all-fine (All.more {x = f} {xs = fs} q r) =
      let this = function_typed ts (globals_of all) f blank in
      second_decides this.end (type_program_d ts all fs blank) this q ∙ all-fine r

  pub one_decides : {before behind : List Function} (f : Function) → All FineIn before → All FineIn behind
      → (type_program_d ts all (before ++ (f ∷ behind)) blank).end ≡ (function_typed ts (globals_of all) f blank).end
  unfolding type_program_d then_typed
  one_decides {behind = behind} f All.none r =
      let this = function_typed ts (globals_of all) f blank in
      first_decides this.end (type_program_d ts all behind blank) this refl (all-fine r)
  one_decides {behind = behind} f (All.more {x = g} {xs = gs} q p) r =
      let this = function_typed ts (globals_of all) g blank in
      second_decides this.end (type_program_d ts all (gs ++ (f ∷ behind)) blank) this q ∙ one_decides f p r

-- Related typings are both fine. -------------------------------------------------------------------------------------

pub fine-to : {m : Move} {n : ℕ} {a a' : Typed} → SimTyped m n a a' → a.end ≡ (Ok tt) → a'.end ≡ (Ok tt)
fine-to (SimTyped.both q SimChecked.fine) e = refl
fine-to (SimTyped.both q (SimChecked.refused r)) e = let z : ◌≡◌ {A = ℕ} 0 1 = cc in absurd (omega arith)

pub fine-from : {m : Move} {n : ℕ} {a a' : Typed} → SimTyped m n a a' → a'.end ≡ (Ok tt) → a.end ≡ (Ok tt)
fine-from (SimTyped.both q SimChecked.fine) e = refl
fine-from (SimTyped.both q (SimChecked.refused r)) e = let z : ◌≡◌ {A = ℕ} 0 1 = cc in absurd (omega arith)

module _ {m : Move} {n : ℕ} {ts ts' : List Tok} {globals globals' : ℕ → Global} {blank blank' : List ℕ}
    (s : Sim m n ts ts') (g : SameGlobals m globals globals') (t : Tables m blank blank') where
  pub all_from : {fs fs' : List Function} → Each (SimFunction m n) fs fs'
      → All (λ f. (function_typed ts' globals' f blank').end ≡ (Ok tt)) fs'
      → All (λ f. (function_typed ts globals f blank).end ≡ (Ok tt)) fs
  all_from Each.none All.none = All.none
  all_from (Each.more q r) (All.more a b) = All.more (fine-from (function_typed_s s g t q) a) (all_from r b)

  pub all-to : {fs fs' : List Function} → Each (SimFunction m n) fs fs'
      → All (λ f. (function_typed ts globals f blank).end ≡ (Ok tt)) fs
      → All (λ f. (function_typed ts' globals' f blank').end ≡ (Ok tt)) fs'
  all-to Each.none All.none = All.none
  all-to (Each.more q r) (All.more a b) = All.more (fine-to (function_typed_s s g t q) a) (all-to r b)
