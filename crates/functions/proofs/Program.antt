-- The loop over the functions of a text: what is left to read, read from here, gives the whole.
use Rattle.std.specs.Prelude.{Err, Ok, Result}
use Prim.Native.Nat.{ℕ, zero, suc, ◌+◌, ◌-◌, ◌≤◌, ◌<◌}
use mathlib.Core.Path.{◌≡◌, refl, sym, ap, ◌∙◌}
use mathlib.Core.List.{List, [], ◌∷◌, ◌++◌}
use mathlib.Core.Bool.{Bool, true, false}
use mathlib.Core.Logic.{⊎_elim}
use native.Mathlib.Omega.{arith}
use native.Mathlib.Nat.{eq-or-lt_of_le}
use borrow.Author.Tests.{le-leb, lt-leb, eq-eqb, ne_eqb}
use lib.Dec.{leb, eqb}
use Rattle.utils.specs.Bytes.{pick}
use lib.ListN.{length}
use lib.Seq.{length-sets}
use Rattle.lexer.specs.Decoded.{Tok, token_at}
use Rattle.lexer.specs.declared.TokenAt.{TokenAt}
use Rattle.parser.specs.Step.{opened}
use Rattle.parser.specs.declared.Refusal.{Refusal}
use Rattle.functions.specs.Known.{Known, types_after}
use Rattle.functions.specs.Functions.{Function, Program, program_end, program_stop, program_then, known_of, program_d}
use Rattle.functions.specs.Functions.{FunctionAt, function, no_function, then_function, function_d, functions_d}
use Rattle.functions.specs.Rows.{known_from}
use Rattle.functions.specs.Answer.{counts, counts_with, counts_from, Room, Slices, stored_from}
use Rattle.functions.specs.Answer.{Taken, function_read, FunctionHeld, with_count, Held, program_read}
use Rattle.functions.specs.Laid.{Fits, FitsFrom, AllFit}
use Rattle.functions.specs.declared.Counts.{Counts}
use Rattle.functions.specs.declared.FunctionRead.{FunctionRead}
use Rattle.functions.proofs.Types.{TypesFew, more-types, types_after_up, function-type-few}

-- equal answers are of equal reads
pub same-read : {r q : FunctionRead} → ◌≡◌ {A = Result FunctionRead Refusal} (Ok r) (Ok q) → r ≡ q
same-read e = cc

module _ (ts : List Tok) where
  -- One turn, by what the calls gave; k functions are read.
  functions-end : (room : ℕ) (known : List Known) (types at : ℕ) {t : TokenAt} → t ≡ token_at ts at → t.kind ≡ 38
      → functions_d ts room known types at ≡ program_end (Ok at)
  unfolding functions_d opened
  functions-end zero known types at q h = rw (← q, eq-eqb _ _ h)
  functions-end (suc room) known types at q h = rw (← q, eq-eqb _ _ h)

  functions-refused : (k : ℕ) (known : List Known) (types at : ℕ) {t : TokenAt} {e : Refusal} → k ≤ 64
      → t ≡ token_at ts at → (t.kind ≡ 38 → ⊥) → function_d ts (leb 64 k) known types at ≡ no_function e
      → functions_d ts (64 - k) known types at ≡ program_stop e
  unfolding functions_d then_function opened
  functions-refused k known types at few q h g =
      ⊎_elim
      (λ z. let m : 64 - k ≡ 0 = omega arith in rw (m, ← q, ne_eqb _ _ h, ← le-leb 64 k (omega arith), g))
      (λ l. let m : 64 - k ≡ suc (64 - (k + 1)) = omega arith in rw (m, ← q, ne_eqb _ _ h, ← lt-leb 64 k l, g))
      (eq-or-lt_of_le few)

  functions_more : (k : ℕ) (known : List Known) (types at : ℕ) {t : TokenAt} {f : Function} → k < 64
      → t ≡ token_at ts at → (t.kind ≡ 38 → ⊥) → function_d ts (leb 64 k) known types at ≡ function f
      → functions_d ts (64 - k) known types at
      ≡ program_then f
      (functions_d ts (64 - (k + 1)) (known ++ (known_of f.head ∷ [])) (types_after types f.head.type) f.next)
  unfolding functions_d then_function opened
  functions_more k known types at l q h g =
      let m : 64 - k ≡ suc (64 - (k + 1)) = omega arith in
      rw (m, ← q, ne_eqb _ _ h, ← lt-leb 64 k l, g)

types_grow : (types type k : ℕ) → types ≤ k → types_after types type ≤ k + 1
unfolding types_after pick
types_grow types type k h = by (eqb type types)
  where
    by : (b : Bool) → pick b (types + 1) types ≤ k + 1
    by true = omega arith
    by false = omega arith

-- Where the loop is: n is used of the slices s, which were s₀.
module _ (ts : List Tok) (names : List ℕ) (s₀ : Slices) where
  abbrev pub left : ℕ → ℕ → Counts → Slices → Program
  left at types n s = functions_d ts (64 - n.functions) (known_from s.functions 0 n.functions) types at

  pub record Going (at types : ℕ) (n : Counts) (s : Slices) : Type 0 where
    pub few : n.functions ≤ 64
    pub types_few : types ≤ n.functions
    pub room : Room ts at n
    pub functions_kept : length s.functions ≡ length s₀.functions
    pub items_kept : length s.items ≡ length s₀.items
    pub arguments_kept : length s.arguments ≡ length s₀.arguments
    pub blocks_kept : length s.blocks ≡ length s₀.blocks
    pub predecessors_kept : length s.predecessors ≡ length s₀.predecessors
    pub ends : (left at types n s).end ≡ (program_d ts).end
    pub counted : counts_from n (left at types n s).functions ≡ counts_from (counts 0 0 0 0 0) (program_d ts).functions
    pub stored : stored_from ts names n s (left at types n s).functions
        ≡ stored_from ts names (counts 0 0 0 0 0) s₀ (program_d ts).functions
    pub number : n.functions + length (left at types n s).functions ≡ length (program_d ts).functions
    pub known_few : TypesFew types (known_from s.functions 0 n.functions)
    pub fits : FitsFrom n (left at types n s).functions → AllFit (program_d ts)

  pub begin : Room ts 0 (counts 0 0 0 0 0) → Going 0 0 (counts 0 0 0 0 0) s₀
  unfolding known_from
  begin room =
      record {
        few = omega arith;
        types_few = omega arith;
        room = room;
        functions_kept = refl;
        items_kept = refl;
        arguments_kept = refl;
        blocks_kept = refl;
        predecessors_kept = refl;
        ends = refl;
        counted = refl;
        stored = refl;
        number = omega arith;
        known_few = tt;
        fits = λ w. w;
      }

  module _ {at types : ℕ} {n : Counts} {s : Slices} (g : Going at types n s) where
    fitting : {f : Function} {s' : Slices} → Taken ts names n f s s' → f.head.type ≤ types → Fits n f
    fitting w few-type =
        let r = w.room in
        record {
          functions_few = w.few;
          type_few = omega (arith, few-type, g.types_few, w.few);
          formals_few = w.formals_few;
          items_few = omega (arith, r.items_few, r.within.reached, r.within.few);
          arguments_few = omega (arith, r.arguments_few, r.within.reached, r.within.few);
          blocks_few = omega (arith, r.blocks_few, r.within.reached, r.within.few);
          few_blocks = w.few_blocks;
          predecessors_few =
              omega (arith, r.predecessors_few, r.blocks_few, r.within.reached, r.within.few);
        }

    -- the end token
    pub at_end : {t : TokenAt} → t ≡ token_at ts at → t.kind ≡ 38
        → (Ok n ≡ program_read (program_d ts))
        × (Held ts names (program_d ts).functions s₀ (with_count n.functions s) (program_d ts).end × AllFit
        (program_d ts))
    unfolding program_read counts_from stored_from FitsFrom opened
    at_end q h =
        let e = functions-end ts (64 - n.functions) (known_from s.functions 0 n.functions) types at q h in
        let f : (program_d ts).end ≡ Ok at = sym g.ends ∙ ap (λ (p : Program). p.end) e in
        let k : n.functions ≡ length (program_d ts).functions = omega (arith, rw e at g.number) in
        rw f (
          ap Ok (rw e at g.counted),
          (rw k (ap (with_count (length (program_d ts).functions)) (rw e at g.stored)), g.fits (rw e tt)),
        )

    pub at-refused : {t : TokenAt} {e : Refusal} → t ≡ token_at ts at → (t.kind ≡ 38 → ⊥)
        → function_d ts (leb 64 n.functions) (known_from s.functions 0 n.functions) types at ≡ no_function e
        → (s' : Slices)
        → (Err e ≡ program_read (program_d ts)) × (Held ts names (program_d ts).functions s₀ s' (program_d ts).end
        × AllFit (program_d ts))
    unfolding program_read FitsFrom opened
    at-refused {e = r} q h a s' =
        let e = functions-refused ts n.functions (known_from s.functions 0 n.functions) types at g.few q h
        a in
        let f : (program_d ts).end ≡ Err r = sym g.ends ∙ ap (λ (p : Program). p.end) e in
        rw f (refl, (tt, g.fits (rw e tt)))

    pub onward : {t : TokenAt} {f : Function} → t ≡ token_at ts at → (t.kind ≡ 38 → ⊥)
        → function_d ts (leb 64 n.functions) (known_from s.functions 0 n.functions) types at ≡ function f
        → (s' : Slices) → Taken ts names n f s s'
        → Going f.next (types_after types f.head.type) (counts_with n f) s'
    unfolding counts_from stored_from types_after FitsFrom opened
    onward {f = f} q h a s' w =
        let e = functions_more ts n.functions (known_from s.functions 0 n.functions) types at w.few q h a in
        let few-type = function-type-few ts (known_from s.functions 0 n.functions) types g.known_few
        (leb 64 n.functions)
        at a in
        let same : left at types n s
        ≡ program_then f (left f.next (types_after types f.head.type) (counts_with n f) s') =
        e ∙ rw w.seen in
        record {
          few = omega (arith, w.few);
          types_few = types_grow types f.head.type n.functions g.types_few;
          room = w.room;
          functions_kept = rw (w.stored, length-sets) g.functions_kept;
          items_kept = rw (w.stored, length-sets) g.items_kept;
          arguments_kept = rw (w.stored, length-sets) g.arguments_kept;
          blocks_kept = rw (w.stored, length-sets) g.blocks_kept;
          predecessors_kept = rw (w.stored, length-sets) g.predecessors_kept;
          ends = rw same at g.ends;
          counted = rw same at g.counted;
          stored = ap (λ (z : Slices). stored_from ts names (counts_with n f) z
              (left f.next (types_after types f.head.type) (counts_with n f) s').functions) w.stored
              ∙ rw same at g.stored;
          number = omega (arith, rw same at g.number);
          known_few =
              rw w.seen
              (more-types types (types_after types f.head.type) (known_from s.functions 0 n.functions)
              (known_of f.head)
              (types_after_up types f.head.type) (omega (arith, few-type, types_after_up types f.head.type))
              g.known_few);
          fits = λ v. g.fits (rw same (fitting w few-type, v));
        }

    -- the same by what `parse_function` answers
    pub refused-read : {t : TokenAt} {e : Refusal} → t ≡ token_at ts at → (t.kind ≡ 38 → ⊥) → (x : FunctionAt)
        → function_d ts (leb 64 n.functions) (known_from s.functions 0 n.functions) types at ≡ x
        → Err e ≡ function_read types n x → (s' : Slices)
        → (Err e ≡ program_read (program_d ts)) × (Held ts names (program_d ts).functions s₀ s' (program_d ts).end
        × AllFit (program_d ts))
    refused-read {e = e} q h (no_function r) a g s' = at-refused q h (a ∙ cc) s'
    refused-read q h (function f) a g s' = absurd (let z : ◌≡◌ {A = ℕ} 0 1 = cc in omega arith)

    pub read-on : {t : TokenAt} → t ≡ token_at ts at → (t.kind ≡ 38 → ⊥) → (x : FunctionAt)
        → function_d ts (leb 64 n.functions) (known_from s.functions 0 n.functions) types at ≡ x
        → (s' : Slices) → FunctionHeld ts names n s s' x → (r : FunctionRead)
        → Ok r ≡ function_read types n x
        → Going r.next r.types r.counts s' × (n.functions < 64) × (r.counts.functions ≡ n.functions + 1)
    read-on q h (function f) a s' w r e =
        let v : r ≡ record { next = f.next; types = types_after types f.head.type; counts = counts_with n f } =
        same-read e in
        rw v (onward q h a s' w, w.few, refl)
    read-on q h (no_function e) a s' w r g = absurd (let z : ◌≡◌ {A = ℕ} 0 1 = cc in omega arith)
