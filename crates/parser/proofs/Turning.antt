-- One turn of each loop over a run, by what the calls gave: the definition with this much room left is the end, the
-- refusal, or one variable and the rest.
use Rattle.std.specs.Prelude.{Err, Ok, Result, ◌||◌}
use Rattle.std.specs.List.{list_any}
use Prim.Native.Nat.{ℕ, zero, suc, ◌+◌, ◌-◌, ◌≤◌, ◌<◌}
use mathlib.Core.Path.{◌≡◌, refl, sym, ◌∙◌}
use mathlib.Core.List.{List, [], ◌∷◌}
use mathlib.Core.Bool.{Bool, true, false}
use mathlib.Core.Logic.{⊎_elim}
use native.Mathlib.Omega.{arith}
use native.Mathlib.Nat.{eq-or-lt_of_le}
use borrow.Author.Tests.{le-leb, lt-leb, eq-eqb, ne_eqb}
use lib.Dec.{eqb, leb}
use lib.ListN.{length, take}
use lib.Seq.{length-take-le, sets}
use Rattle.utils.specs.Bytes.{pick}
use Rattle.lexer.specs.Decoded.{Tok, token_at}
use Rattle.lexer.specs.declared.TokenAt.{TokenAt}
use Rattle.pieces.specs.declared.Identifier.{Identifier}
use Rattle.parser.specs.Step.{refusal, opened, then_at}
use Rattle.parser.specs.Labels.{has}
use Rattle.parser.specs.Grammar.{consume_d, local_d, global_d}
use Rattle.parser.specs.Runs.{Variables, run_of, ended, stopped, and_then, variable, formal_d, formals_from_d}
use Rattle.parser.specs.Runs.{arguments_d, variables_cells, calling, call_d, called_of}
use Rattle.parser.specs.declared.Refusal.{Refusal}
use Rattle.parser.specs.declared.Ty.TheVariants as Y
use Rattle.parser.specs.declared.Variable.{Variable}
use Rattle.parser.specs.declared.Run.{Run}

module _ (ts : List Tok) where
  -- arguments
  pub arguments-end : (room at : ℕ) {t : TokenAt} → t ≡ token_at ts at → t.kind ≡ 30
      → arguments_d ts room at ≡ ended (Ok t.next)
  unfolding arguments_d opened
  arguments-end zero at q h = rw (← q, eq-eqb _ _ h)
  arguments-end (suc room) at q h = rw (← q, eq-eqb _ _ h)

  pub arguments-refused : (room at : ℕ) {t : TokenAt} {c : Result (Identifier × ℕ) Refusal} {e : Refusal} → t ≡ token_at ts at → (t.kind ≡ 30 → ⊥)
      → c ≡ local_d ts at → c ≡ Err e → arguments_d ts room at ≡ stopped e
  unfolding arguments_d opened
  arguments-refused zero at q h k g = rw (← q, ne_eqb _ _ h, ← k, g)
  arguments-refused (suc room) at q h k g = rw (← q, ne_eqb _ _ h, ← k, g)

  pub arguments_full : (room at : ℕ) {t : TokenAt} {c : Result (Identifier × ℕ) Refusal} {x : Identifier} {next : ℕ} → room ≡ 0
      → t ≡ token_at ts at → (t.kind ≡ 30 → ⊥) → c ≡ local_d ts at → c ≡ Ok (x, next) → arguments_d ts room at ≡ stopped
      (refusal 37 at 0)
  unfolding arguments_d opened
  arguments_full room at z q h k g = rw (z, ← q, ne_eqb _ _ h, ← k, g)

  pub arguments-more : (n at : ℕ) {t : TokenAt} {c : Result (Identifier × ℕ) Refusal} {x : Identifier} {next : ℕ} → n < 16 → t ≡ token_at ts at
      → (t.kind ≡ 30 → ⊥) → c ≡ local_d ts at → c ≡ Ok (x, next)
      → arguments_d ts (16 - n) at ≡ and_then (variable x Y.Placeholder) (arguments_d ts (16 - (n + 1)) next)
  unfolding arguments_d opened
  arguments-more n at l q h k g =
      let m : 16 - n ≡ suc (16 - (n + 1)) = omega arith in
      rw (m, ← q, ne_eqb _ _ h, ← k, g)

  -- formals; a seventeenth is never taken
  never_full : (at : ℕ) (c : Result (Identifier × ℕ) Refusal) {v : Variable} {i : ℕ} → c ≡ local_d ts at → formal_d ts true at ≡ Ok (v, i) → ⊥
  unfolding formal_d opened
  never_full at (Ok (x, j)) q h = let f = rw (← q) at h in let z : ◌≡◌ {A = ℕ} 0 1 = cc in omega arith
  never_full at (Err e) q h = let f = rw (← q) at h in let z : ◌≡◌ {A = ℕ} 0 1 = cc in omega arith

  pub formals-refused : (n at : ℕ) {d : Result (Variable × ℕ) Refusal} {e : Refusal} → n ≤ 16 → d ≡ formal_d ts (leb 16 n) at → d ≡ Err e
      → formals_from_d ts (16 - n) at ≡ stopped e
  unfolding formals_from_d opened
  formals-refused n at h q g =
      ⊎_elim
      (λ z. let m : 16 - n ≡ 0 = omega arith in rw (m, ← le-leb 16 n (omega arith), ← q, g))
      (λ l. let m : 16 - n ≡ suc (16 - (n + 1)) = omega arith in rw (m, ← lt-leb 16 n l, ← q, g))
      (eq-or-lt_of_le h)

  pub formals-room : (n at : ℕ) {d : Result (Variable × ℕ) Refusal} {v : Variable} {next : ℕ} → n ≤ 16 → d ≡ formal_d ts (leb 16 n) at
      → d ≡ Ok (v, next) → n < 16
  formals-room n at h q g =
      ⊎_elim
      (λ z. absurd (never_full at (local_d ts at) refl (rw (le-leb 16 n (omega arith)) at (sym q ∙ g))))
      (λ l. l)
      (eq-or-lt_of_le h)

  pub formals-last : (n at : ℕ) {d : Result (Variable × ℕ) Refusal} {v : Variable} {next : ℕ} {t : TokenAt} → n < 16
      → d ≡ formal_d ts (leb 16 n) at → d ≡ Ok (v, next) → t ≡ token_at ts next → (t.kind ≡ 31 → ⊥)
      → formals_from_d ts (16 - n) at ≡ and_then v (ended (consume_d ts next 26))
  unfolding formals_from_d opened
  formals-last n at l q g u k =
      let m : 16 - n ≡ suc (16 - (n + 1)) = omega arith in
      rw (m, ← lt-leb 16 n l, ← q, g, ← u, ne_eqb _ _ k)

  pub formals-more : (n at : ℕ) {d : Result (Variable × ℕ) Refusal} {v : Variable} {next : ℕ} {t : TokenAt} → n < 16
      → d ≡ formal_d ts (leb 16 n) at → d ≡ Ok (v, next) → t ≡ token_at ts next → t.kind ≡ 31
      → formals_from_d ts (16 - n) at ≡ and_then v (formals_from_d ts (16 - (n + 1)) t.next)
  unfolding formals_from_d opened
  formals-more n at l q g u k =
      let m : 16 - n ≡ suc (16 - (n + 1)) = omega arith in
      rw (m, ← lt-leb 16 n l, ← q, g, ← u, eq-eqb _ _ k)

-- a label, by how many there are so far
pub labels_full : (n : ℕ) (ls : List ℕ) → n ≤ length ls → 255 ≤ n → leb 255 (length (take n ls)) ≡ true
labels_full n ls h f = rw (length-take-le n ls h) (le-leb 255 n f)

pub labels_few : (n : ℕ) (ls : List ℕ) → n ≤ length ls → n < 255 → leb 255 (length (take n ls)) ≡ false
labels_few n ls h f = rw (length-take-le n ls h) (lt-leb 255 n f)

-- what a run's answer says of where it ended
ended-done : (c : Result ℕ Refusal) (l : ℕ) (r : Run)
    → ◌≡◌ {A = Result Run Refusal} (Ok r) (then_at Err c (λ j. Ok (record { count = l; next = j })))
    → (c ≡ Ok r.next) × (l ≡ r.count)
unfolding then_at
ended-done (Ok j) l r e = (cc, cc)
ended-done (Err q) l r e = absurd (let z : ◌≡◌ {A = ℕ} 0 1 = cc in omega arith)

ended-refused : (c : Result ℕ Refusal) (l : ℕ) (r : Refusal)
    → ◌≡◌ {A = Result Run Refusal} (Err r) (then_at Err c (λ j. Ok (record { count = l; next = j }))) → c ≡ Err r
unfolding then_at
ended-refused (Ok j) l r e = absurd (let z : ◌≡◌ {A = ℕ} 0 1 = cc in omega arith)
ended-refused (Err q) l r e = cc

pub run-done : (r : Variables) {u : Run} → Ok u ≡ run_of r → (r.end ≡ Ok u.next) × (length r.list ≡ u.count)
unfolding run_of
run-done r {u} e = ended-done r.end (length r.list) u e

pub run-refused : (r : Variables) {q : Refusal} → Err q ≡ run_of r → r.end ≡ Err q
unfolding run_of
run-refused r {q} e = ended-refused r.end (length r.list) q e

-- a call whose callee was read, by what the run of its arguments answered
module _ (ts : List Tok) (word : ℕ) {at : ℕ} {n : Identifier × ℕ} {c : Result ℕ Refusal}
    {d : Result (Identifier × ℕ) Refusal}
    (called : c ≡ consume_d ts word 22) (on : c ≡ Ok at) (named : d ≡ global_d ts at) (callee : d ≡ Ok n) where
  call-is : calling n.0 (arguments_d ts 16 n.1) ≡ call_d ts word
  unfolding call_d opened
  call-is = rw (← called, on, ← named, callee) refl

  pub call-done : {run : Result Run Refusal} {u : Run} → run ≡ run_of (arguments_d ts 16 n.1) → run ≡ Ok u
      → Ok (record { callee = n.0; count = u.count; next = u.next }) ≡ called_of (call_d ts word)
  unfolding called_of then_at
  call-done {u = u} r e = let end = run-done (arguments_d ts 16 n.1) {u = u} (sym e ∙ r) in rw (← call-is, end.0, end.1)

  pub call-stopped : {run : Result Run Refusal} {e : Refusal} → run ≡ run_of (arguments_d ts 16 n.1) → run ≡ Err e
      → Err e ≡ called_of (call_d ts word)
  unfolding called_of then_at
  call-stopped r e = rw (← call-is, run-refused (arguments_d ts 16 n.1) (sym e ∙ r))

  pub call-stored : (used : ℕ) (b₀ : List ℕ) {b : List ℕ} → b ≡ sets b₀ used (variables_cells (arguments_d ts 16 n.1).list)
      → b ≡ sets b₀ used (variables_cells (call_d ts word).arguments.list)
  call-stored used b₀ r = rw (← call-is) r

-- the look-up of a label is the library's
or_is_pick : (b c : Bool) → (b || c) ≡ pick b true c
unfolding pick
or_is_pick true c = refl
or_is_pick false c = refl

pub any_is_has : (ys : List ℕ) (x : ℕ) → list_any (λ y. eqb y x) ys ≡ has ys x
unfolding has
any_is_has [] x = refl
any_is_has (y ∷ ys) x = rw (any_is_has ys x) (or_is_pick (eqb y x) (has ys x))
