-- The loops that store a run: what is left to read, read from here, gives the whole run; what is stored is what was
-- read. One lemma for each way a turn can end, for formals and arguments alike.
use Rattle.std.specs.Prelude.{Err, Ok, Result}
use Rattle.parser.specs.declared.Refusal.{Refusal}
use Prim.Native.Nat.{ℕ, suc, ◌+◌, ◌*◌, ◌≤◌, ◌<◌}
use mathlib.Core.Path.{◌≡◌, refl, sym, ap, ◌∙◌}
use mathlib.Core.List.{List}
use native.Mathlib.Omega.{arith}
use native.Mathlib.Nat.{add-zero}
use lib.ListN.{length}
use lib.Seq.{sets, length-sets}
use Rattle.parser.specs.Step.{then_at}
use Rattle.parser.specs.Runs.{Variables, ended, and_then, variable_cells, variables_cells, run_of}
use Rattle.parser.specs.declared.Variable.{Variable}

-- of the whole run n variables are stored, and `rest` is left
pub record Going (whole rest : Variables) (used : ℕ) (b₀ b : List ℕ) (n : ℕ) : Type 0 where
  pub few : n ≤ 16
  pub long : length b ≡ length b₀
  pub ends : rest.end ≡ whole.end
  pub count : n + length rest.list ≡ length whole.list
  pub stored : sets b (used + n * 2) (variables_cells rest.list) ≡ sets b₀ used (variables_cells whole.list)

pub begin : (whole : Variables) (used : ℕ) (b : List ℕ) → Going whole whole used b b 0
begin whole used b = record { few = omega arith; long = refl; ends = refl; count = omega arith; stored = rw add-zero }

-- nothing is left
pub stop : {whole rest : Variables} {used : ℕ} {b₀ b : List ℕ} {n : ℕ} (e : Result ℕ Refusal)
    → Going whole rest used b₀ b n → rest ≡ ended e
    → (then_at Err e (λ i. Ok (record { count = n; next = i })) ≡ run_of whole) × (b ≡ sets b₀ used (variables_cells whole.list))
unfolding run_of variables_cells
stop {whole} {rest} {n = n} e g h =
    let i : whole.end ≡ e = sym g.ends ∙ ap (λ (r : Variables). r.end) h in
    let k : length whole.list ≡ n = omega (arith, rw h at g.count) in
    (rw (i, k), rw h at g.stored)

-- one variable more
pub onward : {whole rest : Variables} {used : ℕ} {b₀ b : List ℕ} {n : ℕ} (v : Variable) (more : Variables) (b' : List ℕ)
    → Going whole rest used b₀ b n → n < 16 → rest ≡ and_then v more → b' ≡ sets b (used + n * 2) (variable_cells v)
    → Going whole more used b₀ b' (n + 1)
unfolding variables_cells
onward {used = used} {b = b} {n = n} v more b' g f h e =
    let u : used + (n + 1) * 2 ≡ suc (suc (used + n * 2)) = omega arith in
    record {
      few = omega arith;
      long = rw e (length-sets b (used + n * 2) (variable_cells v) ∙ g.long);
      ends = rw h at g.ends;
      count = omega (arith, rw h at g.count);
      stored = rw (u, e) (rw h at g.stored);
    }
