-- The front digits, and then the last.
use mathlib.Core.Path.{refl}
use mathlib.Core.List.{[], ◌∷◌}
use Prim.Native.Nat.{◌+◌, ◌-◌, ◌/◌, ◌%◌}
use native.Mathlib.Omega.{arith}
use Rattle.utils.specs.Message.{digits}
use Rattle.utils.proofs.Runs.{more, both}
use Rattle.utils.proofs.+put_digits.Goals as goal

pub returns : goal.returns
returns t c =
    let a = c.args in
    let p = c.put_digits-k in
    let w =
    both a.buf.now p.new.buf _ (digits (a.most - 1) (a.n / 10)) ((48 + a.n % 10) ∷ []) a.at p.result (p.result + 1)
    p.ensures.0 p.ensures.1 refl refl in
    rw (more a.most a.n c.if-most-eq0.false c.if-n-lt10.false) (w.0, w.1, omega arith)
