-- The row is brought if its name is found, and nothing is stored if not.
use mathlib.Core.Path.{refl}
use native.Mathlib.Omega.{arith}
use Rattle.headers.proofs.bring.bring_row.Goals as goal

pub returns-in-Some : goal.returns-in-Some
returns-in-Some c =
    record {
      result_after = rw (← c.find_name.ensures, c.in-Some.is, ← c.put_row.ensures) refl;
      lower_bound = (omega arith, omega arith);
    }

pub returns-in-None : goal.returns-in-None
returns-in-None c =
    record {
      result_after = rw (← c.find_name.ensures, c.in-None.is) refl;
      lower_bound = (omega arith, omega arith);
    }
