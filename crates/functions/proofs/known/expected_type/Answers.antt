-- The first row of the name gives the type that the functions so far give it (`expected-found`).
use Rattle.functions.proofs.Turns.{expected-found}
use Rattle.functions.proofs.known.expected_type.Goals as goal

pub returns-in-Some : goal.returns-in-Some
returns-in-Some c =
    rw (
      expected-found c.args.n c.args.rows.now 0 c.args.name.0 c.args.ty,
      ← c.find_function.ensures.value,
      c.in-Some.is,
      c.function_type.ensures,
    )

pub returns-in-None : goal.returns-in-None
returns-in-None c =
    rw (
      expected-found c.args.n c.args.rows.now 0 c.args.name.0 c.args.ty,
      ← c.find_function.ensures.value,
      c.in-None.is,
    )
