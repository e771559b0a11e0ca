-- What `read_into` tells is whether the text is read; a text that isn't is refused by its number (`not-lexed`).
use native.Mathlib.Omega.{arith}
use Rattle.checker.proofs.Ends.{is-lexed, not-lexed}
use Rattle.checker.proofs.check_into.Goals as goal

pub read_into-r-requires : goal.read_into-r-requires
read_into-r-requires c =
    (omega arith, c.requires.tokens_long, c.requires.names_long, c.requires.message_long)

pub check_lexed-requires : goal.check_lexed-requires
check_lexed-requires c = (
  is-lexed 1 c.args.text.now c.args.message.now c.read_into-r.result _ _ _
      c.read_into-r.ensures c.if-r-eq-ACCEPTED.true,
  record {
    message_long = omega (arith, c.requires.message_long, c.read_into-r.auto.message);
    tokens_long = omega (arith, c.requires.tokens_long, c.read_into-r.auto.tokens);
    names_long = omega (arith, c.requires.names_long, c.read_into-r.auto.names);
    functions_long = c.requires.functions_long;
    long = c.requires.long;
  },
)

pub returns-clause-checks : goal.returns-clause-checks
returns-clause-checks c =
    rw c.refused.ensures
    (not-lexed c.args.text.now c.args.message.now c.read_into-r.result _ _ _ c.read_into-r.ensures
    c.if-r-eq-ACCEPTED.false _)
