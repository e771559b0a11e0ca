-- The parts lent to `unit` are the reading's tokens and names; what it answers is what the text checks as.
use native.Mathlib.Omega.{arith}
use Prim.Native.Nat.{ℕ}
use mathlib.Core.Path.{sym, subst, ◌∙◌}
use mathlib.Core.List.{List}
use Rattle.lexer.specs.Decoded.{tokens_of}
use Rattle.body.specs.Room.{Within}
use Rattle.messages.specs.Messages.{ShortNames}
use Rattle.unit.specs.Outcome.{Counted}
use Rattle.checker.proofs.Ends.{ends-accepted, ends-refused}
use Rattle.checker.proofs.Lexed.{tokens_few, names_few, used_tokens, used_names, within, short}
use Rattle.checker.proofs.check_lexed.Goals as goal

pub unit-requires : goal.unit-requires
unit-requires c = (
  subst (λ (x : List ℕ). Within (tokens_of x) 0) (sym (used_tokens c.requires.0)) (within c.requires.0),
  c.requires.1.functions_long,
  c.requires.1.long,
)

pub refuse-requires : goal.refuse-requires
refuse-requires c = (
  omega (arith, tokens_few c.requires.0, c.requires.1.tokens_long),
  omega (arith, names_few c.requires.0, c.requires.1.names_long),
  c.requires.1.message_long,
  subst (ShortNames c.args.text.now) (sym c.requires.0.names) (short c.requires.0),
)

pub counted-requires : goal.counted-requires
counted-requires c =
    let k = subst Counted c.in-Ok.is c.unit.ensures.counted in
    (omega (arith, k.0), omega (arith, k.1), omega (arith, k.2), omega (arith, k.3), omega (arith, k.4))

pub returns-in-Err-clause-checks : goal.returns-in-Err-clause-checks
returns-in-Err-clause-checks c =
    ends-refused c.requires.0 c.args.message.now _ _ _ (used_tokens c.requires.0) (used_names c.requires.0)
    c.in-Err.e _ _
    (sym c.in-Err.is ∙ c.unit.ensures.value) c.refuse.ensures.0 c.refuse.ensures.1

pub returns-in-Ok-clause-checks : goal.returns-in-Ok-clause-checks
returns-in-Ok-clause-checks c =
    rw c.counted.ensures
    (ends-accepted c.requires.0 c.args.message.now _ _ _ (used_tokens c.requires.0) (used_names c.requires.0)
    c.in-Ok.n _
    (sym c.in-Ok.is ∙ c.unit.ensures.value) c.unit.ensures.unit_held)

pub slice_bounds-unit-end : goal.slice_bounds-unit-end
slice_bounds-unit-end c =
    omega (arith, tokens_few c.requires.0, c.requires.1.tokens_long)

pub slice_bounds-unit-end-2 : goal.slice_bounds-unit-end-2
slice_bounds-unit-end-2 c =
    omega (arith, names_few c.requires.0, c.requires.1.names_long)
