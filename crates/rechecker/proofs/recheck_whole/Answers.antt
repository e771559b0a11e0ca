-- The parts lent are the reading's tokens and names; what they are is told by `unit`.
use native.Mathlib.Omega.{arith}
use Prim.Native.Nat.{ℕ}
use mathlib.Core.Path.{sym, subst, ◌∙◌}
use mathlib.Core.List.{List}
use Rattle.lexer.specs.Decoded.{tokens_of}
use Rattle.body.specs.Room.{Within}
use Rattle.messages.specs.Messages.{ShortNames}
use Rattle.unit.specs.Outcome.{Counted}
use Rattle.checker.proofs.Lexed.{tokens_few, names_few, used_tokens, used_names, within, short}
use Rattle.rechecker.proofs.Ends.{ends-accepted, ends-refused, named_now}
use Rattle.rechecker.proofs.recheck_whole.Goals as goal

pub unit-requires : goal.unit-requires
unit-requires c = (
  c.requires.0,
  named_now c.requires.1,
  subst (λ (x : List ℕ). Within (tokens_of x) 0) (sym (used_tokens c.requires.1)) (within c.requires.1),
  c.requires.3.functions_long,
  c.requires.3.long,
)

pub refuse-requires : goal.refuse-requires
refuse-requires c = (
  omega (arith, tokens_few c.requires.1, c.requires.3.tokens_long),
  omega (arith, names_few c.requires.1, c.requires.3.names_long),
  c.requires.3.message_long,
  subst (ShortNames c.args.new.now) (sym c.requires.1.names) (short c.requires.1),
)

pub counted-requires : goal.counted-requires
counted-requires c =
    let k = subst Counted c.in-Ok.is c.unit.ensures.counted in
    (omega (arith, k.0), omega (arith, k.1), omega (arith, k.2), omega (arith, k.3), omega (arith, k.4))

pub returns-in-Err-clause-checks : goal.returns-in-Err-clause-checks
returns-in-Err-clause-checks c =
    ends-refused c.args.old.now c.args.table.now c.args.number c.args.new.now c.args.message.now _ c.args.tokens.now
    c.args.names.now c.args.r c.requires.0 c.requires.1 _ _ (used_tokens c.requires.1) (used_names c.requires.1)
    c.requires.2
    c.in-Err.e _ _ (sym c.in-Err.is ∙ c.unit.ensures.value) c.refuse.ensures.0
    c.refuse.ensures.1

pub returns-in-Ok-clause-checks : goal.returns-in-Ok-clause-checks
returns-in-Ok-clause-checks c =
    rw c.counted.ensures
    (ends-accepted c.args.old.now c.args.table.now c.args.number c.args.new.now c.args.message.now _ c.args.tokens.now
    c.args.names.now c.args.r c.requires.0 c.requires.1 _ _ (used_tokens c.requires.1) (used_names c.requires.1)
    c.requires.2
    c.in-Ok.n _ (sym c.in-Ok.is ∙ c.unit.ensures.value) c.unit.ensures.verdict_held)

pub slice_bounds-unit-end : goal.slice_bounds-unit-end
slice_bounds-unit-end c =
    omega (arith, tokens_few c.requires.1, c.requires.3.tokens_long)

pub slice_bounds-unit-end-2 : goal.slice_bounds-unit-end-2
slice_bounds-unit-end-2 c =
    omega (arith, names_few c.requires.1, c.requires.3.names_long)
