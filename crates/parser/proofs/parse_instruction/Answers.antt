-- The last kind of the match is the deepest in the definition: it is looked up at once.
use Rattle.parser.specs.Grammar.{consume_d, nop_d, instruction_d}
use Rattle.parser.specs.Step.{opened}
use Rattle.parser.proofs.parse_instruction.Goals as goal

pub returns-in-36 : goal.returns-in-36
unfolding instruction_d nop_d consume_d opened
returns-in-36 c = rw (← c.token_at-t.ensures, c.in-36.is) c.parse_end.ensures
