-- Arrays of exactly these sizes have room for a check, and the bytes of the cells that it counts are `bytes_of` it
-- (`out_of`).
use Rattle.checker.specs.Check.{check_of}
use Rattle.checker.proofs.Numbers.{silent}
use Rattle.exports.proofs.Checks.{out_of, sizes_reached}
use mathlib.Core.Path.{◌∙◌}
use Rattle.exports.proofs.check.check_out.Goals as goal

pub check_into-answer-requires : goal.check_into-answer-requires
check_into-answer-requires c =
    sizes_reached c.args.message.now _ _ _ _ _ _ _ c.requires.0 c.requires.2

pub put_all-requires : goal.put_all-requires
put_all-requires c = (
  record {
    tokens = c.check_into-answer.auto.tokens ∙ c.requires.0.tokens;
    names = c.check_into-answer.auto.names ∙ c.requires.0.names;
    functions = c.check_into-answer.ensures.same.functions_long ∙ c.requires.0.functions;
    items = c.check_into-answer.ensures.same.items_long ∙ c.requires.0.items;
    arguments = c.check_into-answer.ensures.same.arguments_long ∙ c.requires.0.arguments;
    blocks = c.check_into-answer.ensures.same.blocks_long ∙ c.requires.0.blocks;
    predecessors = c.check_into-answer.ensures.same.predecessors_long ∙ c.requires.0.predecessors;
  },
  c.requires.1,
)

pub returns-clause-stored : goal.returns-clause-stored
returns-clause-stored c =
    out_of (check_of c.args.text.now) (silent c.args.text.now) _ _ _ _ _ _ _
    (record {
      tokens = c.check_into-answer.auto.tokens ∙ c.requires.0.tokens;
      names = c.check_into-answer.auto.names ∙ c.requires.0.names;
      functions = c.check_into-answer.ensures.same.functions_long ∙ c.requires.0.functions;
      items = c.check_into-answer.ensures.same.items_long ∙ c.requires.0.items;
      arguments = c.check_into-answer.ensures.same.arguments_long ∙ c.requires.0.arguments;
      blocks = c.check_into-answer.ensures.same.blocks_long ∙ c.requires.0.blocks;
      predecessors = c.check_into-answer.ensures.same.predecessors_long ∙ c.requires.0.predecessors;
    })
    c.check_into-answer.result c.args.message.now _ _ c.args.out.now _ c.check_into-answer.ensures.checks
    c.check_into-answer.auto.message c.put_all.ensures c.finish_message.ensures
