-- Arrays of exactly these sizes have room for a recheck, and the bytes of the cells that it counts are `bytes_of` it
-- (`out_of`).
use Rattle.recheck.specs.Recheck.{recheck_of}
use Rattle.recheck.proofs.Numbers.{silent}
use Rattle.exports.proofs.Checks.{out_of, sizes_reached}
use mathlib.Core.Path.{◌∙◌}
use Rattle.pitchsleet.proofs.rechecks.recheck_cells.Goals as goal

pub recheck_into-answer-requires : goal.recheck_into-answer-requires
recheck_into-answer-requires c =
    sizes_reached c.args.message.now _ _ _ _ _ _ _ c.requires.0 c.requires.2

pub put_all-requires : goal.put_all-requires
put_all-requires c = (
  record {
    tokens = c.recheck_into-answer.auto.tokens ∙ c.requires.0.tokens;
    names = c.recheck_into-answer.auto.names ∙ c.requires.0.names;
    functions = c.recheck_into-answer.ensures.same.functions_long ∙ c.requires.0.functions;
    items = c.recheck_into-answer.ensures.same.items_long ∙ c.requires.0.items;
    arguments = c.recheck_into-answer.ensures.same.arguments_long ∙ c.requires.0.arguments;
    blocks = c.recheck_into-answer.ensures.same.blocks_long ∙ c.requires.0.blocks;
    predecessors = c.recheck_into-answer.ensures.same.predecessors_long ∙ c.requires.0.predecessors;
  },
  c.requires.1,
)

pub returns-clause-stored : goal.returns-clause-stored
returns-clause-stored c =
    out_of (recheck_of c.args.old.now c.args.table.now c.args.number c.args.new.now)
    (silent c.args.old.now c.args.table.now c.args.number c.args.new.now) _ _ _ _ _ _ _
    (record {
      tokens = c.recheck_into-answer.auto.tokens ∙ c.requires.0.tokens;
      names = c.recheck_into-answer.auto.names ∙ c.requires.0.names;
      functions = c.recheck_into-answer.ensures.same.functions_long ∙ c.requires.0.functions;
      items = c.recheck_into-answer.ensures.same.items_long ∙ c.requires.0.items;
      arguments = c.recheck_into-answer.ensures.same.arguments_long ∙ c.requires.0.arguments;
      blocks = c.recheck_into-answer.ensures.same.blocks_long ∙ c.requires.0.blocks;
      predecessors = c.recheck_into-answer.ensures.same.predecessors_long ∙ c.requires.0.predecessors;
    })
    c.recheck_into-answer.result c.args.message.now _ _ c.args.out.now _ c.recheck_into-answer.ensures.checks
    c.recheck_into-answer.auto.message c.put_all.ensures c.finish_message.ensures
