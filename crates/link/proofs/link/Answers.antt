-- Blocks first, and then the edges that enter them: each record, stored again with them, is that of the definition
-- (`Linking`).
use native.Mathlib.Omega.{arith}
use mathlib.Core.Path.{sym, ◌∙◌}
use Rattle.std.proofs.lemmas.Result.{err_from_is_err_and}
use Rattle.body.specs.Records.{parts_at}
use Rattle.link.proofs.Linking.{link_refused, fits, enter-ready, link_done, link_held}
use Rattle.link.proofs.link.Goals as goal

pub leading_labels-leading-requires : goal.leading_labels-leading-requires
leading_labels-leading-requires c =
    c.requires.items_there

pub link_blocks-requires : goal.link_blocks-requires
link_blocks-requires c =
    record {
      items_there = c.requires.items_there;
      few-items = c.requires.few-items;
      names_are = c.requires.labels_are;
      before_are = c.leading_labels-leading.ensures.0;
      before-few = c.leading_labels-leading.ensures.1;
      few_blocks = c.requires.few_blocks;
      blocks_there = c.requires.blocks_there;
    }

pub overflow_cast-n : goal.overflow_cast-n
overflow_cast-n c =
    let few =
    fits c.requires c.args.name c.link_blocks.new.blocks c.link_blocks.ensures.value c.link_blocks.ensures.closed_held
    c.in_ok-n.was in
    omega arith

pub enter_blocks-next-requires : goal.enter_blocks-next-requires
enter_blocks-next-requires c =
    enter-ready c.requires c.args.name c.link_blocks.new.blocks c.link_blocks.ensures.value
    c.link_blocks.ensures.closed_held c.in_ok-n.was
    c.link_blocks.auto.blocks

pub returns-in_err-n : goal.returns-in_err-n
returns-in_err-n c =
    let ps = parts_at c.args.items.now c.args.first c.args.count in
    let p = err_from_is_err_and c.from_residual.result c.from_residual.ensures.1 in
    record {
      value = rw (p.1, p.2) (link_refused ps c.args.name _ (sym c.in_err-n.was ∙ c.link_blocks.ensures.value));
      link_held = rw p.1 tt;
    }

pub returns : goal.returns
returns c =
    record {
      value = link_done c.requires c.args.name c.link_blocks.new.blocks c.link_blocks.ensures.value
          c.link_blocks.ensures.closed_held c.in_ok-n.was c.enter_blocks-next.result
          c.enter_blocks-next.ensures.value;
      link_held = link_held c.requires c.args.name c.link_blocks.new.blocks c.link_blocks.ensures.value
          c.link_blocks.ensures.closed_held c.in_ok-n.was c.enter_blocks-next.new.blocks
          c.enter_blocks-next.new.sources c.enter_blocks-next.ensures.blocks_after
          c.enter_blocks-next.ensures.sources_after;
    }
