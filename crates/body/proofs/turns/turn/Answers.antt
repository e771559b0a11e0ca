-- The tests of `body_d`, in its order; then what the turn of a label or of an operation gives.
use borrow.Author.Tests.{eq-eqb, ne_eqb}
use mathlib.Core.Path.{refl, sym, ◌∙◌}
use Rattle.lexer.specs.Decoded.{tokens_of}
use Rattle.body.proofs.Turning.{body_ended, label_turned, item_turned}
use Rattle.body.proofs.turns.turn.Goals as goal

pub returns-then-closes_body : goal.returns-then-closes_body
returns-then-closes_body c =
    let ts = tokens_of c.args.tokens.now in
    let k = rw c.token_at-t.ensures at (sym c.closes_body.ensures ∙ c.if-closes_body.true) in
    body_ended ts c.args.void c.args.s
    (record {
      next = c.token_at-t.result.next;
      items = c.add_ret-n.result;
      arguments = c.args.s.arguments;
      labels =
          c.args.s.labels;
    })
    c.args.items.now c.add_ret-n.new.items c.args.arguments.now c.args.labels.now c.requires.0.within k
    (rw c.token_at-t.ensures refl) (rw c.lacks_ret.ensures at c.add_ret-n.ensures.value) refl refl
    (rw c.lacks_ret.ensures at c.add_ret-n.ensures.after)

pub returns-then-t-eq-LABEL : goal.returns-then-t-eq-LABEL
returns-then-t-eq-LABEL c =
    let ts = tokens_of c.args.tokens.now in
    let k = rw c.token_at-t.ensures at (sym c.closes_body.ensures ∙ c.if-closes_body.false) in
    let j = rw c.token_at-t.ensures at (eq-eqb c.token_at-t.result.kind 3 c.if-t-eq-LABEL.true) in
    label_turned ts c.args.void c.args.s c.args.items.now c.label_turn.new.items c.args.labels.now k
    c.requires.0.labels_few c.requires.3 c.label_turn.result c.args.arguments.now c.label_turn.new.labels j
    c.label_turn.ensures

pub returns : goal.returns
returns c =
    let ts = tokens_of c.args.tokens.now in
    let k = rw c.token_at-t.ensures at (sym c.closes_body.ensures ∙ c.if-closes_body.false) in
    let j = rw c.token_at-t.ensures at (ne_eqb c.token_at-t.result.kind 3 c.if-t-eq-LABEL.false) in
    item_turned ts c.args.void c.args.s c.args.items.now c.item_turn.new.items c.args.labels.now k
    c.requires.0.labels_few c.requires.3 c.item_turn.result c.args.arguments.now c.item_turn.new.arguments j
    c.item_turn.ensures
