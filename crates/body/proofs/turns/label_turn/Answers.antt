-- There is room for the label and for the `ret` before it (`label-room`); one label more (`label-taken`).
use Rattle.lexer.specs.Decoded.{tokens_of}
use Rattle.body.proofs.Turning.{label-room, label-taken}
use Rattle.body.proofs.turns.label_turn.Goals as goal

pub add_label-requires : goal.add_label-requires
add_label-requires c =
    label-room (tokens_of c.args.tokens.now) c.args.void c.args.s c.args.labels.now c.requires.0 c.requires.2
    c.parse_label.ensures
    c.in_ok-label.was c.args.items.now c.requires.1

pub returns : goal.returns
returns c =
    label-taken (tokens_of c.args.tokens.now) c.args.void c.args.s c.args.labels.now c.requires.0 c.requires.2
    c.parse_label.ensures
    c.in_ok-label.was c.add_label.result c.args.items.now _ _ c.add_label.ensures.value c.add_label.ensures.after
    c.add_label.ensures.labels_after
