-- Behind a terminator by `item-late`; else by what was read, one item more (`item-taken`).
use Rattle.std.proofs.Common.{◌≡◌, ◌+◌, refl, sym, ap, ◌∙◌, rules}
use Rattle.std.proofs.lemmas.Result.{err_from_is_err_and}
use Rattle.lexer.specs.Decoded.{tokens_of}
use Rattle.body.specs.Body.{item_d, body_stop}
use Rattle.body.specs.Turns.{before_number, late_refusal}
use Rattle.body.specs.declared.Before.TheVariants as B
use Rattle.body.proofs.Items.{read-refused, read_done, item_refused, item-late, item-taken, terminator_number}
use Rattle.body.proofs.turns.item_turn.Goals as goal

pub returns-then-eq : goal.returns-then-eq
returns-then-eq c =
    let ts = tokens_of c.args.tokens.now in
    let late : c.args.s.before ≡ B.Terminator = search rules in
    λ k.
    item-late ts (before_number c.args.s.before) c.args.s.at c.args.s.arguments (ap before_number late) k
    ∙ ap body_stop (sym (c.refuse.ensures ∙ ap late_refusal c.parse_item-read.ensures.value))

pub returns-in_err-item : goal.returns-in_err-item
returns-in_err-item c =
    let ts = tokens_of c.args.tokens.now in
    let p = err_from_is_err_and c.from_residual.result c.from_residual.ensures.1 in
    let q = read-refused c.args.s.arguments (item_d ts c.args.s.at) (sym c.in_err-item.was ∙
    c.parse_item-read.ensures.value) in
    rw (p.1, p.2) (item_refused ts (before_number c.args.s.before) c.args.s.at _ q)

pub returns : goal.returns
returns c =
    let ts = tokens_of c.args.tokens.now in
    let d =
    read_done c.args.s.arguments (item_d ts c.args.s.at) c.args.arguments.now c.parse_item-read.new.arguments
    (sym c.in_ok-item.was ∙ c.parse_item-read.ensures.value) c.parse_item-read.ensures.item_held in
    let not-late : c.args.s.before ≡ B.Terminator → ⊥ = search rules in
    λ void.
    item-taken ts void c.args.s
    (record {
      at = c.in_ok-item.field-0.next;
      items = c.args.s.items + 1;
      arguments = c.in_ok-item.field-0.arguments;
      labels = c.args.s.labels;
      before = c.behind_kind.result;
      last = c.in_ok-item.field-0.item.token;
    }) d.read c.args.items.now c.put_record.new.items c.args.arguments.now c.parse_item-read.new.arguments
    c.requires.0.within d.is (λ z. not-late (terminator_number c.args.s.before z)) refl d.then_is refl
    (rw (← d.record_is) c.behind_kind.ensures) (rw (← d.record_is) refl) (rw (← d.record_is) c.put_record.ensures)
    d.stored
