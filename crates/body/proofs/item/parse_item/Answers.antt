-- By what the instruction is; its token is not behind the end token, so it fits its cell.
use native.Mathlib.Omega.{arith}
use mathlib.Core.Path.{◌≡◌, refl}
use Rattle.lexer.specs.Decoded.{tokens_of}
use Rattle.parser.specs.Runs.{call_d, variables_cells}
use Rattle.body.specs.Body.{item_d, parsed_item, call_into}
use Rattle.body.specs.Records.{record_of}
use Rattle.body.specs.Turns.{call_record}
use Rattle.body.proofs.Progress.{instruction_in}
use Rattle.body.proofs.Items.{call-item, call_into-item}
use Rattle.body.proofs.item.parse_item.Goals as goal

pub operation_record-item-requires : goal.operation_record-item-requires
operation_record-item-requires c =
    let ts = tokens_of c.args.tokens.now in
    let p = rw (← c.parse_instruction.ensures, c.in_ok-o.was, c.in-Done.is) at
    (instruction_in ts c.requires.0.last c.requires.0.ends c.args.at c.requires.0.reached) in
    omega (arith, p.2, c.requires.0.few)

pub parse_call_item-requires : goal.parse_call_item-requires
parse_call_item-requires c =
    let ts = tokens_of c.args.tokens.now in
    let p = rw (← c.parse_instruction.ensures, c.in_ok-o.was, c.in-Call.is) at
    (instruction_in ts c.requires.0.last c.requires.0.ends c.args.at c.requires.0.reached) in (
      record { last = c.requires.0.last; ends = c.requires.0.ends; reached = p.1; few = c.requires.0.few },
      c.requires.1,
      c.requires.2,
    )

pub parse_call_item-requires-in-CallInto : goal.parse_call_item-requires-in-CallInto
parse_call_item-requires-in-CallInto c =
    let ts = tokens_of c.args.tokens.now in
    let p = rw (← c.parse_instruction.ensures, c.in_ok-o.was, c.in-CallInto.is) at
    (instruction_in ts c.requires.0.last c.requires.0.ends c.args.at c.requires.0.reached) in (
      record { last = c.requires.0.last; ends = c.requires.0.ends; reached = p.1; few = c.requires.0.few },
      c.requires.1,
      c.requires.2,
    )

pub returns-in-Done-clause-item_held : goal.returns-in-Done-clause-item_held
unfolding item_d parsed_item variables_cells
returns-in-Done-clause-item_held c = rw (← c.parse_instruction.ensures, c.in_ok-o.was, c.in-Done.is) refl

pub returns-in-Call : goal.returns-in-Call
unfolding item_d parsed_item
returns-in-Call c =
    let ts = tokens_of c.args.tokens.now in
    let h = call-item c.in-Call.word c.args.used (call_d ts c.in-Call.word) c.args.arguments.now
    c.parse_call_item.new.arguments c.parse_call_item.ensures.arguments_after in
    record {
      value = rw (← c.parse_instruction.ensures, c.in_ok-o.was, c.in-Call.is, c.parse_call_item.ensures.value) h.0;
      item_held = rw (← c.parse_instruction.ensures, c.in_ok-o.was, c.in-Call.is) h.1;
    }

pub returns-in-CallInto : goal.returns-in-CallInto
unfolding item_d parsed_item record_of
returns-in-CallInto c =
    let ts = tokens_of c.args.tokens.now in
    let w = c.in-CallInto.word in
    let v = c.in-CallInto.v in
    let d = call_d ts w in
    let into = c.parse_call_item-in-CallInto in
    let q : call_record 6 w v.id c.type_cell.result c.args.used d
    ≡ record_of c.args.used (call_into w v d.callee d.arguments.list) = rw c.type_cell.ensures in
    let h = call_into-item w c.args.used v c.type_cell.result d c.args.arguments.now into.new.arguments q
    into.ensures.arguments_after in
    record {
      value = rw (← c.parse_instruction.ensures, c.in_ok-o.was, c.in-CallInto.is, into.ensures.value) h.0;
      item_held = rw (← c.parse_instruction.ensures, c.in_ok-o.was, c.in-CallInto.is) h.1;
    }
