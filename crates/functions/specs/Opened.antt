-- For tables of cases, which are shown by computation.
use Rattle.std.specs.Prelude.{ℕ}
use Rattle.lexer.specs.Opened as lexing
use Rattle.lexer.specs.Decoded.{tokens_of, is_name, name_in, integer_in, token_at}
use Rattle.parser.specs.Step.{look, then_at, then_named, then_type, then_defined}
use Rattle.parser.specs.Grammar.{consume_d, named_d, type_d, print_d, ret_d, jump_d, branch_d, nop_d, defined_d, is_constant}
use Rattle.parser.specs.Grammar.{const_d, unary_d, binary_d, is_unary, is_binary, value_d, definition_d, instruction_d}
use Rattle.parser.specs.Runs.{formal_d, formals_from_d, formals_d, arguments_d, call_d}
use Rattle.parser.specs.Labels.{has, labelled_d}
use Rattle.body.specs.Body.{then_item, called_item, parsed_item, item_d, behind, closes, body_d, lacks_ret, closed_from}
use Rattle.body.specs.Shapes.{shapes_of}
use Rattle.link.specs.Blocks.{blocks_from, blocks_after}
use Rattle.link.specs.Edges.{place_of, then_place, resolve_labels, resolve_from, places, successors, entering}
use Rattle.link.specs.Edges.{predecessors, is_dead}
use Rattle.functions.specs.Known.{formal_types, type_number, types_after, expected_type}
use Rattle.functions.specs.Functions.{then_header, then_formals, then_entered, optional_formals, optional_type}
use Rattle.functions.specs.Functions.{entered_d, signature_d, header_d, then_built, built_d}
use Rattle.functions.specs.Functions.{then_function, function_d, functions_d}

-- To unfold this is to unfold the whole definition.
unfoldable pub opened : ℕ
unfolding
    lexing.opened tokens_of is_name name_in integer_in token_at look then_at then_named then_type then_defined
    consume_d named_d type_d print_d ret_d jump_d branch_d nop_d defined_d is_constant const_d unary_d binary_d is_unary is_binary
    value_d definition_d instruction_d formal_d formals_from_d formals_d arguments_d call_d has labelled_d
    then_item called_item parsed_item item_d behind closes body_d lacks_ret closed_from shapes_of blocks_from blocks_after
    place_of then_place resolve_labels resolve_from places successors entering predecessors is_dead
    formal_types type_number types_after expected_type then_header then_formals then_entered optional_formals optional_type
    entered_d signature_d header_d then_built built_d then_function function_d functions_d
opened = 0
