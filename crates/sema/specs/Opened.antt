-- For tables of cases, which are shown by computation.
use Rattle.std.specs.Prelude.{ℕ}
use Rattle.graph.specs.Cases as walking
use Rattle.functions.specs.Opened as parsing
use Rattle.sema.specs.Symbols.{then_end, then_typed, enter_d, then_look, then_same}
use Rattle.sema.specs.Typing.{then_three, operands_d, type_binary_d, operand_d, type_unary_d, type_const_d}
use Rattle.sema.specs.Typing.{type_ret_value_d, type_ret_d, present_d}
use Rattle.sema.specs.Typing.{types_of, same_all, type_arguments_d, then_global, type_call_d, type_call_into_d}
use Rattle.sema.specs.Typing.{type_plain_d, type_item_d}
use Rattle.sema.specs.Blocks.{type_items_d, type_end_d, type_block_d, enter_formals_d, type_blocks_d, type_function_d}
use Rattle.sema.specs.Program.{globals_of, numbered, type_program_d}

-- To unfold this is to unfold the whole definition.
unfoldable pub opened : ℕ
unfolding
    walking.opened parsing.opened then_end then_typed enter_d then_look then_same then_three operands_d type_binary_d operand_d
    type_unary_d
    type_const_d type_ret_value_d type_ret_d present_d types_of same_all type_arguments_d then_global type_call_d type_call_into_d
    type_plain_d type_item_d type_items_d type_end_d
    type_block_d enter_formals_d type_blocks_d type_function_d globals_of numbered type_program_d
opened = 0
