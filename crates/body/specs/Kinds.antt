-- The kinds of items by name (docs/INTERFACE.md). Other modules write `K.branch` for the kind of the Rust's `Branch`.
use Rattle.std.specs.Prelude.{ℕ}

abbrev pub label : ℕ
label = 1

abbrev pub binary : ℕ
binary = 2

abbrev pub unary : ℕ
unary = 3

abbrev pub const : ℕ
const = 4

abbrev pub call : ℕ
call = 5

abbrev pub call_into : ℕ
call_into = 6

abbrev pub print : ℕ
print = 7

abbrev pub nop : ℕ
nop = 8

-- those that end a block
abbrev pub jump : ℕ
jump = 9

abbrev pub branch : ℕ
branch = 10

abbrev pub ret : ℕ
ret = 11

abbrev pub ret_value : ℕ
ret_value = 12
