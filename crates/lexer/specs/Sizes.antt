-- Tokens and names as cells (docs/INTERFACE.md): the cells of a record, and those of a slice with room for the limits.
use Rattle.std.specs.Prelude.{ℕ}

abbrev pub token_width : ℕ
token_width = 4

abbrev pub name_width : ℕ
name_width = 2

abbrev pub tokens_size : ℕ
tokens_size = 16384

abbrev pub names_size : ℕ
names_size = 2048
