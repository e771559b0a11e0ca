-- A type as a cell (docs/INTERFACE.md), by name.
use Rattle.std.specs.Prelude.{ℕ}

abbrev pub placeholder : ℕ
placeholder = 0

abbrev pub int : ℕ
int = 1

abbrev pub bool : ℕ
bool = 2

abbrev pub void : ℕ
void = 3

-- function type 0; the others follow by their numbers
abbrev pub function : ℕ
function = 4
