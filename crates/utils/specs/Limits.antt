-- Document 01's limits, by name.
use Rattle.std.specs.Prelude.{ℕ}

-- of a text: its bytes, the lines that it then has at most, its tokens, names and functions
abbrev pub most_bytes : ℕ
most_bytes = 16384

abbrev pub most_lines : ℕ
most_lines = 16385

abbrev pub most_tokens : ℕ
most_tokens = 4096

abbrev pub most_names : ℕ
most_names = 1024

abbrev pub most_functions : ℕ
most_functions = 64

-- of a name, its sigil with it
abbrev pub most_name_bytes : ℕ
most_name_bytes = 64

-- of a function
abbrev pub most_formals : ℕ
most_formals = 16

abbrev pub most_labels : ℕ
most_labels = 255

abbrev pub most_blocks : ℕ
most_blocks = 256

-- of a call
abbrev pub most_arguments : ℕ
most_arguments = 16

-- a message's room
abbrev pub message_size : ℕ
message_size = 512
