-- Document 01, "Numbers the reader answers with", for the refusals of parsing and typing, 5 to 22, 35 to 38 and 40 to
-- 42: the message of each, `[line N] Error ITEM: TEXT` and a newline. 5 to 21 are the Rust's bytes; the others' TEXT is
-- the table's WORD and a full stop.
use Rattle.std.specs.Prelude.{ℕ, ◌-◌, ◌≤◌, List, [], ◌∷◌, ◌++◌, eqb, ltb, length, get_or}
use Rattle.utils.specs.Bytes.{pick, bytes}
use Rattle.utils.specs.Message.{decimal, reported}
use Rattle.lexer.specs.Decoded.{Tok, token_at, name_of}
use Rattle.parser.specs.Types as Types
use Rattle.utils.specs.Limits.{most_name_bytes}
use Rattle.lexer.specs.declared.TokenAt.{TokenAt}
use Rattle.pieces.specs.declared.Identifier.{Identifier}
use Rattle.pieces.specs.Kinds as T
use Rattle.parser.specs.declared.Refusal.{Refusal}

-- Words. --------------------------------------------------------------------------------------------------------------

-- Display for TokenValue (lexer.rs), in the order of the kinds (`kind_of`) from 0, which is no kind: for names what
-- stands before the number, nothing for integers, else the word or sign.
unfoldable pub words : List (List ℕ)
words =
    [] ∷
    bytes "local_" ∷
    bytes "global_" ∷
    bytes "label_" ∷
    [] ∷
    bytes "add" ∷
    bytes "mul" ∷
    bytes "sub" ∷
    bytes "div" ∷
    bytes "mod" ∷
    bytes "true" ∷
    bytes "false" ∷
    bytes "eq" ∷
    bytes "lt" ∷
    bytes "gt" ∷
    bytes "le" ∷
    bytes "ge" ∷
    bytes "not" ∷
    bytes "and" ∷
    bytes "or" ∷
    bytes "jmp" ∷
    bytes "br" ∷
    bytes "call" ∷
    bytes "ret" ∷
    bytes "=" ∷
    bytes "(" ∷
    bytes ")" ∷
    bytes "{" ∷
    bytes "}" ∷
    bytes ":" ∷
    bytes ";" ∷
    bytes "," ∷
    bytes "int" ∷
    bytes "bool" ∷
    bytes "const" ∷
    bytes "print" ∷
    bytes "nop" ∷
    bytes "id" ∷
    bytes "END_OF_FILE" ∷
    []

abbrev pub word_of : ℕ → List ℕ
word_of kind = get_or words kind []

-- an integer in signed decimal, from its 32 bits
unfoldable pub signed : ℕ → List ℕ
signed bits = pick (ltb bits 2147483648) (decimal bits) (bytes "-" ++ decimal (4294967296 - bits))

-- a token as Display shows it: `local_3` with the name's number, an integer, or the word or sign
unfoldable pub shown : ℕ → Identifier → ℕ → List ℕ
shown kind name integer =
    pick (ltb T.integer kind) (word_of kind)
    (pick (eqb kind T.integer) (signed integer)
    (word_of kind ++ decimal name.0))

-- Display for Type (ir.rs), by a type's cell
unfoldable pub type_word : ℕ → List ℕ
type_word cell =
    pick (eqb cell Types.placeholder) (bytes "placeholder")
    (pick (eqb cell Types.int) (bytes "int")
    (pick (eqb cell Types.bool) (bytes "bool")
    (pick (eqb cell Types.void) (bytes "void")
    (bytes "fn"))))

unfoldable pub quoted : List ℕ → List ℕ
quoted s = bytes "'" ++ (s ++ bytes "'")

-- ITEM. ---------------------------------------------------------------------------------------------------------------

-- Token::error (lexer.rs): the token itself
unfoldable pub at_token : ℕ → Identifier → ℕ → List ℕ
at_token kind name integer =
    pick (eqb kind T.end_of_file) (bytes "at end of file") (bytes "at " ++ quoted (shown kind name integer))

-- SymbolTable and LabelsToBlocks (ir.rs, parser.rs): a name as the text spells it
abbrev pub at_name : List ℕ → List ℕ
at_name name = bytes "at " ++ quoted name

-- The token for 5 to 12 and 17 to 21; a name for 13, its token's own, and for 15 and 16; nothing for 14, where the Rust
-- has none, and for the numbers that are not the Rust's. (The token's kind, name and integer, the refusal's number and
-- name.)
unfoldable pub item_of : List ℕ → List ℕ → ℕ → Identifier → ℕ → ℕ → Identifier → List ℕ
item_of text names kind own integer n name =
    pick (ltb n 13) (at_token kind own integer)
    (pick (eqb n 13) (at_name (name_of text names own.0))
    (pick (eqb n 14) []
    (pick (ltb n 17) (at_name (name_of text names name.0))
    (pick (ltb n 22) (at_token kind own integer)
    []))))

-- TEXT. ---------------------------------------------------------------------------------------------------------------

-- 5
abbrev pub expected : ℕ → List ℕ
expected kind = quoted (shown kind (record { 0 = 0 }) 0) ++ bytes " expected."

-- 14
abbrev pub missing : List ℕ → List ℕ
missing name = bytes "Branch target " ++ (quoted name ++ bytes " is missing")

-- 15
abbrev pub unexpected : ℕ → ℕ → List ℕ
unexpected found wanted =
    bytes "Unexpected type " ++ (quoted (type_word found) ++ (bytes ". Expected " ++ (quoted (type_word wanted)
    ++ bytes ".")))

-- 17
abbrev pub other_type : ℕ → ℕ → List ℕ
other_type wanted found =
    quoted (type_word wanted) ++ (bytes " type expected; " ++ (quoted (type_word found) ++ bytes " found"))

-- 20
abbrev pub other_count : ℕ → ℕ → List ℕ
other_count wanted found = decimal wanted ++ (bytes " arguments expected, got " ++ decimal found)

-- those that say the same of every text
unfoldable pub fixed : ℕ → List ℕ
fixed n =
    pick (eqb n 6) (bytes "Local identifier expected.")
    (pick (eqb n 7) (bytes "Global identifier expected.")
    (pick (eqb n 8) (bytes "Label identifier expected.")
    (pick (eqb n 9) (bytes "Type expected.")
    (pick (eqb n 10) (bytes "Integer or boolean constant expected.")
    (pick (eqb n 11) (bytes "Unexpected token.")
    (pick (eqb n 12) (bytes "Basic block must start with a label.")
    (pick (eqb n 13) (bytes "Duplicate label found.")
    (pick (eqb n 16) (bytes "Undefined identifier.")
    (pick (eqb n 18) (bytes "Void functions cannot return a value.")
    (pick (eqb n 19) (bytes "Non-void functions must return a value.")
    (pick (eqb n 21) (bytes "Block terminator expected to be jump, br, or ret.")
    (pick (eqb n 22) (bytes "empty block.")
    (pick (eqb n 35) (bytes "too many functions.")
    (pick (eqb n 36) (bytes "too many formals.")
    (pick (eqb n 37) (bytes "too many arguments.")
    (pick (eqb n 38) (bytes "too many labels.")
    (pick (eqb n 40) (bytes "not one function.")
    (pick (eqb n 41) (bytes "header changed.")
    (pick (eqb n 42) (bytes "bad header table.")
    [])))))))))))))))))))

-- (The refusal's number, what was wanted, what was found, its name.)
unfoldable pub text_of : List ℕ → List ℕ → ℕ → ℕ → ℕ → Identifier → List ℕ
text_of text names n wanted found name =
    pick (eqb n 5) (expected wanted)
    (pick (eqb n 14) (missing (name_of text names name.0))
    (pick (eqb n 15) (unexpected found wanted)
    (pick (eqb n 17) (other_type wanted found)
    (pick (eqb n 20) (other_count wanted found)
    (fixed n)))))

-- The message. --------------------------------------------------------------------------------------------------------

abbrev pub message_at : List ℕ → List ℕ → TokenAt → Refusal → List ℕ
message_at text names t e =
    reported t.line.0 (item_of text names t.kind t.name t.integer e.number e.name)
    (text_of text names e.number e.wanted e.found e.name)

-- of a text with its tokens, its names' cells and its refusal
abbrev pub message_of : List ℕ → List Tok → List ℕ → Refusal → List ℕ
message_of text ts names e = message_at text names (token_at ts e.token) e

-- the room in which ITEM is put together, and TEXT
abbrev pub room : ℕ
room = 91

-- What the code asks of the names' cells: no name is longer than 64 bytes (document 01's limit).
abbrev pub ShortNames : List ℕ → List ℕ → Type 0
ShortNames text names = (i : ℕ) → length (name_of text names i) ≤ most_name_bytes
