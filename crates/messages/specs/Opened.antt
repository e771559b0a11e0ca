-- For tables of cases, which are shown by computation.
use Rattle.std.specs.Prelude.{ℕ}
use Rattle.lexer.specs.Opened as lexing
use Rattle.lexer.specs.Decoded.{tokens_of, is_name, name_in, integer_in, token_at, name_of}
use Rattle.messages.specs.Messages.{words, signed, shown, type_word, quoted, at_token, item_of, fixed, text_of}

-- To unfold this is to unfold the whole definition.
unfoldable pub opened : ℕ
unfolding
    lexing.opened tokens_of is_name name_in integer_in token_at name_of words signed shown type_word quoted at_token item_of
    fixed text_of
opened = 0
