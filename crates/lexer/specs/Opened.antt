-- For tables of cases, which are shown by computation.
use Rattle.std.specs.Prelude.{ℕ}
use Rattle.utils.specs.Bytes.{pick, same_bytes}
use Rattle.utils.specs.Message.{digits, reported}
use Rattle.pieces.specs.Classes.{is_blank, is_digit, is_letter, is_name_part, is_ascii}
use Rattle.pieces.specs.Tokens.{value_of, words, word_in, symbol}
use Rattle.pieces.specs.Pieces.{line_end, closes, star_after, comment_end, digits_from, name_end, slash_at}
use Rattle.pieces.specs.Pieces.{digit_at, minus_at, name_at, sigil_at, then_value, word_at, symbol_at, token_from, piece_at}
use Rattle.pieces.specs.Pieces.{on_piece, pieces_from}
use Rattle.lexer.specs.Numbered.{spellings, index_of, identified, then_identified, then_room, numbered_from}
use Rattle.lexer.specs.Numbered.{numbered, tokens_cells, names_cells}
use Rattle.lexer.specs.Read.{lexed_from, read_of, sized, read_def}

-- To unfold this is to unfold the whole definition.
unfoldable pub opened : ℕ
unfolding
    pick same_bytes digits reported
    is_blank is_digit is_letter is_name_part is_ascii value_of words word_in symbol
    line_end closes star_after comment_end digits_from name_end
    slash_at digit_at minus_at name_at sigil_at then_value word_at symbol_at token_from piece_at on_piece pieces_from
    spellings index_of identified then_identified then_room numbered_from numbered tokens_cells names_cells
    lexed_from read_of sized read_def
opened = 0
