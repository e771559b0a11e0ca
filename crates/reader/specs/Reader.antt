-- The thin reader (document 01: it "keeps the source slice beside its position, as the Rust does"): its step, and going
-- on with it.
use Rattle.std.specs.Prelude.{ℕ, zero, suc, ◌-◌, List, length, Result, Ok, Err}
use Rattle.std.specs.Borrow.{Bor}
use Rattle.pieces.specs.Pieces.{cursor, piece_at, Pieces}
use Rattle.pieces.specs.declared.Cursor.{Cursor}
use Rattle.pieces.specs.declared.Lexed.{Lexed}
use Rattle.pieces.specs.declared.Lexed.TheVariants as L
use Rattle.reader.specs.declared.Lexer.{Lexer}
use Rattle.reader.specs.declared.Step.{Step}
use Rattle.pieces.specs.declared.Refusal.{Refusal}

abbrev pub lexer : Bor (List ℕ) → ℕ → ℕ → Lexer
lexer source place line = record { source = source; place = place; line = line }

-- where the reader stands behind a piece; at the end and at a refusal it stays
unfoldable pub behind : Cursor → Result Lexed Refusal → Cursor
behind at (Ok (L.Skipped c)) = c
behind at (Ok (L.Name n c)) = c
behind at (Ok (L.Token t c)) = c
behind at (Ok (L.End c)) = c
behind at (Err r) = at

-- The step: the piece at the reader's position, and the reader behind it, on the same text.
unfoldable pub step_of : Lexer → Step
step_of l =
    let piece = piece_at l.source.now l.place l.line in
    let next = behind (cursor l.place l.line) piece in
    record { reader = lexer l.source next.place next.line; piece = piece }

-- how many bytes of the text are left
abbrev pub left_of : List ℕ → ℕ → ℕ
left_of s place = length s - place

-- Going on with the step until the end or a refusal.
unfoldable pub on_step : (Lexer → Pieces) → Step → Result Lexed Refusal → Pieces
on_step more r (Ok (L.Skipped c)) = more r.reader
on_step more r (Ok (L.Name n c)) = Pieces.spelled n (more r.reader)
on_step more r (Ok (L.Token t c)) = Pieces.plain t (more r.reader)
on_step more r (Ok (L.End c)) = Pieces.end (cursor r.reader.place r.reader.line)
on_step more r (Err e) = Pieces.refused e

unfoldable pub going_on : ℕ → Lexer → Pieces
going_on zero l = Pieces.cut
going_on (suc turns) l = let r = step_of l in on_step (going_on turns) r r.piece

-- from a text's first byte
abbrev pub reader_pieces : Bor (List ℕ) → ℕ → Pieces
reader_pieces source line = going_on (suc (length source.now)) (lexer source 0 line)
