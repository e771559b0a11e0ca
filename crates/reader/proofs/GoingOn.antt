-- Going on with the reader's step until the end or a refusal gives the pieces of the text: the reader behind a piece
-- stands where the piece ends.
use Rattle.std.specs.Prelude.{Result, Ok, Err}
use Prim.Native.Nat.{ℕ, zero, suc}
use mathlib.Core.Path.{◌≡◌, refl, ap}
use mathlib.Core.List.{List}
use lib.ListN.{length}
use denote.Ref.{Bor}
use Rattle.pieces.specs.Pieces.{cursor, piece_at, Pieces, on_piece, pieces_from, pieces}
use Rattle.pieces.specs.declared.Cursor.{Cursor}
use Rattle.pieces.specs.declared.Lexed.{Lexed}
use Rattle.pieces.specs.declared.Lexed.TheVariants as L
use Rattle.reader.specs.Reader.{lexer, behind, step_of, on_step, going_on, reader_pieces}
use Rattle.reader.specs.declared.Lexer.{Lexer}
use Rattle.reader.specs.declared.Step.{Step}
use Rattle.pieces.specs.declared.Refusal.{Refusal}

module _ (source : Bor (List ℕ)) where
  -- what a step holds whose piece is p
  abbrev with_piece : Cursor → Result Lexed Refusal → Step
  with_piece at p =
      record { reader = lexer source (behind at p).place (behind at p).line; piece = p }

  on_step_lem : (more : Lexer → Pieces) (more' : Cursor → Pieces)
      → ((c : Cursor) → more (lexer source c.place c.line) ≡ more' c)
      → (at : Cursor) (p : Result Lexed Refusal) → on_step more (with_piece at p) p ≡ on_piece more' p
  unfolding on_step on_piece behind
  on_step_lem more more' same at (Ok (L.Skipped c)) = same c
  on_step_lem more more' same at (Ok (L.Name n c)) = ap (Pieces.spelled n) (same c)
  on_step_lem more more' same at (Ok (L.Token t c)) = ap (Pieces.plain t) (same c)
  on_step_lem more more' same at (Ok (L.End c)) = refl
  on_step_lem more more' same at (Err r) = refl

  going_on_lem : (turns place line : ℕ)
      → going_on turns (lexer source place line) ≡ pieces_from turns source.now place line
  unfolding going_on step_of pieces_from
  going_on_lem zero place line = refl
  going_on_lem (suc turns) place line =
      on_step_lem (going_on turns) (λ c. pieces_from turns source.now c.place c.line)
      (λ c. going_on_lem turns c.place c.line) (cursor place line) (piece_at source.now place line)

  pub reader_gives-pieces : (line : ℕ) → reader_pieces source line ≡ pieces source.now line
  reader_gives-pieces line = going_on_lem (suc (length source.now)) 0 line
