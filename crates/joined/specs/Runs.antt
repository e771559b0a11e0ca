-- The names and tokens between two places of a text, and where a piece of a text ends.
use Rattle.std.specs.Prelude.{ℕ, ◌≤◌, ◌≡◌, List, [], ◌∷◌, Result, Ok, Err}
use Rattle.pieces.specs.Pieces.{Pieces, cursor, piece_at}
use Rattle.pieces.specs.declared.Token.{Token}
use Rattle.pieces.specs.declared.Name.{Name}
use Rattle.pieces.specs.declared.Lexed.{Lexed}
use Rattle.pieces.specs.declared.Lexed.TheVariants as L
use Rattle.joined.specs.Moves.{move_token, move_name}
use Rattle.pieces.specs.declared.Refusal.{Refusal}

-- A piece that is neither refused nor the end stops at n or before.
abbrev pub EndsBy : ℕ → Result Lexed Refusal → Type 0
EndsBy n (Ok (L.Skipped c)) = c.place ≤ n
EndsBy n (Ok (L.Name m c)) = c.place ≤ n
EndsBy n (Ok (L.Token t c)) = c.place ≤ n
EndsBy n (Ok (L.End c)) = ⊥
EndsBy n (Err r) = ⊥

-- The second rest of a text is nothing, or begins as the first does: a piece that ends before the first ends before
-- the second, for no piece looks further than one byte ahead.
pub data Begins : List ℕ → List ℕ → Type 0 where
  nothing : {u : List ℕ} → Begins u []
  alike : {b : ℕ} {u u' : List ℕ} → Begins (b ∷ u) (b ∷ u')

-- a name that has no number yet, or a token
pub data Item : Type 0 where
  spelled : Name → Item
  plain : Token → Item

-- where an item stands
abbrev pub place_of : Item → ℕ
place_of (Item.spelled n) = n.place
place_of (Item.plain t) = t.place

abbrev pub line_of : Item → ℕ
line_of (Item.spelled n) = n.line.0
line_of (Item.plain t) = t.line.0

-- items, and what comes behind them
unfoldable pub before : List Item → Pieces → Pieces
before [] rest = rest
before (Item.spelled n ∷ is) rest = Pieces.spelled n (before is rest)
before (Item.plain t ∷ is) rest = Pieces.plain t (before is rest)

-- an item, moved
abbrev pub move_item : ℕ → ℕ → Item → Item
move_item by down (Item.spelled n) = Item.spelled (move_name by down n)
move_item by down (Item.plain t) = Item.plain (move_token by down t)

unfoldable pub move_items : ℕ → ℕ → List Item → List Item
move_items by down [] = []
move_items by down (i ∷ is) = move_item by down i ∷ move_items by down is

-- Piece after piece, from one place and line of the text s to another: the names and tokens on the way.
pub data Run (s : List ℕ) : ℕ → ℕ → List Item → ℕ → ℕ → Type 0 where
  stop : {at line : ℕ} → Run s at line [] at line
  skip : {at line a l at' line' : ℕ} {is : List Item} → piece_at s at line ≡ Ok (L.Skipped (cursor a l))
      → Run s a l is at' line' → Run s at line is at' line'
  spelled : {at line a l at' line' : ℕ} {n : Name} {is : List Item} → piece_at s at line ≡ Ok (L.Name n (cursor a l))
      → Run s a l is at' line' → Run s at line (Item.spelled n ∷ is) at' line'
  plain : {at line a l at' line' : ℕ} {t : Token} {is : List Item} → piece_at s at line ≡ Ok (L.Token t (cursor a l))
      → Run s a l is at' line' → Run s at line (Item.plain t ∷ is) at' line'
