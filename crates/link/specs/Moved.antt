-- Two readings of one function's blocks (crates/parser/specs/Moved.antt has the relation of tokens and names).
use Rattle.std.specs.Prelude.{ℕ, ◌+◌, ◌<◌, ◌≡◌}
use Rattle.link.specs.Blocks.{Block}
use Rattle.link.specs.Edges.{Resolved}
use Rattle.parser.specs.declared.Refusal.{Refusal}
use Rattle.parser.specs.Moved.{Move, SimE, Each, SimNumber}

-- The same block, with its names renamed. The token is moved where there is one: a block without operation has none.
pub record SimBlock (m : Move) (l : ℕ) (b b' : Block) : Type 0 where
  pub labels : Each (SimNumber m) b.labels b'.labels
  pub first : b.first ≡ b'.first
  pub operations : b.operations ≡ b'.operations
  pub token : (b'.operations ≡ 0 → ⊥) → b.token ≡ m.by + b'.token
  pub below : (b'.operations ≡ 0 → ⊥) → b'.token < l
  pub goes : Each (SimNumber m) b.goes b'.goes

-- labels all resolved, or related refusals
pub data SimResolved (m : Move) (l : ℕ) : Resolved → Resolved → Type 0 where
  fine : SimResolved m l Resolved.fine Resolved.fine
  refused : (e e' : Refusal) → SimE m l e e' → SimResolved m l (Resolved.refused e) (Resolved.refused e')
