-- The name's six cells end where the result type's cell stands, so the two runs are one run of thirteen cells
-- (`two_runs`); the rest of the room for formals is zeroed.
use Rattle.lexer.specs.Decoded.{tokens_of, token_at}
use Rattle.functions.proofs.Stores.{two_runs}
use Prim.Native.Nat.{ℕ, ◌+◌, ◌-◌, ◌*◌}
use mathlib.Core.Path.{◌≡◌, refl, ap, ◌∙◌}
use mathlib.Core.List.{List, ◌∷◌, []}
use lib.ListN.{get_or, replicate}
use lib.Seq.{sets}
use native.Mathlib.Omega.{arith}
use Rattle.functions.proofs.rows.put_row.Goals as goal

-- Zeros from behind some formals to the end of the room for sixteen are as many as formals are lacking.

zeros-behind :
    (r cells : List ℕ) → (here used : ℕ) → r ≡ sets cells (here + used) (replicate (here + 32 - (here + used)) 0)
    → r ≡ sets cells (here + used) (replicate (32 - used) 0)
zeros-behind r cells here used zeros =
    let as_many : here + 32 - (here + used) ≡ 32 - used = omega arith in
    zeros ∙ ap (λ n. sets cells (here + used) (replicate n 0)) as_many

pub returns : goal.returns
returns c =
    let ts = tokens_of c.args.tokens.now in
    let xs : List ℕ =
    c.args.token ∷ c.args.h.name.0 ∷ (c.args.b.next - 1) ∷ (token_at ts c.args.token).place
    ∷ get_or c.args.names.now (c.args.h.name.0 * 2 + 1) 0 ∷ (token_at ts c.args.token).line.0 ∷ [] in
    let ys : List ℕ =
    c.args.h.ret ∷ c.args.h.ty ∷ c.args.n.items ∷ c.args.b.items ∷ c.args.n.blocks ∷ c.args.b.blocks ∷
    c.args.h.formals ∷ [] in
    zeros-behind _ _ (14 + c.args.n.functions * 45) (c.args.h.formals * 2) c.clear_part.ensures
    ∙ rw (two_runs c.args.rows.now _ _ xs ys c.args.n.functions refl c.put_name.ensures
    c.put_counts.ensures)
