-- The cells that are stored are the token's, the name's and the brace's.
use Rattle.functions.proofs.rows.put_name.Goals as goal

pub returns : goal.returns
returns c =
    rw (c.token_at-t.ensures, c.name_length-len.ensures) at c.put_cells.ensures
