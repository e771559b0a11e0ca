-- Both spellings are looked up, and compared.
use Rattle.headers.proofs.names.is_spelled.Goals as goal

pub returns : goal.returns
returns c = rw (← c.spelled-header.ensures, ← c.spelled-name.ensures) c.same.ensures
