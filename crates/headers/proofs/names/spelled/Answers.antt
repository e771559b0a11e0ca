-- Each case looks in its own text.
use Rattle.headers.proofs.names.spelled.Goals as goal

pub row_name-requires : goal.row_name-requires
row_name-requires c =
    rw c.in-Header.is at c.requires

pub returns-in-Header : goal.returns-in-Header
returns-in-Header c = rw c.in-Header.is c.row_name.ensures

pub returns-in-Name : goal.returns-in-Name
returns-in-Name c = rw c.in-Name.is c.get_name.ensures
