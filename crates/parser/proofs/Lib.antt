-- Steps, runs of formals and arguments, and demand 3, in reading order.
-- the steps that lead to a return
-- one turn of each loop over a run, a label, a call
pub mod Turning
-- the loops that store a run: what is left to read gives the whole
pub mod Going
-- demand 3: related tokens give related answers
pub mod Sim
