-- Names that don't fit are refused at the line that they are wrong at.
use Rattle.kiss_read.proofs.names.names_by.Goals as goal

pub returns-in-Err-clause-refused : goal.returns-in-Err-clause-refused
returns-in-Err-clause-refused c = c.refusal_of_names.ensures.refused _ c.in-Err.ensures.refused
