use Rattle.wide_diagrams.proofs.checkers.row_of_two.Goals as goal

pub returns-clause-made : goal.returns-clause-made
returns-clause-made c = λ f g kept F G needed. c.operation_row.ensures.made f g kept F G needed

pub returns-clause-stands : goal.returns-clause-stands
returns-clause-stands c = λ f g F G. c.operation_row.ensures.stands f g F G

pub returns-clause-short : goal.returns-clause-short
returns-clause-short c = λ spent f g kept F G needed. c.operation_row.ensures.short spent f g kept F G needed
