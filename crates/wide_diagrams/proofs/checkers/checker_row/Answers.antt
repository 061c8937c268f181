use Rattle.wide_diagrams.proofs.checkers.checker_row.Goals as goal

pub returns-in-Ok-clause-short : goal.returns-in-Ok-clause-short
returns-in-Ok-clause-short c = λ spent ws W. c.rails_row.ensures.short spent c.args.plan.now ws c.in-Ok.ensures.made W
