use Rattle.state_code.proofs.growing.both.Goals as goal

pub returns-in-Some-clause-grown : goal.returns-in-Some-clause-grown
returns-in-Some-clause-grown c = λ test fails. c.add.ensures.grown test (fails c.in-Some.a c.args.line)
