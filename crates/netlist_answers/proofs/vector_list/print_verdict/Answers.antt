use Rattle.netlist_answers.proofs.vector_list.print_verdict.Goals as goal

pub returns : goal.returns
returns g c = record { printed = rw (← c.verdict_line-line.ensures.line) c.print.ensures.printed }
