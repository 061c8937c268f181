use Rattle.netlist_answers.proofs.fault_words.print_stem.Goals as goal

pub returns : goal.returns
returns g c = record { printed = rw (← c.held_end-end.ensures.end) c.print_all.ensures.printed }
