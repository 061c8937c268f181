use Rattle.buffered_sink.specs.Output.{Output, output}
use Rattle.netlist_answers.specs.Printout.{printout_text}
use Rattle.netlist_answers.proofs.PrintoutLemmas.{gained_at_end, part_at_end, part_at_exit}
use Rattle.netlist_answers.proofs.printing.write_printout.Goals as goal

pub returns-in_err-print_printout-clause-part : goal.returns-in_err-print_printout-clause-part
returns-in_err-print_printout-clause-part g c =
    let before : Output = output (g.K.Sink.written c.args.sink.now) (g.K.Sink.faults c.args.sink.now) c.args.page.now in
    let after : Output = output (g.K.Sink.written c.print_printout.new.sink) (g.K.Sink.faults c.print_printout.new.sink) c.print_printout.new.page in
    part_at_exit c.from_residual.result before after (printout_text c.args.printout.now) c.requires.empty c.in_err-print_printout.ensures.printed

pub returns-clause-gained : goal.returns-clause-gained
returns-clause-gained g c =
    let before : Output = output (g.K.Sink.written c.args.sink.now) (g.K.Sink.faults c.args.sink.now) c.args.page.now in
    let mid : Output = output (g.K.Sink.written c.print_printout.new.sink) (g.K.Sink.faults c.print_printout.new.sink) c.print_printout.new.page in
    let after : Output = output (g.K.Sink.written c.finish.new.sink) (g.K.Sink.faults c.finish.new.sink) c.finish.new.page in
    gained_at_end c.finish.result before mid after (printout_text c.args.printout.now) c.requires.empty c.in_ok-print_printout.ensures.printed c.finish.ensures.printed c.finish.ensures.empty

pub returns-clause-part : goal.returns-clause-part
returns-clause-part g c =
    let before : Output = output (g.K.Sink.written c.args.sink.now) (g.K.Sink.faults c.args.sink.now) c.args.page.now in
    let mid : Output = output (g.K.Sink.written c.print_printout.new.sink) (g.K.Sink.faults c.print_printout.new.sink) c.print_printout.new.page in
    let after : Output = output (g.K.Sink.written c.finish.new.sink) (g.K.Sink.faults c.finish.new.sink) c.finish.new.page in
    part_at_end c.finish.result before mid after (printout_text c.args.printout.now) c.requires.empty c.in_ok-print_printout.ensures.printed c.finish.ensures.printed
