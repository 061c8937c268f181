use Rattle.std.proofs.lemmas.Result.{err_from_is_err_and}
use Rattle.buffered_sink.specs.Output.{Output, output}
use Rattle.netlist_answers.proofs.SimLemmas.{refused_text_ends, text_ends}
use Rattle.netlist_answers.proofs.simulating.print_simulation.Goals as goal

pub returns-in_err-lines : goal.returns-in_err-lines
returns-in_err-lines g c =
    let at : Output = output (g.K.Sink.written c.args.sink.now) (g.K.Sink.faults c.args.sink.now) c.args.page.now in
    let p = err_from_is_err_and c.from_residual.result c.from_residual.ensures.1 in rw (p.1, p.2) (
    record { ends = refused_text_ends c.args.fault c.args.text.now at c.in_err-lines.field-0.0 c.in_err-lines.ensures.refused })

pub returns : goal.returns
returns g c =
    let before : Output = output (g.K.Sink.written c.args.sink.now) (g.K.Sink.faults c.args.sink.now) c.args.page.now in
    let after : Output = output (g.K.Sink.written c.print_lines.new.sink) (g.K.Sink.faults c.print_lines.new.sink) c.print_lines.new.page in
    record { ends = text_ends c.args.fault c.args.text.now c.in_ok-lines.lines c.print_lines.result before after c.in_ok-lines.ensures.lines c.in_ok-lines.ensures.allowed c.print_lines.ensures.ends }
