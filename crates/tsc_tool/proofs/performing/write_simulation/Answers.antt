use Rattle.std.proofs.lemmas.Result.{err_from_is_err_and}
use Rattle.buffered_sink.specs.Output.{Output, output}
use Rattle.tsc_tool.proofs.WrittenLemmas.{sim_cut, sim_stopped, sim_written}
use Rattle.tsc_tool.proofs.performing.write_simulation.Goals as goal

pub returns-in_err-print_simulation : goal.returns-in_err-print_simulation
returns-in_err-print_simulation g c =
    let before : Output = output (g.K.Sink.written c.args.sink.now) (g.K.Sink.faults c.args.sink.now) c.args.page.now in
    let after : Output = output (g.K.Sink.written c.print_simulation.new.sink) (g.K.Sink.faults c.print_simulation.new.sink) c.print_simulation.new.page in
    let p = err_from_is_err_and c.from_residual.result c.from_residual.ensures.1 in rw (p.1, p.2) (
    record { ends = sim_stopped c.args.fault c.args.text.now before c.requires.empty c.in_err-print_simulation.field-0.0 after c.in_err-print_simulation.ensures.ends })

pub returns-in-Ok : goal.returns-in-Ok
returns-in-Ok g c =
    let before : Output = output (g.K.Sink.written c.args.sink.now) (g.K.Sink.faults c.args.sink.now) c.args.page.now in
    let mid : Output = output (g.K.Sink.written c.print_simulation.new.sink) (g.K.Sink.faults c.print_simulation.new.sink) c.print_simulation.new.page in
    let after : Output = output (g.K.Sink.written c.finish.new.sink) (g.K.Sink.faults c.finish.new.sink) c.finish.new.page in
    record { ends = sim_written c.args.fault c.args.text.now before c.requires.empty mid after c.in_ok-print_simulation.ensures.ends c.in-Ok.ensures.printed c.in-Ok.ensures.empty }

pub returns-in-Err : goal.returns-in-Err
returns-in-Err g c =
    let before : Output = output (g.K.Sink.written c.args.sink.now) (g.K.Sink.faults c.args.sink.now) c.args.page.now in
    let mid : Output = output (g.K.Sink.written c.print_simulation.new.sink) (g.K.Sink.faults c.print_simulation.new.sink) c.print_simulation.new.page in
    let after : Output = output (g.K.Sink.written c.finish.new.sink) (g.K.Sink.faults c.finish.new.sink) c.finish.new.page in
    record { ends = sim_cut c.args.fault c.args.text.now before c.requires.empty mid after c.in_ok-print_simulation.ensures.ends c.in-Err.ensures.printed }
