use Rattle.std.proofs.KnownBytes.{Keeps-refl}
use Rattle.std.proofs.lemmas.Result.{err_from_is_err_and}
use Rattle.netlist_answers.specs.Devices.{SinkCall, sink_call}
use Rattle.netlist_answers.specs.Printout.{printout_ending, printout_text}
use Rattle.tsc_tool.proofs.WrittenLemmas.{made_cut, made_refused, made_written}
use Rattle.tsc_tool.proofs.performing.write_made.Goals as goal

pub returns-in_err-printout : goal.returns-in_err-printout
returns-in_err-printout g c =
    let sink : SinkCall = sink_call (g.K.Sink.written c.args.sink.now) (g.K.Sink.written c.args.sink.now) (g.K.Sink.faults c.args.sink.now) (g.K.Sink.faults c.args.sink.now) in
    let p = err_from_is_err_and c.from_residual.result c.from_residual.ensures.1 in rw (p.1, p.2) (
    record { ends = made_refused c.args.command c.args.text.now c.in_err-printout.field-0.0 sink c.requires.short c.in_err-printout.ensures.stopped (Keeps-refl (g.K.Sink.written c.args.sink.now)) })

pub returns-in-Ok : goal.returns-in-Ok
returns-in-Ok g c =
    let sink : SinkCall = sink_call (g.K.Sink.written c.args.sink.now) (g.K.Sink.written c.write_printout.new.sink) (g.K.Sink.faults c.args.sink.now) (g.K.Sink.faults c.write_printout.new.sink) in
    record {
      ends = made_written c.args.command c.args.text.now (printout_ending c.in_ok-printout.printout) c.ending.result (printout_text c.in_ok-printout.printout) sink
          c.ending.ensures.ending c.in_ok-printout.ensures.allowed c.in_ok-printout.ensures.answers c.in-Ok.ensures.gained;
    }

pub returns : goal.returns
returns g c =
    let sink : SinkCall = sink_call (g.K.Sink.written c.args.sink.now) (g.K.Sink.written c.write_printout.new.sink) (g.K.Sink.faults c.args.sink.now) (g.K.Sink.faults c.write_printout.new.sink) in
    record {
      ends = made_cut c.args.command c.args.text.now (printout_ending c.in_ok-printout.printout) (printout_text c.in_ok-printout.printout) sink
          c.in_ok-printout.ensures.allowed c.in_ok-printout.ensures.answers c.in-Err.ensures.part;
    }
