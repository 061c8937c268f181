use Rattle.std.proofs.KnownBytes.{Keeps-refl}
use Rattle.std.proofs.lemmas.Result.{err_from_is_err_and}
use Rattle.netlist_answers.specs.Devices.{SinkCall, SourceCall, sink_call, source_call}
use Rattle.tsc_tool.proofs.WrittenLemmas.{performs, stops, unread_stops}
use Rattle.tsc_tool.proofs.performing.perform.Goals as goal

pub returns-in_err-text-clause-stopped : goal.returns-in_err-text-clause-stopped
returns-in_err-text-clause-stopped g c =
    let source : SourceCall = source_call (g.S.Source.left c.args.source.now) (g.S.Source.left c.read_text.new.source) (g.S.Source.faults c.args.source.now) (g.S.Source.faults c.read_text.new.source)
    (g.S.Source.calls c.args.source.now) (g.S.Source.calls c.read_text.new.source) in
    let sink : SinkCall = sink_call (g.K.Sink.written c.args.sink.now) (g.K.Sink.written c.args.sink.now) (g.K.Sink.faults c.args.sink.now) (g.K.Sink.faults c.args.sink.now) in
    let p = err_from_is_err_and c.from_residual.result c.from_residual.ensures.1 in rw (p.1, p.2) (
    unread_stops c.args.command source sink c.in_err-text.field-0.0 (c.in_err-text.ensures.unread c.args.command) (Keeps-refl (g.K.Sink.written c.args.sink.now)))

pub returns-clause-done : goal.returns-clause-done
returns-clause-done g c =
    let source : SourceCall = source_call (g.S.Source.left c.args.source.now) (g.S.Source.left c.read_text.new.source) (g.S.Source.faults c.args.source.now) (g.S.Source.faults c.read_text.new.source)
    (g.S.Source.calls c.args.source.now) (g.S.Source.calls c.read_text.new.source) in
    let sink : SinkCall = sink_call (g.K.Sink.written c.args.sink.now) (g.K.Sink.written c.write_answer.new.sink) (g.K.Sink.faults c.args.sink.now) (g.K.Sink.faults c.write_answer.new.sink) in
    performs c.args.command source sink c.in_ok-text.text c.in_ok-text.ensures.read c.write_answer.result c.write_answer.ensures.ends

pub returns-clause-stopped : goal.returns-clause-stopped
returns-clause-stopped g c =
    let source : SourceCall = source_call (g.S.Source.left c.args.source.now) (g.S.Source.left c.read_text.new.source) (g.S.Source.faults c.args.source.now) (g.S.Source.faults c.read_text.new.source)
    (g.S.Source.calls c.args.source.now) (g.S.Source.calls c.read_text.new.source) in
    let sink : SinkCall = sink_call (g.K.Sink.written c.args.sink.now) (g.K.Sink.written c.write_answer.new.sink) (g.K.Sink.faults c.args.sink.now) (g.K.Sink.faults c.write_answer.new.sink) in
    stops c.args.command source sink c.in_ok-text.text c.in_ok-text.ensures.read c.write_answer.result c.write_answer.ensures.ends
