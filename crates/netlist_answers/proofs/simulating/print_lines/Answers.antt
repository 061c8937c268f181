use Rattle.std.proofs.Common.{arith}
use Rattle.std.proofs.lemmas.Result.{err_from_is_err_and}
use Rattle.buffered_sink.specs.Output.{Output, output}
use Rattle.text_sections.proofs.SectionLemmas.{behind_within}
use Rattle.blif_read.specs.RegisterFault.{lists_states}
use Rattle.text_sections.specs.Denoted.{first_lines}
use Rattle.netlist_answers.proofs.SimLemmas.{any_plan_nets, lines_end, refused_lines_end}
use Rattle.netlist_answers.proofs.simulating.print_lines.Goals as goal

pub returns-in_err-read : goal.returns-in_err-read
returns-in_err-read g c =
    let at : Output = output (g.K.Sink.written c.args.sink.now) (g.K.Sink.faults c.args.sink.now) c.args.page.now in
    let p = err_from_is_err_and c.from_residual.result c.from_residual.ensures.1 in rw (p.1, p.2) (
    record { ends = refused_lines_end c.args.fault c.args.lines.now at c.in_err-read.field-0.0 c.in_err-read.ensures.refused })

pub print_run-requires-clause-within : goal.print_run-requires-clause-within
print_run-requires-clause-within g c = behind_within c.args.lines.now 0 c.section-from.result c.section-from.ensures.section (omega arith)

pub returns : goal.returns
returns g c =
    let before : Output = output (g.K.Sink.written c.args.sink.now) (g.K.Sink.faults c.args.sink.now) c.args.page.now in
    let after : Output = output (g.K.Sink.written c.print_run.new.sink) (g.K.Sink.faults c.print_run.new.sink) c.print_run.new.page in
    record {
      ends = lines_end c.args.fault c.args.lines.now c.in_ok-read.read.net c.section-from.result c.in_ok-read.ensures.exact c.section-from.ensures.section
          c.in_ok-read.read.plan c.print_run.result before after c.in_ok-read.ensures.allowed c.in_ok-read.ensures.plan c.print_run.ensures.ends;
    }

pub print_run-requires-clause-plan : goal.print_run-requires-clause-plan
print_run-requires-clause-plan g c = any_plan_nets (lists_states (first_lines c.args.lines.now)) c.in_ok-read.read.net.circuit c.in_ok-read.read.plan c.in_ok-read.ensures.of_net
