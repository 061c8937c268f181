-- The figures, and that the verdict is yes.
use Rattle.std.proofs.Common.{◌++◌, ◌∙◌, ap}
use Rattle.made_report.proofs.MadeLemmas.{report_written}
use Rattle.made_report.proofs.making.written_report.Goals as goal

pub figures_of-requires-clause-checks : goal.figures_of-requires-clause-checks
figures_of-requires-clause-checks c = c.requires.checks

pub figures_of-requires-clause-latches : goal.figures_of-requires-clause-latches
figures_of-requires-clause-latches c = c.requires.latches

pub returns : goal.returns
returns c = record {
  report = report_written c.args.number c.args.source.now.machine.table c.figures_of.result c.args.made.now.net c.args.verdict
      c.in_ok-bytes.bytes c.append.new.self c.in_ok-line.line c.append-2.new.self
      c.figures_of.ensures.figures c.in_ok-bytes.ensures.text c.in_ok-append.ensures.ok c.in_ok-line.ensures.text c.requires.yes
      (c.in_ok-append-2.ensures.ok ∙ ap (λ l. c.append.new.self ++ l) c.as_slice.ensures.whole);
}
