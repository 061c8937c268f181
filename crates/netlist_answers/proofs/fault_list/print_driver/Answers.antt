use Rattle.buffered_sink.proofs.PrintLemmas.{IsCut-more, Prints-then, exits}
use Rattle.netlist_answers.specs.FaultList.{pins_lines}
use Rattle.netlist_answers.proofs.fault_list.print_driver.Goals as goal

pub returns-in_err-print_stem_lines : goal.returns-in_err-print_stem_lines
returns-in_err-print_stem_lines g c = record {
  printed = exits _ c.from_residual.result c.from_residual.ensures.1 (IsCut-more (pins_lines c.args.name.now 0 c.args.pins) c.in_err-print_stem_lines.ensures.printed);
}

pub returns : goal.returns
returns g c = record {
  printed = Prints-then c.print_pins.result _ (pins_lines c.args.name.now 0 c.args.pins) c.in_ok-print_stem_lines.ensures.printed c.print_pins.ensures.printed;
}
