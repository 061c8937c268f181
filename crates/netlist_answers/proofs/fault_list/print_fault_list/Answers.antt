use Rattle.std.proofs.Common.{length}
use Rattle.buffered_sink.proofs.PrintLemmas.{Prints-then}
use Rattle.fault_secure.specs.Listed.{listed_faults}
use Rattle.netlist_answers.specs.FaultList.{total_line}
use Rattle.netlist_answers.proofs.fault_list.print_fault_list.Goals as goal

pub returns : goal.returns
returns g c = record {
  printed = Prints-then c.print_total.result _ (total_line (length (listed_faults c.args.net.now.circuit))) c.in_ok-print_faults.ensures.printed c.print_total.ensures.printed;
}
