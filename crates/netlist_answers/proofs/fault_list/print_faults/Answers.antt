-- One driver after the other.
use Rattle.std.proofs.Common.{◌<◌, ◌≤◌, [], ap, arith}
use Rattle.std.specs.List.{flat_map}
use Rattle.buffered_sink.proofs.PrintLemmas.{IsPrinted-nil, cut, exits, more}
use Rattle.fault_secure.specs.Circuit.{nets}
use Rattle.netlist_answers.specs.FaultList.{fault_line}
use Rattle.netlist_answers.proofs.FaultLines.{left_from-first, lines_from-next}
use Rattle.netlist_answers.proofs.fault_list.print_faults.Goals as goal

pub loop-at-init : goal.loop-at-init
loop-at-init g c = record {
  done = [];
  printed = IsPrinted-nil _;
  whole = ap (flat_map (fault_line c.args.net.now.names)) (left_from-first c.args.net.now.circuit c.inputs-at.result c.inputs-at.ensures.count);
}

pub returns-in_err-print_driver : goal.returns-in_err-print_driver
returns-in_err-print_driver g c =
    let C = c.args.net.now.circuit in
    let at = c.loop-at.at in
    let not_input : C.inputs ≤ at = omega arith in
    let is_net : at < nets C = omega arith in
    record {
      printed = exits _ c.from_residual.result c.from_residual.ensures.1
          (cut _ c.loop-at.invariant c.in_err-print_driver.ensures.printed
          (lines_from-next C c.args.net.now.names at c.name-name.result.now c.pins_of.result not_input is_net c.name-name.ensures.name c.pins_of.ensures.pins));
    }

pub loop-at-preserved : goal.loop-at-preserved
loop-at-preserved g c =
    let C = c.args.net.now.circuit in
    let at = c.loop-at.at in
    let not_input : C.inputs ≤ at = omega arith in
    let is_net : at < nets C = omega arith in
    more _ c.loop-at.invariant c.in_ok-print_driver.ensures.printed
    (lines_from-next C c.args.net.now.names at c.name-name.result.now c.pins_of.result not_input is_net c.name-name.ensures.name c.pins_of.ensures.pins)
