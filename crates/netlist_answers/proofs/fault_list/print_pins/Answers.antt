-- One pin after the other.
use Rattle.std.proofs.Common.{◌≡◌, ◌+◌, ◌-◌, suc, arith}
use Rattle.buffered_sink.proofs.PrintLemmas.{cut, exits, more}
use Rattle.netlist_answers.proofs.FaultLines.{pins_lines-next}
use Rattle.netlist_answers.proofs.fault_list.print_pins.Goals as goal

pub returns-in_err-print_pin_lines : goal.returns-in_err-print_pin_lines
returns-in_err-print_pin_lines g c =
    let most = c.args.pins - c.loop-index.index in
    let rest = c.args.pins - (c.loop-index.index + 1) in
    let step : most ≡ suc rest = omega arith in
    record {
      printed = exits _ c.from_residual.result c.from_residual.ensures.1
          (cut _ c.loop-index.invariant c.in_err-print_pin_lines.ensures.printed (pins_lines-next c.args.name.now c.loop-index.index most rest step));
    }

pub loop-index-preserved : goal.loop-index-preserved
loop-index-preserved g c =
    let most = c.args.pins - c.loop-index.index in
    let rest = c.args.pins - (c.loop-index.index + 1) in
    let step : most ≡ suc rest = omega arith in
    more _ c.loop-index.invariant c.in_ok-print_pin_lines.ensures.printed (pins_lines-next c.args.name.now c.loop-index.index most rest step)
