use Rattle.std.proofs.Common.{arith, Some, None, ap, ◌∙◌}
use Rattle.tsc_net.specs.NetlistOf.{NetlistOf}
use Rattle.blif_read.proofs.PlanWalk.{output_is}
use Rattle.blif_read.proofs.plan_names.output_place.Goals as goal

pub returns-in-Some : goal.returns-in-Some
returns-in-Some c = record {
  place = output_is c.args.net.now c.args.name.now c.outputs-outputs.result.now c.net_named-number.result.number c.saturating_sub-count.result (Some c.in-Some.place)
      (c.outputs-outputs.ensures.outputs ∙ ap (λ (net : NetlistOf). net.circuit.outputs) c.netlist.ensures.same) c.net_named-number.ensures.number (omega arith) c.in-Some.ensures.place;
}

pub returns-in-None : goal.returns-in-None
returns-in-None c = record {
  place = output_is c.args.net.now c.args.name.now c.outputs-outputs.result.now c.net_named-number.result.number c.saturating_sub-count.result None
      (c.outputs-outputs.ensures.outputs ∙ ap (λ (net : NetlistOf). net.circuit.outputs) c.netlist.ensures.same) c.net_named-number.ensures.number (omega arith) c.in-None.ensures.place;
}
