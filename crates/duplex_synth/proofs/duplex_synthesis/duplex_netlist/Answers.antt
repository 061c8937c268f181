use Rattle.std.proofs.Common.{length, sym, ◌∙◌, ap, subst, arith}
use Rattle.parity_synth.specs.Planning.{AreGrouped}
use Rattle.parity_synth.proofs.Room.{places_counted, cone_few, nodes_within}
use Rattle.parity_synth.proofs.PlanningLemmas.{first_fit_grouped}
use Rattle.parity_code.proofs.GroupStands.{checks_paired}
use Rattle.duplex_synth.proofs.duplex_synthesis.duplex_netlist.Goals as goal
use Rattle.tsc_net.proofs.NetNumbers.{numbers_counted}

pub check_nets-requires-clause-filled : goal.check_nets-requires-clause-filled
check_nets-requires-clause-filled c = (first_fit_grouped c.args.source.now.circuit c.args.grouping.now c.requires.fit).filled

pub check_nets-requires-clause-room : goal.check_nets-requires-clause-room
check_nets-requires-clause-room c =
    let few = places_counted c.args.source.now.circuit c.args.grouping.now c.requires.fit in
    let within = cone_few c.args.source.now.circuit c.args.source.now.circuit.outputs c.in_ok-kept.kept c.in_ok-kept.ensures.cone in
    omega (arith, few, within, nodes_within c.args.source.now.circuit, c.requires.few, c.requires.small, c.len-covers.ensures.count, c.inputs.ensures.count)

pub checker_gates-requires-clause-groups : goal.checker_gates-requires-clause-groups
checker_gates-requires-clause-groups c =
    subst (λ n. AreGrouped n c.args.grouping.now) (sym (numbers_counted c.outputs-outputs.result.now c.args.source.now.circuit.outputs c.outputs-outputs.ensures.outputs))
    (first_fit_grouped c.args.source.now.circuit c.args.grouping.now c.requires.fit)

pub checker_gates-requires-clause-paired : goal.checker_gates-requires-clause-paired
checker_gates-requires-clause-paired c =
    ap length c.as_slice.ensures.whole ∙ numbers_counted c.in_ok-checks.checks _ c.in_ok-checks.ensures.nets ∙ checks_paired _ c.args.grouping.now _

pub parity_plan-requires-clause-groups : goal.parity_plan-requires-clause-groups
parity_plan-requires-clause-groups c =
    subst (λ n. AreGrouped n c.args.grouping.now) (sym (numbers_counted c.outputs-outputs.result.now c.args.source.now.circuit.outputs c.outputs-outputs.ensures.outputs))
    (first_fit_grouped c.args.source.now.circuit c.args.grouping.now c.requires.fit)
