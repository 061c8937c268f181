use Rattle.std.proofs.Common.{length, sym, ◌∙◌, ap, subst, refl, arith}
use Rattle.tsc_net.specs.PlanView.{net_numbers}
use Rattle.parity_synth.specs.CheckedNet.{plan_over}
use Rattle.parity_synth.specs.Planning.{AreGrouped}
use Rattle.parity_synth.specs.Small.{IsSmall}
use Rattle.parity_synth.proofs.Cones.{group_cones}
use Rattle.parity_synth.proofs.Room.{places_counted, cone_few, room_for_nets, predictors_few, room_for_names}
use Rattle.parity_synth.proofs.PlanningLemmas.{first_fit_grouped}
use Rattle.parity_synth.proofs.ParityDraft.{checks_paired}
use Rattle.parity_synth.proofs.parity_synthesis.parity_netlist.Goals as goal
use Rattle.tsc_net.proofs.NetNumbers.{numbers_counted}

pub check_nets-requires-clause-groups : goal.check_nets-requires-clause-groups
check_nets-requires-clause-groups c = first_fit_grouped c.args.source.now.circuit c.args.grouping.now c.requires.fit

pub check_nets-requires-clause-room : goal.check_nets-requires-clause-room
check_nets-requires-clause-room c =
    let few = places_counted c.args.source.now.circuit c.args.grouping.now c.requires.fit in
    let small : IsSmall c.args.source.now.circuit c.args.grouping.now = record { few = omega (arith, few, c.requires.few); copies = c.requires.small } in
    let cones = group_cones c.args.source.now.circuit c.order-order.result.now c.order-order.ensures.order c.order-order.ensures.whole c.args.grouping.now (first_fit_grouped c.args.source.now.circuit c.args.grouping.now c.requires.fit) in
    let within = cone_few c.args.source.now.circuit c.args.source.now.circuit.outputs c.in_ok-kept.kept c.in_ok-kept.ensures.cone in
    room_for_nets c.args.source.now.circuit c.args.grouping.now small cones c.len.result (omega (arith, within, c.len.ensures.count))

pub checker_gates-requires-clause-groups : goal.checker_gates-requires-clause-groups
checker_gates-requires-clause-groups c =
    subst (λ n. AreGrouped n c.args.grouping.now) (sym (numbers_counted c.outputs-outputs.result.now c.args.source.now.circuit.outputs c.outputs-outputs.ensures.outputs))
    (first_fit_grouped c.args.source.now.circuit c.args.grouping.now c.requires.fit)

pub checker_gates-requires-clause-paired : goal.checker_gates-requires-clause-paired
checker_gates-requires-clause-paired c =
    ap length c.as_slice.ensures.whole ∙ numbers_counted c.in_ok-checks.checks _ c.in_ok-checks.ensures.nets
    ∙ checks_paired c.args.source.now.circuit c.args.grouping.now c.len.result

pub written-requires-clause-room : goal.written-requires-clause-room
written-requires-clause-room c =
    let few = places_counted c.args.source.now.circuit c.args.grouping.now c.requires.fit in
    let small : IsSmall c.args.source.now.circuit c.args.grouping.now = record { few = omega (arith, few, c.requires.few); copies = c.requires.small } in
    let cones = group_cones c.args.source.now.circuit c.order-order.result.now c.order-order.ensures.order c.order-order.ensures.whole c.args.grouping.now (first_fit_grouped c.args.source.now.circuit c.args.grouping.now c.requires.fit) in
    room_for_names c.args.source.now.circuit c.args.grouping.now (plan_over (length c.outputs-outputs.result.now) (net_numbers c.as_slice.result.now) c.args.grouping.now 0 0) (length c.in_ok-gates.gates.gates) small
    c.requires.combinational refl refl refl c.in_ok-gates.ensures.few (predictors_few c.args.source.now.circuit c.args.grouping.now small cones)

pub parity_plan-requires-clause-groups : goal.parity_plan-requires-clause-groups
parity_plan-requires-clause-groups c =
    subst (λ n. AreGrouped n c.args.grouping.now) (sym (numbers_counted c.outputs-outputs.result.now c.args.source.now.circuit.outputs c.outputs-outputs.ensures.outputs))
    (first_fit_grouped c.args.source.now.circuit c.args.grouping.now c.requires.fit)
