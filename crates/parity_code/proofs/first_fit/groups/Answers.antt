use Rattle.std.proofs.Common.{◌≡◌, length, sym, ◌∙◌, ap, subst, arith}
use Rattle.parity_code.specs.FirstFit.{share, first_fit}
use Rattle.parity_code.specs.Cones.{AreCones}
use Rattle.parity_code.proofs.GroupsComputed.{groups_are}
use Rattle.parity_code.proofs.GroupSteps.{members_within}
use Rattle.parity_code.proofs.first_fit.groups.Goals as goal

pub join-requires-clause-within : goal.join-requires-clause-within
join-requires-clause-within c =
    members_within (share c.as_slice-cones.result.now) c.loop-output.groups c.loop-output.output _ c.loop-output.invariant (let t = c.loop-output-test.true in omega arith)

pub returns-clause-computed : goal.returns-clause-computed
returns-clause-computed c =
    let end : c.loop-output.output ≡ length c.as_slice-cones.result.now = (let low = c.loop-output-test.false in let high = c.loop-output.auto.output-end in omega arith) in
    groups_are c.args.net.now.circuit c.order-order.result.now c.as_slice-cones.result.now c.loop-output.groups c.order-order.ensures.order c.order-order.ensures.whole
    (subst (AreCones c.args.net.now.circuit c.args.net.now.circuit.outputs) (sym c.as_slice-cones.ensures.whole) c.in_ok-all.ensures.cones)
    (c.loop-output.invariant ∙ ap (first_fit (share c.as_slice-cones.result.now)) end)
