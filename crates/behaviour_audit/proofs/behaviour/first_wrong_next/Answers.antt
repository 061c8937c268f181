use Rattle.fault_secure.specs.FaultSecure.{next_in}
use Rattle.behaviour_audit.specs.Points.{input_of}
use Rattle.behaviour_audit.proofs.behaviour.first_wrong_next.Goals as goal
use Rattle.lane_sim.specs.Places.{point_at}

pub returns-then-always_arrives-clause-first : goal.returns-then-always_arrives-clause-first
returns-then-always_arrives-clause-first c = λ p low high v step.
    let N = c.args.audited.now.net.now.circuit in
    let point = point_at N.inputs p in
    let there = c.always_arrives.ensures.arrives c.if-always_arrives.true point.state (input_of N.inputs point) (next_in N v) in
    record { next = there.state; arrives = there.arrives; allowed = there.allowed }
