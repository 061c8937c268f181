use Rattle.std.proofs.Common.{◌≡◌, ℕ, ◌+◌, ◌-◌, None, arith, subst}
use Rattle.behaviour_audit.specs.Trial.{IsAnswerAt}
use Rattle.behaviour_audit.proofs.search.reason_in_word.Goals as goal
use Rattle.lane_sim.specs.Places.{point_at}

pub returns-then-are_right-clause-first : goal.returns-then-are_right-clause-first
returns-then-are_right-clause-first c = λ p low high.
    let slot : ℕ = p - c.args.first in
    let back : c.args.first + slot ≡ p = omega arith in
    subst (λ (q : ℕ). IsAnswerAt c.args.condition c.args.audited.now (point_at c.args.audited.now.net.now.circuit.inputs q) None) back
    (c.are_right.ensures.right c.if-are_right.true slot (omega arith) (omega arith) (omega arith))
