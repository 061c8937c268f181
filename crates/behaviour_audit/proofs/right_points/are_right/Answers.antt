use Rattle.std.proofs.Common.{◌≡◌, ◌+◌, ◌*◌, ◌-◌, ◌<◌, ℕ, None, false, sym, ap, ◌∙◌, subst, arith, eqb-true}
use Rattle.tsc_bits.specs.Bits.{bit_worth}
use Rattle.behaviour_audit.specs.Trial.{IsAnswerAt, ShowsPoint}
use Rattle.behaviour_audit.proofs.right_points.are_right.Goals as goal
use Rattle.lane_sim.specs.Places.{point_at}
use Rattle.tsc_bits.proofs.Bits.{bit_worth-zero}

pub unseen-requires-clause-shows : goal.unseen-requires-clause-shows
unseen-requires-clause-shows c = c.requires.shows (c.args.word * 64) c.requires.word

pub returns-clause-right : goal.returns-clause-right
returns-clause-right c = λ yes_ slot from below inside.
    let N = c.args.audited.now.net.now.circuit in
    let k : ℕ = slot - c.args.word * 64 in
    let few : k < 64 = omega arith in
    let at : c.args.word * 64 + k ≡ slot = omega arith in
    let place : c.args.first + c.args.word * 64 + k ≡ c.args.first + slot = omega arith in
    let none : c.unseen.result ≡ 0 = eqb-true c.unseen.result 0 yes_ in
    let zero_ : bit_worth k c.unseen.result ≡ false = ap (bit_worth k) none ∙ bit_worth-zero k in
    let shown : ShowsPoint c.args.audited.now c.args.trial.now (c.args.word * 64 + k) (point_at N.inputs (c.args.first + c.args.word * 64 + k))
    = subst (λ (s : ℕ). ShowsPoint c.args.audited.now c.args.trial.now s (point_at N.inputs (c.args.first + c.args.word * 64 + k))) (sym at)
    (subst (λ (p : ℕ). ShowsPoint c.args.audited.now c.args.trial.now slot (point_at N.inputs p)) (sym place) (c.requires.shows slot inside)) in
    subst (λ (p : ℕ). IsAnswerAt c.args.condition c.args.audited.now (point_at N.inputs p) None) place (c.unseen.ensures.right k few zero_ shown)
