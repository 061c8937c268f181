use Rattle.std.proofs.Common.{◌≡◌, ℕ, ◌+◌, ◌-◌, ◌<◌, ◌≤◌, true, ap, ◌∙◌, arith, rules}
use Rattle.std.specs.Option.{is_some}
use Rattle.behaviour_audit.proofs.SearchLemmas.{found_in_slots, none_in_slots}
use Rattle.behaviour_audit.proofs.search.reason_in_slots.Goals as goal
use Rattle.lane_sim.specs.Places.{point_at}

pub returns-then-is_some-clause-first : goal.returns-then-is_some-clause-first
returns-then-is_some-clause-first c =
    let slot = c.loop-slot.slot in
    let inside : c.args.first + slot < c.args.past = omega arith in
    let from : c.args.from ≤ slot = omega arith in
    let some : is_some c.reason_at-found.result ≡ true = search rules in
    found_in_slots c.args.condition c.args.audited.now c.args.first c.args.past c.args.from slot c.point_at-point.result c.reason_at-found.result some from inside
    (c.point_at-point.ensures.point ∙ ap (λ (n : ℕ). point_at n (c.args.first + slot)) c.inputs.ensures.count) c.reason_at-found.ensures.answer c.loop-slot.invariant.none

pub returns-clause-first : goal.returns-clause-first
returns-clause-first c =
    let all : c.args.past - c.args.first ≤ c.loop-slot.slot = omega arith in
    none_in_slots c.args.condition c.args.audited.now c.args.first c.args.past c.args.from c.loop-slot.slot all c.loop-slot.invariant.none
