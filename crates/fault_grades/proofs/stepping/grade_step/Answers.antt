use Rattle.std.proofs.Common.{◌≡◌, ◌<◌, ℕ, ◌&&◌, ◌||◌, cond, ap, ◌∙◌, arith}
use Rattle.std.specs.Prelude.{slice_index_or}
use Rattle.lane_sim.specs.Lanes.{lane_bit}
use Rattle.fault_lanes.specs.Bench.{valuation_of}
use Rattle.fault_grades.specs.Grade.{agree_in, wrong_in, seen_grade}
use Rattle.fault_grades.specs.declared.grade.Grade.TheVariants.{Unseen}
use Rattle.fault_grades.proofs.StepLemmas.{step_marked, step_left, step_seen, wrong_is, nets_kept}
use Rattle.fault_grades.proofs.stepping.grade_step.Goals as goal

pub agreeing-agree-requires : goal.agreeing-agree-requires
agreeing-agree-requires c =
    let kept = nets_kept c.args.bench.now.circuit c.step.new.self.circuit c.args.plan.now c.args.outputs.now c.step.ensures.step.same.circuit c.requires.nets in
    record { first = kept.rail1; second = kept.rail2 }

pub wrong_lanes-wrong-requires : goal.wrong_lanes-wrong-requires
wrong_lanes-wrong-requires c =
    let kept = nets_kept c.args.bench.now.circuit c.step.new.self.circuit c.args.plan.now c.args.outputs.now c.step.ensures.step.same.circuit c.requires.nets in
    record { within = kept.within }

pub returns : goal.returns
returns c =
    let N = c.args.bench.now.circuit in
    let P = c.args.plan.now in
    let new = c.step.new.self in
    let agree = λ (lane : ℕ). agree_in P (valuation_of new lane) in
    let wrong = λ (lane : ℕ). wrong_in N P (valuation_of new 0) (valuation_of new lane) in
    let seen : (lane : ℕ) → lane < 1024 → lane_bit c.meet-seen.result lane ≡ (lane_bit c.args.undecided lane && (agree lane || wrong lane)) =
    λ lane inside. step_seen (lane_bit c.args.undecided lane) (lane_bit c.agreeing-agree.result lane) (lane_bit c.wrong_lanes-wrong.result lane) (lane_bit c.join.result lane) (lane_bit c.meet-seen.result lane) (agree lane) (wrong lane)
    (c.agreeing-agree.ensures.lanes.lanes lane inside)
    (wrong_is N P c.args.outputs.now (valuation_of new 0) (valuation_of new lane) (lane_bit c.wrong_lanes-wrong.result lane) c.requires.nets.numbers (c.wrong_lanes-wrong.ensures.lanes.lanes lane inside))
    (c.join.ensures.lanes.lanes lane inside) (c.meet-seen.ensures.lanes.lanes lane inside) in
    let marked : (lane : ℕ) → lane < 1024
    → slice_index_or c.mark_seen.new.marks lane Unseen ≡ cond (lane_bit c.meet-seen.result lane) (seen_grade c.args.step (agree lane)) (slice_index_or c.args.marks.now lane Unseen) =
    λ lane inside. c.mark_seen.ensures.marks lane inside
    ∙ ap (λ b. cond (lane_bit c.meet-seen.result lane) (seen_grade c.args.step b) (slice_index_or c.args.marks.now lane Unseen)) (c.agreeing-agree.ensures.lanes.lanes lane inside) in
    record {
      step = c.step.ensures.step;
      acyclic = c.step.ensures.acyclic;
      grades = λ lane inside left.
          step_marked c.args.step (lane_bit c.args.undecided lane) (agree lane) (wrong lane) (lane_bit c.meet-seen.result lane) (slice_index_or c.args.marks.now lane Unseen) (slice_index_or c.mark_seen.new.marks lane Unseen)
          (seen lane inside) (marked lane inside) left;
      undecided = λ lane inside left.
          step_left c.args.step (lane_bit c.args.undecided lane) (agree lane) (wrong lane) (lane_bit c.meet-seen.result lane) (lane_bit c.meet.result lane) (slice_index_or c.args.marks.now lane Unseen) (slice_index_or c.mark_seen.new.marks lane Unseen)
          (seen lane inside) (marked lane inside) left (c.meet.ensures.lanes.lanes lane inside ∙ ap (λ b. lane_bit c.args.undecided lane && b) (c.signed.ensures.lanes.lanes lane inside));
      sized = omega arith;
    }
