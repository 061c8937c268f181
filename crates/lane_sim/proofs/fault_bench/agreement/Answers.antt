use Rattle.std.proofs.Common.{◌≡◌, ◌<◌, ℕ, ap, sym, ◌∙◌, arith, not, true, true≢false}
use Rattle.tsc_net.specs.Fault.{stuck_at}
use Rattle.lane_sim.specs.Lanes.{lane_bit}
use Rattle.lane_sim.specs.TwoPins.{differ}
use Rattle.lane_sim.specs.FaultBench.{AgreeUnder}
use Rattle.lane_sim.proofs.FirstLemmas.{first_same}
use Rattle.lane_sim.proofs.FaultBenchLemmas.{agree_under, under_agree}
use Rattle.lane_sim.proofs.fault_bench.agreement.Goals as goal

pub returns-then-not-is_somewhere : goal.returns-then-not-is_somewhere
returns-then-not-is_somewhere c =
    let C = c.args.program.now.circuit in
    let f = stuck_at c.args.fault in
    let points = c.args.points.now in
    let one = c.args.one.number in
    let other = c.args.other.number in
    let acyclic = c.first_node-first.ensures.acyclic in
    let a = c.lanes_under-a.result in
    let b = c.lanes_under-b.result in
    let agree = c.signed-agree.result in
    record {
      found = λ p low below at.
          let inside : p < 1024 = omega (arith, c.requires.many, below) in
          let is : lane_bit agree p ≡ not (differ (lane_bit a p) (lane_bit b p)) = c.signed-agree.ensures.lanes.lanes p inside ∙ ap not (c.differ.ensures.lanes.lanes p inside) in
          let one_there = under_agree C f points acyclic one other p (lane_bit a p) (lane_bit b p) (lane_bit agree p)
          (λ v settles. c.lanes_under-a.ensures.lanes p v inside settles) (λ v settles. c.lanes_under-b.ensures.lanes p v inside settles) is at in
          true≢false (sym one_there ∙ c.is_somewhere.ensures.none c.if-not-is_somewhere.true p);
    }

pub returns : goal.returns
returns c =
    let C = c.args.program.now.circuit in
    let f = stuck_at c.args.fault in
    let points = c.args.points.now in
    let one = c.args.one.number in
    let other = c.args.other.number in
    let many = c.args.many in
    let acyclic = c.first_node-first.ensures.acyclic in
    let a = c.lanes_under-a.result in
    let b = c.lanes_under-b.result in
    let agree = c.signed-agree.result in
    let is : (p : ℕ) → p < many → lane_bit agree p ≡ not (differ (lane_bit a p) (lane_bit b p)) = (λ p below.
    c.signed-agree.ensures.lanes.lanes p (omega (arith, c.requires.many)) ∙ ap not (c.differ.ensures.lanes.lanes p (omega (arith, c.requires.many)))) in
    record {
      found = first_same (λ p. lane_bit agree p ≡ true) (AgreeUnder C f points one other) 0 many c.first_bit.result
          (λ p below. agree_under C f points acyclic one other p (lane_bit a p) (lane_bit b p) (lane_bit agree p)
          (λ v settles. c.lanes_under-a.ensures.lanes p v (omega (arith, c.requires.many)) settles) (λ v settles. c.lanes_under-b.ensures.lanes p v (omega (arith, c.requires.many)) settles) (is p below))
          (λ p below. under_agree C f points acyclic one other p (lane_bit a p) (lane_bit b p) (lane_bit agree p)
          (λ v settles. c.lanes_under-a.ensures.lanes p v (omega (arith, c.requires.many)) settles) (λ v settles. c.lanes_under-b.ensures.lanes p v (omega (arith, c.requires.many)) settles) (is p below))
          c.first_bit.ensures.first;
    }
