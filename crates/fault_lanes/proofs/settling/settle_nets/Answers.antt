use Rattle.std.proofs.Common.{◌≡◌, ◌+◌, ℕ, ◌∙◌, subst, arith}
use Rattle.fault_secure.specs.StuckAt.{on_stem}
use Rattle.lane_sim.specs.Points.{source_bit}
use Rattle.fault_lanes.specs.Batch.{lane_fault}
use Rattle.fault_lanes.proofs.SettleLemmas.{settles}
use Rattle.fault_lanes.proofs.settling.settle_nets.Goals as goal

pub returns : goal.returns
returns c = record {
  settles = λ lane inside.
      let f = lane_fault c.args.chains.now.faults.items lane in
      let words = c.settle_latches.new.words in
      let many = c.requires.input in
      settles c.args.net.now.circuit f lane c.args.input.now c.args.states.now words c.settle_nodes.new.words c.order-order.ensures.acyclic
      (λ i below. c.settle_latches.ensures.inputs i lane (omega arith) inside ∙ c.settle_inputs.ensures.inputs i lane (omega arith) inside)
      (λ l below. subst (λ (k : ℕ). source_bit words (k + l) lane ≡ on_stem f (k + l) (source_bit c.args.states.now l lane)) many (c.settle_latches.ensures.latches l lane (omega (arith, c.latches.ensures.count)) inside))
      (λ net source. c.settle_nodes.ensures.sources net lane source inside)
      (λ v sources settle. c.settle_nodes.ensures.nodes lane v inside sources settle);
  acyclic = c.order-order.ensures.acyclic;
}
