use Rattle.std.proofs.Common.{ℕ, List, sym, ap, subst, arith}
use Rattle.std.proofs.lemmas.List.{with_items_is}
use Rattle.fault_lanes.specs.Bench.{LanesState, IsStep}
use Rattle.fault_lanes.proofs.BenchLemmas.{step_is}
use Rattle.fault_lanes.proofs.bench.FaultLanes.step.Goals as goal

pub returns : goal.returns
returns c =
    let inside = c.self.inside in
    let taken = c.take_states.new.states in
    let after : List ℕ → LanesState = λ states. record { circuit = inside.net.now.circuit; faults = inside.chains.faults.items; states = states; nets = inside.words.items } in
    record {
      step = subst (λ (states : List ℕ). IsStep c.args.self.now c.args.input.now (after states)) (sym (with_items_is inside.states taken (omega arith)))
          (step_is c.args.self.now c.settle.new.self (after taken) c.args.input.now c.settle.ensures.settles c.settle.ensures.same
          (ap (λ (s : LanesState). s.circuit) c.self.view_is) (ap (λ (s : LanesState). s.faults) c.self.view_is) (ap (λ (s : LanesState). s.nets) c.self.view_is)
          c.deref.result.now c.deref.ensures.value c.take_states.ensures.next);
      acyclic = c.settle.ensures.acyclic;
    }
