use Rattle.std.proofs.Common.{Bool, List, ap, ◌∙◌, subst}
use Rattle.fault_secure.specs.Circuit.{bit}
use Rattle.fault_secure.specs.StuckAt.{StuckAt}
use Rattle.tsc_net.specs.Fault.{stuck_at_or_none}
use Rattle.lane_sim.specs.Bench.{ShowsSettled, HasOneValuationEach}
use Rattle.fault_sim.specs.Batch.{IsPoint}
use Rattle.fault_sim.proofs.SettleLemmas.{shows_first, one_first}
use Rattle.fault_sim.proofs.settling.settle.Goals as goal

pub returns-clause-one : goal.returns-clause-one
returns-clause-one c =
    let N = c.args.bench.now.circuit in
    let point : IsPoint c.put.new.self 0 c.args.input.now c.args.state.now = record {
      input = c.put.ensures.input;
      state = λ k. c.put.ensures.state k ∙ ap (λ (s : List Bool). bit s k) c.as_slice.ensures.whole;
    } in
    one_first N (stuck_at_or_none c.args.fault) c.put.new.self c.args.input.now c.args.state.now point
    (subst (λ (f : StuckAt). HasOneValuationEach N f c.put.new.self) (ap stuck_at_or_none c.as_ref.ensures.value) c.settle_first.ensures.one)

pub returns-clause-shows : goal.returns-clause-shows
returns-clause-shows c = λ v settles.
    let N = c.args.bench.now.circuit in
    let point : IsPoint c.put.new.self 0 c.args.input.now c.args.state.now = record {
      input = c.put.ensures.input;
      state = λ k. c.put.ensures.state k ∙ ap (λ (s : List Bool). bit s k) c.as_slice.ensures.whole;
    } in
    shows_first N (stuck_at_or_none c.args.fault) c.settle_first.new.self c.put.new.self c.args.input.now c.args.state.now v c.settle_first.ensures.circuit point
    (subst (λ (f : StuckAt). ShowsSettled 64 c.settle_first.new.self c.put.new.self f) (ap stuck_at_or_none c.as_ref.ensures.value) c.settle_first.ensures.shows) settles
