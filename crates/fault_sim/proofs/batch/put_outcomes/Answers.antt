use Rattle.std.proofs.Common.{◌≡◌, ◌%◌, refl, sym, ap, ◌∙◌, subst, length, length-set, arith}
use Rattle.fault_secure.specs.Circuit.{Circuit}
use Rattle.tsc_net.specs.Fault.{stuck_at_or_none}
use Rattle.lane_sim.specs.Points.{ArePointsOf}
use Rattle.fault_sim.specs.Sim.{watched_nets}
use Rattle.fault_sim.specs.Shown.{IsShownOf}
use Rattle.fault_sim.specs.Outcomes.{IsOutcome}
use Rattle.fault_sim.specs.Batch.{input_of, state_of}
use Rattle.fault_sim.proofs.OutcomeLemmas.{outcome_is}
use Rattle.fault_sim.proofs.BatchLemmas.{batch_on, outcomes_more}
use Rattle.fault_sim.proofs.batch.put_outcomes.Goals as goal

pub loop-place-preserved : goal.loop-place-preserved
loop-place-preserved c =
    let N = c.args.bench.now.circuit in
    let shown = c.args.shown.now in
    let f = stuck_at_or_none c.args.fault in
    let xs = c.args.inputs.now in
    let place = c.loop-place.place in
    let old = c.loop-place.invariant in
    let bench = c.settle_for.new.bench in
    let circuit : bench.circuit ≡ N = c.settle_for.ensures.circuit ∙ old.circuit in
    let watched : bench.watched ≡ c.args.bench.now.watched = c.settle_for.ensures.watched ∙ old.watched in
    let batch = c.settle_for.ensures.batch in
    let is_shown : IsShownOf bench.circuit shown.plan.now shown = subst (λ (C : Circuit). IsShownOf C shown.plan.now shown) (sym circuit) c.requires.shown in
    let here : IsOutcome bench.circuit shown.plan.now f (input_of xs place) (state_of bench.circuit xs place) c.outcome_at-outcome.result =
    outcome_is bench shown f (place % 1024) (input_of xs place) (state_of bench.circuit xs place) c.outcome_at-outcome.result is_shown
    (watched ∙ (c.requires.watched ∙ ap (λ (C : Circuit). watched_nets C shown.plan.now) (sym circuit)))
    (λ v settles. batch.shows place v c.loop-place-test.true refl settles)
    c.outcome_at-outcome.ensures.view c.outcome_at-outcome.ensures.next c.outcome_at-outcome.ensures.state in
    record {
      points = subst (λ (C : Circuit). ArePointsOf C c.settle_for.new.points) old.circuit c.settle_for.ensures.points;
      circuit = circuit;
      watched = watched;
      rows = c.settle_for.ensures.rows ∙ old.rows;
      before = λ inside. batch_on bench f xs c.len-count.result place batch inside;
      sized = ap length c.replace.ensures.changed ∙ (length-set c.loop-place.list place c.outcome_at-outcome.result ∙ old.sized);
      made = outcomes_more N shown.plan.now f xs place c.loop-place.list c.replace.new.self c.outcome_at-outcome.result (omega (arith, old.sized, c.loop-place-test.true)) old.made c.replace.ensures.changed
          (subst (λ (C : Circuit). IsOutcome C shown.plan.now f (input_of xs place) (state_of C xs place) c.outcome_at-outcome.result) circuit here);
    }
