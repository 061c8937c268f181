use Rattle.std.proofs.Common.{ℕ, ◌<◌, ◌≤◌, ◌+◌, ◌*◌, ◌^◌, sym, ◌∙◌, subst, arith}
use Rattle.fault_secure.specs.Exposing.{listed_states}
use Rattle.lane_sim.proofs.PuttingLemmas.{states_have_words}
use Rattle.unheard_cells.proofs.PointLemmas.{place_point}
use Rattle.unheard_cells.proofs.trial.put_batch.Goals as goal

pub put_places-requires-clause-plan : goal.put_places-requires-clause-plan
put_places-requires-clause-plan c = c.requires.trial.plan.latches ∙ sym c.requires.trial.points.latches

pub put_places-requires-clause-states : goal.put_places-requires-clause-states
put_places-requires-clause-states c =
    let P = c.args.plan.now in
    let inputs = c.requires.trial.points.inputs in
    states_have_words P c.args.trial.now.points.inputs c.args.past (subst (λ (n : ℕ). c.args.past ≤ listed_states P * 2 ^ n) (sym inputs) c.requires.places)

pub returns-clause-put : goal.returns-clause-put
returns-clause-put c = λ p below.
    let inside : c.args.first + p < c.args.past = omega arith in
    place_point c.args.net.now.circuit c.args.plan.now c.args.trial.now.points.inputs c.put_places.new.points p (c.args.first + p) c.requires.trial.points.inputs
    c.requires.trial.plan.latches (c.put_places.ensures.input p inside) (c.put_places.ensures.state p inside)

pub returns-clause-trial : goal.returns-clause-trial
returns-clause-trial c =
    let t = c.requires.trial in
    record {
      plan = t.plan;
      circuit = t.circuit;
      points = record { inputs = c.put_places.ensures.inputs ∙ t.points.inputs; latches = c.put_places.ensures.latches ∙ t.points.latches };
      watch = t.watch;
      near = t.near;
      spans = t.spans;
    }
