use Rattle.std.proofs.Common.{ℕ, ◌≤◌, ◌*◌, ◌^◌, ◌+◌, sym, subst}
use Rattle.lane_sim.proofs.PuttingLemmas.{states_have_words}
use Rattle.behaviour_audit.proofs.WatchLemmas.{place_point}
use Rattle.behaviour_audit.proofs.putting.put_points.Goals as goal
use Rattle.fault_secure.specs.Exposing.{listed_states}

pub put_places-requires-clause-states : goal.put_places-requires-clause-states
put_places-requires-clause-states c =
    let P = c.args.plan.now in
    let inputs = c.requires.watch.points.inputs in
    states_have_words P c.args.watch.now.points.inputs c.args.past (subst (λ (n : ℕ). c.args.past ≤ listed_states P * 2 ^ n) (sym inputs) c.requires.places)

pub returns-clause-put : goal.returns-clause-put
returns-clause-put c = λ slot inside.
    let points = c.put_places.new.points in
    place_point c.args.net.now.circuit c.args.plan.now c.args.watch.now.points.inputs points slot (c.args.first + slot) c.requires.watch.points.inputs c.requires.plan.latches
    (c.put_places.ensures.input slot inside) (c.put_places.ensures.state slot inside)
