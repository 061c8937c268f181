use Rattle.std.proofs.Common.{List, length, map, ap, sym, ◌∙◌, subst}
use Rattle.std.specs.Option.{option_map}
use Rattle.fault_secure.specs.StuckAt.{StuckAt}
use Rattle.lane_sim.specs.Places.{point_at}
use Rattle.vectors.specs.Vectors.{AreTests}
use Rattle.vectors.proofs.PlaceLemmas.{none_found, tests_are}
use Rattle.vectors.proofs.test_vectors.tests_of.Goals as goal

pub returns : goal.returns
returns c =
    let N = c.args.net.now.circuit in
    let P = c.args.plan.now in
    let places = c.find_places.new.places in
    let all = tests_are N P places c.args.count c.requires.count c.find_places.ensures.found in
    record { tests = subst (AreTests N P) (sym (c.at.ensures.tests ∙ ap (λ n. map (option_map (point_at n)) places) c.inputs.ensures.count)) all }

pub find_places-requires-clause-none : goal.find_places-requires-clause-none
find_places-requires-clause-none c =
    none_found c.args.net.now.circuit c.args.plan.now c.in_ok-places.places
    (c.in_ok-places.ensures.sized ∙ (c.len.ensures.count ∙ ap (λ (faults : List StuckAt). length faults) c.in_ok-faults.ensures.listed)) c.in_ok-places.ensures.none
