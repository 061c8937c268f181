use Rattle.std.proofs.Common.{◌<◌, All, length, sym, ap, ◌∙◌, subst}
use Rattle.std.proofs.lemmas.List.Elements.{All-map}
use Rattle.fault_secure.specs.Circuit.{nets}
use Rattle.tsc_net.specs.PlanView.{net_numbers}
use Rattle.register_synth.specs.inner.Search.{Search}
use Rattle.register_synth.proofs.Searched.{searched_inside}
use Rattle.register_synth.proofs.search.search.Goals as goal

pub lead_on-requires-clause-sized : goal.lead_on-requires-clause-sized
lead_on-requires-clause-sized c =
    ap (λ (s : Search). length s.marks) c.loop-place.invariant
    ∙ (searched_inside c.args.net.now.circuit (net_numbers c.args.roots.now) c.nets-count.ensures.checked.closed
    (All-map (λ n. n < nets c.args.net.now.circuit) (λ net. net.number) c.args.roots.now c.requires.nets) c.loop-place.place).0

pub lead_on-requires-clause-within : goal.lead_on-requires-clause-within
lead_on-requires-clause-within c =
    subst (λ (s : Search). All (λ n. n < nets c.args.net.now.circuit) s.found) (sym c.loop-place.invariant)
    (searched_inside c.args.net.now.circuit (net_numbers c.args.roots.now) c.nets-count.ensures.checked.closed
    (All-map (λ n. n < nets c.args.net.now.circuit) (λ net. net.number) c.args.roots.now c.requires.nets) c.loop-place.place).1
