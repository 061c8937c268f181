-- The ring's places are places of nodes, and its names are those of their nets.
use Rattle.std.proofs.Common.{◌≡◌, ◌+◌, length, false, ◌∙◌, subst, arith}
use Rattle.std.proofs.lemmas.List.{length-map}
use Rattle.tsc_net.specs.Order.{has_whole_order, ring, fan_in}
use Rattle.tsc_net.specs.inner.Build.{fans_from}
use Rattle.tsc_net.specs.inner.OrderFound.{IsFound}
use Rattle.tsc_net.proofs.RingWithin.{cycle_refused, ring_nets}
use Rattle.tsc_net.proofs.build.order_of.Goals as goal

pub cycle-requires-clause-within : goal.cycle-requires-clause-within
cycle-requires-clause-within c =
    let nodes = c.args.nodes.now in
    let fans = fans_from c.args.first_node nodes in
    let ring_found : (has_whole_order fans ≡ false) × (c.in-Ok-Ring.places.items ≡ ring fans) = subst (IsFound fans) c.in-Ok-Ring.field-0-is c.in-Ok-Ring.ensures.found in
    let many : c.args.first_node + length fans ≡ length c.args.names.now.nets =
    omega (arith, length-map nodes (λ n. fan_in c.args.first_node n.reads), c.requires.named) in
    ring_nets fans c.args.first_node (length c.args.names.now.nets) c.deref.result.now ring_found.0 c.requires.within (c.deref.ensures.value ∙ ring_found.1) many

pub returns-in-Ok-Ring-clause-refused : goal.returns-in-Ok-Ring-clause-refused
returns-in-Ok-Ring-clause-refused c =
    let nodes = c.args.nodes.now in
    let fans = fans_from c.args.first_node nodes in
    let ring_found : (has_whole_order fans ≡ false) × (c.in-Ok-Ring.places.items ≡ ring fans) = subst (IsFound fans) c.in-Ok-Ring.field-0-is c.in-Ok-Ring.ensures.found in
    cycle_refused fans c.args.names.now.nets c.args.first_node c.deref.result.now c.cycle.result ring_found.0 (c.deref.ensures.value ∙ ring_found.1) c.cycle.ensures.cycle
