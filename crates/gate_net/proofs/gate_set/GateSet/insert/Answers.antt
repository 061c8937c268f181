use Rattle.std.specs.Prelude.{◌≡◌, length}
use Rattle.std.proofs.Common.{arith, ◌∙◌}
use Rattle.gate_net.proofs.Placed.{last_gate, found_there, with_found, with_missing, placed_push}
use Rattle.gate_net.proofs.gate_set.GateSet.insert.Goals as goal

pub returns-in-Some-clause-once : goal.returns-in-Some-clause-once
returns-in-Some-clause-once c = rw (← c.self.view_is) (with_found c.self.inside.gates.items c.self.inside.places c.args.gate c.self.invariant c.in-Some.place.now c.in-Some.ensures.value)

pub returns-in-Some-clause-stored : goal.returns-in-Some-clause-stored
returns-in-Some-clause-stored c = rw (← c.self.view_is) (found_there c.self.inside.gates.items c.self.inside.places c.args.gate c.self.invariant c.in-Some.place.now c.in-Some.ensures.value)

pub invariant_of-self-in_default-insert : goal.invariant_of-self-in_default-insert
invariant_of-self-in_default-insert c =
    let count : c.len-place.result ≡ length c.self.inside.gates.items = omega (arith, c.len-place.ensures, c.self.inside.gates.ok.0) in
    let updates = rw count at c.in_default-insert.ensures.updates in
    rw c.in_ok-push.ensures.items (placed_push c.self.inside.gates.items c.self.inside.places c.args.gate c.self.invariant c.in_default.ensures.value c.insert.new.self updates)

-- src/gate_set.rt:41:5
pub returns-clause-once : goal.returns-clause-once
returns-clause-once c = c.in_ok-push.ensures.items ∙ rw (← c.self.view_is) (with_missing c.self.inside.gates.items c.self.inside.places c.args.gate c.self.invariant c.in_default.ensures.value)

-- src/gate_set.rt:41:5
pub returns-clause-stored : goal.returns-clause-stored
returns-clause-stored c =
    let count : c.len-place.result ≡ length c.self.inside.gates.items = omega (arith, c.len-place.ensures, c.self.inside.gates.ok.0) in
    rw (c.in_ok-push.ensures.items, count) (last_gate c.self.inside.gates.items c.args.gate)
