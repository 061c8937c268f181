use Rattle.std.specs.Prelude.{length, refl}
use Rattle.std.proofs.Common.{rules, ap, arith}
use Rattle.gate_net.specs.Gates.{GateNetwork}
use Rattle.gate_net.proofs.Once.{few_more, written_once, written_sound, written_added}
use Rattle.gate_net.proofs.gates.Gates.add.Goals as goal

pub invariant_of-self-2 : goal.invariant_of-self-2
invariant_of-self-2 c =
    let inside : GateNetwork = record { inputs = c.self.inside.inputs; states = c.self.inside.states; gates = c.self.inside.gates } in
    written_sound c.args.self.now inside _ c.args.gate c.self.view_is refl refl c.in_ok-place.ensures.once c.self.invariant c.requires.reads (omega (arith, c.requires.room, ap (λ (G : GateNetwork). length G.gates) c.self.view_is))

pub returns-clause-once : goal.returns-clause-once
returns-clause-once c = search (rules, written_once)

pub returns-clause-sound : goal.returns-clause-sound
returns-clause-sound c = invariant_of-self-2 c

pub returns-clause-added : goal.returns-clause-added
returns-clause-added c =
    let inside : GateNetwork = record { inputs = c.self.inside.inputs; states = c.self.inside.states; gates = c.self.inside.gates } in
    written_added c.args.self.now inside _ c.args.gate c.self.view_is refl refl c.in_ok-place.ensures.once (record { number = c.in_ok-place.place }) c.self.invariant c.requires.reads
    (omega (arith, c.requires.room, ap (λ (G : GateNetwork). length G.gates) c.self.view_is)) c.in_ok-place.ensures.stored

pub returns-clause-grows : goal.returns-clause-grows
returns-clause-grows c = (returns-clause-added c).grows

pub returns-clause-few : goal.returns-clause-few
returns-clause-few c = few_more _ _ _ (returns-clause-once c)
