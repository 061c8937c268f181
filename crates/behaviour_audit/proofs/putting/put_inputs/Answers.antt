use Rattle.std.proofs.Common.{◌+◌}
use Rattle.behaviour_audit.proofs.WatchLemmas.{place_input}
use Rattle.behaviour_audit.proofs.putting.put_inputs.Goals as goal

pub returns-clause-put : goal.returns-clause-put
returns-clause-put c = λ slot inside.
    place_input c.args.net.now.circuit.inputs c.args.watch.now.points.inputs c.put_inputs.new.points slot (c.args.first + slot) c.requires.watch.points.inputs
    (c.put_inputs.ensures.input slot inside)
