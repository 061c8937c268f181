use Rattle.std.proofs.Common.{arith}
use Rattle.twin_synth.proofs.PushedSteps.{outputs_within}
use Rattle.twin_synth.proofs.copies.push_outputs.Goals as goal

pub bounds-numbers-net : goal.bounds-numbers-net
bounds-numbers-net c =
    outputs_within c.args.source.now.circuit _ c.outputs-net-items.result.now c.nets-nets.ensures.checked.closed c.requires.sized c.outputs-net-items.ensures.outputs
    c.loop-net.net-index (record { number = 0 }) c.loop-net-test.true
