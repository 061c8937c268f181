use Rattle.std.proofs.Common.{arith}
use Rattle.net_writing.proofs.OutputSteps.{output_within, output_more}
use Rattle.net_writing.proofs.outputs.output_names.Goals as goal

pub bounds-names-net : goal.bounds-names-net
bounds-names-net c =
    let within = output_within c.args.source.now.circuit c.outputs-net-items.result.now c.loop-net.net-index (record { number = 0 }) c.nets-nets.ensures.checked.closed c.outputs-net-items.ensures.outputs c.loop-net-test.true in
    omega (arith, within, c.requires.sized)

pub loop-net-preserved : goal.loop-net-preserved
loop-net-preserved c =
    output_more c.args.names.now c.loop-net.outputs c.push.new.self c.outputs-net-items.result.now c.loop-net.net-index (record { number = 0 }) c.loop-net-test.true c.loop-net.invariant c.in_ok-push.ensures.ok
