use Rattle.std.proofs.Common.{arith}
use Rattle.twin_synth.proofs.PushedSteps.{first_names_more}
use Rattle.twin_synth.proofs.names.push_first_names.Goals as goal

pub loop-net-preserved : goal.loop-net-preserved
loop-net-preserved c =
    let sized = c.nets-nets.ensures.checked.sized in
    let within = c.requires.within in
    let low = c.loop-net-test.true in
    first_names_more c.args.source.now c.args.numbered.now c.loop-net.numbered c.push_net_name.new.numbered c.loop-net.net (omega (arith, sized, within, low))
    c.loop-net.invariant c.in_ok-push_net_name.ensures.pushed
