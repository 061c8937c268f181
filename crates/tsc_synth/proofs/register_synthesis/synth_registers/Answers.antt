use Rattle.tsc_net.specs.PlanView.{net_numbers}
use Rattle.tsc_synth.proofs.TwinBounds.{twin_few}
use Rattle.tsc_synth.proofs.register_synthesis.synth_registers.Goals as goal

pub returns-in-Ok-clause-covers : goal.returns-in-Ok-clause-covers
returns-in-Ok-clause-covers c =
    let made = c.in-Ok.made in
    twin_few c.args.source.now c.args.clock.now c.args.watching made.net made.plan (net_numbers made.watch) c.in-Ok.ensures.exact
