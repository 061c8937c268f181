use Rattle.std.proofs.Common.{◌+◌, refl}
use Rattle.net_building.proofs.FreshSteps.{number_more}
use Rattle.machine_synth.proofs.composing.names_from.Goals as goal

pub loop-place-preserved : goal.loop-place-preserved
loop-place-preserved c =
    number_more c.loop-place.names c.push.new.self (record { number = c.args.first + c.loop-place.place }) c.args.first c.loop-place.place c.loop-place.invariant refl c.in_ok-push.ensures.ok
