use Rattle.machine_synth.proofs.BegunParts.{latches_more}
use Rattle.machine_synth.proofs.beginning.add_latches.Goals as goal

pub loop-place-preserved : goal.loop-place-preserved
loop-place-preserved c =
    latches_more c.args.parts.now c.loop-place.parts c.add_latch.new.parts c.args.first c.args.latches.count c.args.latches.word c.loop-place.place c.loop-place.invariant c.in_ok-add_latch.ensures.added
