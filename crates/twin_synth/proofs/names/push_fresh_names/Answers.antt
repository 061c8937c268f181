use Rattle.twin_synth.proofs.PushedSteps.{fresh_names_more}
use Rattle.twin_synth.proofs.names.push_fresh_names.Goals as goal

pub loop-place-preserved : goal.loop-place-preserved
loop-place-preserved c =
    fresh_names_more c.args.numbered.now c.loop-place.numbered c.push_name.new.self c.in_ok-name.name c.args.number c.args.first c.loop-place.place
    c.loop-place.invariant c.in_ok-name.ensures.name c.in_ok-push_name.ensures.pushed
