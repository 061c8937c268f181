use Rattle.twin_synth.proofs.PushedSteps.{outputs_within}
use Rattle.twin_synth.proofs.copies.shown_nets.Goals as goal

pub numbers_of-requires : goal.numbers_of-requires
numbers_of-requires c = record {
  within = outputs_within c.args.source.now.circuit _ c.outputs.result.now c.nets-nets.ensures.checked.closed c.requires.sized c.outputs.ensures.outputs;
}
