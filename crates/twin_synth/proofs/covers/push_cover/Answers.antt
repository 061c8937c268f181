use Rattle.twin_synth.proofs.PushedSteps.{reads_within}
use Rattle.twin_synth.proofs.covers.push_cover.Goals as goal

pub numbers_of-requires : goal.numbers_of-requires
numbers_of-requires c = record {
  within = reads_within c.args.source.now.circuit c.args.place _ c.node_reads.result.now c.nets-nets.ensures.checked.closed c.requires.within c.requires.sized c.node_reads.ensures.reads;
}
