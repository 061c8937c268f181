use Rattle.node_lanes.proofs.SettlingSteps.{node_lane}
use Rattle.node_lanes.proofs.settling.settle_node_words.Goals as goal

pub returns : goal.returns
returns c = record {
  set = λ p low. node_lane c.args.net.now.circuit c.args.place p c.node_net.result.number c.node_word-word.result c.args.words.now c.node_net.ensures.net (c.node_word-word.ensures.bits p low);
}
