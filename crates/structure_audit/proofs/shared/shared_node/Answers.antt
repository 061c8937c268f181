use Rattle.std.proofs.Common.{◌<◌, length, slice_index, arith}
use Rattle.std.proofs.lemmas.List.Elements.{All-get_or}
use Rattle.structure_audit.proofs.AnswerLemmas.{node_answer}
use Rattle.structure_audit.proofs.shared.shared_node.Goals as goal

pub returns : goal.returns
returns c =
    let ordered = c.requires.shared.ordered in
    let there = c.requires.shared.within in
    let a : slice_index c.args.places.now c.args.pair.first < length c.args.word.now = All-get_or (λ place. place < length c.args.word.now) c.args.places.now c.args.pair.first 0 (omega arith) c.requires.within in
    let b : slice_index c.args.places.now c.args.pair.second < length c.args.word.now = All-get_or (λ place. place < length c.args.word.now) c.args.places.now c.args.pair.second 0 (omega arith) c.requires.within in
    record {
      answer = λ P is are.
          node_answer c.args.net.now.circuit P c.args.masks.now c.args.word.now (record { number = 0 }) (slice_index c.args.places.now c.args.pair.first) (slice_index c.args.places.now c.args.pair.second)
          c.first_common-place.result c.node_net.result.number is are a b c.first_common-place.ensures.within c.first_common-place.ensures.of_first c.first_common-place.ensures.of_second
          c.first_common-place.ensures.earliest c.node_net.ensures.net;
    }
