use Rattle.parity_code.proofs.PredictorParts.{grows_not, grows_twice}
use Rattle.parity_code.proofs.PredictorGates.{nodes_none, copies_more}
use Rattle.parity_code.proofs.predictors.add_nodes.Goals as goal

pub loop-place-init : goal.loop-place-init
loop-place-init c = record { added = nodes_none c.args.parts.now; grows = grows_not c.args.parts.now }

pub loop-place-preserved : goal.loop-place-preserved
loop-place-preserved c = record {
  added = copies_more c.args.net.now.circuit c.args.parts.now c.loop-place.parts c.add_copy.new.parts c.args.names.now c.args.places.now c.loop-place.place-index c.loop-place-test.true
      c.loop-place.invariant.added c.in_ok-add_copy.ensures.added;
  grows = grows_twice c.args.parts.now c.loop-place.parts c.add_copy.new.parts c.loop-place.invariant.grows c.in_ok-add_copy.ensures.grows;
}
