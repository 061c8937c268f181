-- One input more.
use Rattle.std.proofs.Common.{take}
use Rattle.pla_read.proofs.Segments.{inputs_next, read_name}
use Rattle.pla_read.proofs.beginning.add_inputs.Goals as goal

pub loop-place-preserved : goal.loop-place-preserved
loop-place-preserved c =
    inputs_next c.loop-place.parts c.add_input.new.parts c.args.names.now c.loop-place.place c.as_slice.result.now c.requires.distinct c.loop-place-test.true
    (read_name c.args.names.now c.loop-place.place c.index-names-place.result c.as_slice.result.now c.loop-place-test.true c.index-names-place.is c.as_slice.ensures.whole)
    (c.in_ok-add_input.ensures.added (take c.loop-place.place c.args.names.now) c.loop-place.invariant)
