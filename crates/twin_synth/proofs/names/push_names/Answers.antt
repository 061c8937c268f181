use Rattle.std.proofs.Common.{arith}
use Rattle.twin_synth.proofs.names.push_names.Goals as goal

pub overflow_add-first : goal.overflow_add-first
overflow_add-first c = omega (arith, c.requires.within c.loop-place.place-index 0 c.loop-place-test.true, c.nets-nets.ensures.checked.few)
