use Rattle.std.proofs.Common.{take}
use Rattle.twin_synth.specs.inner.Placed.{ArePlaced}
use Rattle.twin_synth.proofs.tables.place_numbers.Given as goal

abbrev pub invariant-loop-index : goal.invariant-loop-index
invariant-loop-index l = ArePlaced l.first (take l.index l.places) l.from l.initial.numbers l.numbers
