-- The latches so far have the same clocks.
use Rattle.std.proofs.Common.{◌≡◌, drop}
use Rattle.mapping_answers.specs.MappedClocks.{has_other_clock}
use Rattle.mapping_answers.proofs.clocks.has_other_clock.Given as goal

abbrev pub invariant-loop-place : goal.invariant-loop-place
invariant-loop-place l = has_other_clock l.lines l.others ≡ has_other_clock (drop l.place l.lines) (drop l.from l.others)
