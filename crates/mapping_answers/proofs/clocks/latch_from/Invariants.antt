-- No line so far is that of a latch.
use Rattle.std.proofs.Common.{◌≡◌, drop}
use Rattle.mapping_answers.specs.MappedClocks.{latch_lines}
use Rattle.mapping_answers.proofs.clocks.latch_from.Given as goal

abbrev pub invariant-loop-place : goal.invariant-loop-place
invariant-loop-place l = latch_lines (drop l.from l.section) ≡ latch_lines (drop l.place l.section)
