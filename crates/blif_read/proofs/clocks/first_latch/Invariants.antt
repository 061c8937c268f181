use Rattle.std.proofs.Common.{drop, ◌≡◌}
use Rattle.blif_read.specs.Clocks.{first_latch}
use Rattle.blif_read.proofs.clocks.first_latch.Given as goal

abbrev pub invariant-loop-place : goal.invariant-loop-place
invariant-loop-place l = first_latch l.section ≡ first_latch (drop l.place l.section)
