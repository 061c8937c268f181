use Rattle.std.proofs.Common.{drop, ◌≡◌}
use Rattle.blif_read.specs.Clocks.{first_misfit}
use Rattle.blif_read.proofs.clocks.first_misfit.Given as goal

abbrev pub invariant-loop-place : goal.invariant-loop-place
invariant-loop-place l = first_misfit l.first l.section ≡ first_misfit l.first (drop l.place l.section)
