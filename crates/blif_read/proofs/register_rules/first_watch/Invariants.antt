use Rattle.std.proofs.Common.{drop, ◌≡◌}
use Rattle.blif_read.specs.PlanText.{first_watch}
use Rattle.blif_read.proofs.register_rules.first_watch.Given as goal

abbrev pub invariant-loop-place : goal.invariant-loop-place
invariant-loop-place l = first_watch l.section ≡ first_watch (drop l.place l.section)
