use Rattle.std.proofs.Common.{drop, ◌≡◌}
use Rattle.std.specs.List.{list_any}
use Rattle.blif_read.specs.Clocks.{uses_net}
use Rattle.blif_read.proofs.clocks.is_used.Given as goal

abbrev pub invariant-loop-place : goal.invariant-loop-place
invariant-loop-place l = list_any (uses_net l.name) l.section ≡ list_any (uses_net l.name) (drop l.place l.section)
