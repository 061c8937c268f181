use Rattle.std.proofs.Common.{◌≡◌}
use Rattle.tsc_net.specs.PlanView.{net_numbers}
use Rattle.register_synth.specs.inner.Search.{searched}
use Rattle.register_synth.proofs.search.search.Given as goal

abbrev pub invariant-loop-place : goal.invariant-loop-place
invariant-loop-place l = l.found ≡ searched l.net.circuit (net_numbers l.roots) l.place
