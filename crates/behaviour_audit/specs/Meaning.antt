-- What a source has to be so that benches can try it.
use Rattle.std.specs.Prelude.{◌≡◌, ◌≤◌, length}
use Rattle.fault_secure.specs.Circuit.{nets}
use Rattle.fault_secure.specs.Logic.{Logic, Network, States, Loose}
use Rattle.tsc_net.specs.Limits.{most_nets}
use Rattle.tsc_net.specs.SourceView.{IsLooseSource}

-- a network has no latch, and as many nets as a bench takes; of a source with free bits so have both networks
abbrev pub FitsABench : Logic → Type 0
FitsABench (Network C) = (length C.latches ≡ 0) × (nets C ≤ most_nets)
FitsABench (States M) = Unit {0}
FitsABench (Loose V F) = IsLooseSource V F × (nets V ≤ most_nets) × (nets F ≤ most_nets)
