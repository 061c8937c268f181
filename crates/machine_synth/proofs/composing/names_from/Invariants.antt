use Rattle.std.proofs.Common.{◌≡◌, map}
use Rattle.std.specs.List.{range_with_len}
use Rattle.net_building.specs.Names.{numbered}
use Rattle.machine_synth.proofs.composing.names_from.Given as goal

-- so many names
abbrev pub invariant-loop-place : goal.invariant-loop-place
invariant-loop-place l = l.names ≡ map numbered (range_with_len l.first l.place)
