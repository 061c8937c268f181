use Rattle.std.proofs.Common.{◌≡◌, map, take}
use Rattle.net_building.specs.Names.{numbered}
use Rattle.twin_synth.proofs.building.pin_names.Given as goal

abbrev pub invariant-loop-net : goal.invariant-loop-net
invariant-loop-net l = l.names ≡ map numbered (take l.net-index l.nets)
