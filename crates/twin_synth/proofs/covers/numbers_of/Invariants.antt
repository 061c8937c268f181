use Rattle.std.proofs.Common.{◌≡◌, map, take, slice_index}
use Rattle.tsc_net.specs.PlanView.{net_numbers}
use Rattle.twin_synth.proofs.covers.numbers_of.Given as goal

abbrev pub invariant-loop-net : goal.invariant-loop-net
invariant-loop-net l = l.list ≡ map (slice_index l.numbers) (net_numbers (take l.net-index l.nets))
