use Rattle.std.proofs.Common.{◌≡◌, length}
use Rattle.gate_net.specs.Writing.{AreOwners, SourcesOwned}
use Rattle.gate_net.proofs.owners.owners.Given as goal

abbrev pub invariant-loop-root : goal.invariant-loop-root
invariant-loop-root l = record {
  sized : length l.owners.items ≡ length l.gates.gates;
  sources : SourcesOwned l.gates l.owners.items;
  are : AreOwners l.parts l.gates l.roots l.owners.items;
}
