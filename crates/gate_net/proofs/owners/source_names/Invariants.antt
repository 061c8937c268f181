use Rattle.std.proofs.Common.{◌≡◌, ℕ, false, length}
use Rattle.gate_net.specs.Gates.{gate_at}
use Rattle.gate_net.specs.NodesOfLines.{has_node}
use Rattle.gate_net.proofs.NamedLines.{NamedTo}
use Rattle.gate_net.specs.Writing.{AreSources}
use Rattle.gate_net.proofs.owners.source_names.Given as goal

abbrev pub invariant-loop-place : goal.invariant-loop-place
invariant-loop-place l = record {
  sized : length l.names.items ≡ l.place;
  sources : NamedTo (λ (n : ℕ). has_node (gate_at l.gates.gates n) ≡ false) l.place l.names.items;
  are : AreSources l.parts l.gates l.names.items;
}
