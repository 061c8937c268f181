use Rattle.std.proofs.Common.{◌≡◌, ◌+◌, ◌≤◌, length}
use Rattle.gate_net.specs.Written.{Extends, AreBelow, NamesRealise, ReadsBefore}
use Rattle.gate_net.specs.Writing.{MarkedNamed, NamedMarked, AreWritten}
use Rattle.gate_net.proofs.gate_writing.write_gates.Given as goal

abbrev pub invariant-loop-place : goal.invariant-loop-place
invariant-loop-place l = record {
  extends : Extends l.fn.parts l.parts;
  sized : length l.names.items ≡ l.place;
  below : AreBelow (length l.parts.names) l.names.items;
  realise : NamesRealise l.parts (length l.fn.parts.named.nodes) l.gates l.names.items;
  before : ReadsBefore l.parts.named (length l.fn.parts.named.nodes);
  named : MarkedNamed l.marks l.place l.names.items;
  marked : NamedMarked l.marks l.names.items;
  written : AreWritten l.fn.parts l.parts l.gates l.owners l.names.items;
  room : length l.parts.names ≤ length l.fn.parts.names + l.place;
  nodes : length l.parts.named.nodes ≤ length l.fn.parts.named.nodes + l.place;
}
