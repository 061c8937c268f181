use Rattle.std.proofs.Common.{◌≡◌, ℕ, ◌+◌, ◌≤◌, length, take}
use Rattle.gate_net.specs.Gates.{GateNetwork}
use Rattle.gate_net.specs.Written.{Extends, NamesRealise, ReadsBefore, RootsRealise}
use Rattle.gate_net.specs.Writing.{AreBufs}
use Rattle.gate_net.proofs.root_writing.write_bufs.Given as goal

abbrev pub invariant-loop-root : goal.invariant-loop-root
invariant-loop-root l = record {
  extends : Extends l.fn.parts l.parts;
  same_names : l.parts.names ≡ l.fn.parts.names;
  nodes : length l.parts.named.nodes ≤ length l.fn.parts.named.nodes + length (take l.root-index l.roots);
  bufs : AreBufs l.fn.parts l.parts l.names (take l.root-index l.roots);
  before : (G : GateNetwork) (lo : ℕ) → NamesRealise l.fn.parts lo G l.names → ReadsBefore l.fn.parts.named lo → ReadsBefore l.parts.named lo;
  roots : (G : GateNetwork) (lo : ℕ) → lo ≤ length l.fn.parts.named.nodes → NamesRealise l.fn.parts lo G l.names → RootsRealise l.parts lo G (take l.root-index l.roots);
}
