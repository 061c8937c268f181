use Rattle.std.proofs.Common.{◌≡◌, ℕ, ◌<◌, Bool, IsTrue, List, length, slice_index, All}
use Rattle.std.specs.List.{flat_map, filter}
use Rattle.fault_secure.specs.Circuit.{bit}
use Rattle.diagrams.specs.Cofactors.{Function}
use Rattle.diagrams.specs.Building.{AreMade}
use Rattle.cover_diagrams.specs.Covering.{Grows}
use Rattle.circuit_diagrams.specs.Stated.{AreValuations, node_functions}
use Rattle.circuit_diagrams.specs.Steps.{AreKept, AreBuilt}
use Rattle.circuit_diagrams.specs.NetRows.{NetsStand}
use Rattle.circuit_diagrams.proofs.nodes.node_rows.Given as goal

abbrev pub invariant-loop-i : goal.invariant-loop-i
invariant-loop-i l = record {
  sized : length l.rows ≡ length l.fn.rows;
  inside : All (λ row. row < length l.diagrams.rows) l.rows;
  grown : Grows l.fn.diagrams l.diagrams;
  made : (v : List Bool → List Bool) (kept : List Function) → AreValuations l.net.circuit v → AreKept l.fn.diagrams.inputs kept (flat_map (node_functions l.net.circuit v) (filter (bit l.marks) l.order)) → AreMade l.fn.diagrams l.diagrams kept;
  built : (v : List Bool → List Bool) → AreValuations l.net.circuit v → (k : ℕ) → k < l.i → IsTrue (bit l.marks (slice_index l.order k)) → AreBuilt l.diagrams (node_functions l.net.circuit v (slice_index l.order k));
  stand : (v : List Bool → List Bool) → AreValuations l.net.circuit v → NetsStand l.diagrams l.net.circuit v l.marks l.order l.i l.rows;
}
