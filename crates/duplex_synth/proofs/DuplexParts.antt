-- What holds of each node of a duplex netlist: what holds of those of its source and of gates.
use Rattle.std.proofs.Common.{ℕ, ◌+◌, List, [], ◌∷◌, map, length, All}
use Rattle.std.proofs.lemmas.List.Elements.{All-nil, All-append}
use Rattle.fault_secure.specs.Circuit.{Circuit, NodeOf}
use Rattle.parity_code.specs.FirstFit.{first_fit_groups}
use Rattle.parity_code.specs.ParityFunction.{outputs_at}
use Rattle.parity_code.specs.ParityCircuit.{copy_net, copied_nodes, parity_nodes}
use Rattle.parity_synth.proofs.NetParts.{HoldsOfGates, HoldsOfNodes, check_each, copies_each, checked_each}
use Rattle.parity_code.specs.GroupChecks.{group_checks}
use Rattle.parity_synth.specs.CheckedNet.{kept_places}
use Rattle.duplex_synth.specs.DuplexNet.{duplex_logic, duplex_checks, duplex_circuit}

module _ (Q : NodeOf → Type 0) (gates : HoldsOfGates Q) (C : Circuit) (own : HoldsOfNodes Q C) where
  -- it holds of the checks of groups
  checks_each : (net : ℕ → ℕ) (groups : List (List ℕ)) (from : ℕ) → All Q (group_checks C net groups from)
  checks_each net [] from = All-nil Q
  checks_each net (group ∷ groups) from =
      All-append Q (parity_nodes C.inputs from (map net (outputs_at C group))) (group_checks C net groups (from + length group)) (check_each Q gates C.inputs from (map net (outputs_at C group)))
      (checks_each net groups (from + length group))

  -- of the copy and of the checks over it
  logic_each : All Q (duplex_logic C)
  logic_each =
      let kept = kept_places C in
      All-append Q (copied_nodes C kept (length kept)) (group_checks C (copy_net C kept (length kept)) (first_fit_groups C) (length kept + length kept)) (copies_each Q gates C own kept (length kept))
      (checks_each (copy_net C kept (length kept)) (first_fit_groups C) (length kept + length kept))

  -- and so of each node of the duplex netlist
  pub duplex_nodes_each : All Q (duplex_circuit C).nodes
  duplex_nodes_each = checked_each Q gates C own (duplex_logic C) (duplex_checks C) logic_each
