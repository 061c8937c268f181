-- What a netlist with foretold checks is, whatever foretells them: the source's own covers, the logic of the checks after them, and
-- the stated checker over the outputs and the checks; and its plan. Each node, net and name is computed from the network, the logic
-- and the nets of the checks.
use Rattle.std.specs.Prelude.{ℕ, ◌+◌, ◌-◌, List, [], ◌∷◌, ◌++◌, map, take, length}
use Rattle.std.specs.List.{range_with_len}
use Rattle.fault_secure.specs.declared.code.Code.TheVariants.{Parity}
use Rattle.fault_secure.specs.Circuit.{Circuit, NodeOf, node_net}
use Rattle.fault_secure.specs.CodePlan.{CodePlan}
use Rattle.tsc_net.specs.Names.{text_at}
use Rattle.tsc_net.specs.NetlistOf.{NetlistOf}
use Rattle.tsc_net.specs.Parts.{fresh_text, free_number}
use Rattle.net_cones.specs.ConeMarks.{cone_of}
use Rattle.parity_code.specs.FirstFit.{first_fit_groups}
use Rattle.parity_code.specs.ParityCircuit.{copy_net, copied_nodes}
use Rattle.code_checkers.specs.CheckerNodes.{checker_nodes, rail1_net, rail2_net}

-- the places of the source's own covers: those of the nodes that some output depends on, in source order
abbrev pub kept_places : Circuit → List ℕ
kept_places C = cone_of C C.outputs

-- the nets of the outputs
abbrev pub output_nets : Circuit → List ℕ
output_nets C = map (copy_net C (kept_places C) 0) C.outputs

-- a plan under parity of these groups of outputs, their checks, and two rails
abbrev pub plan_over : ℕ → List ℕ → List (List ℕ) → ℕ → ℕ → CodePlan
plan_over outputs checks groups rail1 rail2 = record {
  version = 1;
  code = Parity;
  outputs = outputs;
  checks = checks;
  groups = groups;
  latches = 0;
  weight = 0;
  states = [];
  rail1 = rail1;
  rail2 = rail2;
}

-- the plan with some checks and rails, over the first-fit groups
abbrev pub plan_of : Circuit → List ℕ → ℕ → ℕ → CodePlan
plan_of C checks rail1 rail2 = plan_over (length C.outputs) checks (first_fit_groups C) rail1 rail2

-- the monitored word
abbrev pub word_of : Circuit → List ℕ → List ℕ
word_of C checks = output_nets C ++ checks

-- the net of the checker's first node, after the logic
abbrev pub checker_net_of : Circuit → List NodeOf → ℕ
checker_net_of C logic = C.inputs + (length (kept_places C) + length logic)

-- the plan, on whose rails the gates of its checker don't depend
abbrev pub checked_plan : Circuit → List NodeOf → List ℕ → CodePlan
checked_plan C logic checks =
    plan_of C checks (rail1_net (plan_of C checks 0 0) (word_of C checks) (checker_net_of C logic)) (rail2_net (plan_of C checks 0 0) (word_of C checks) (checker_net_of C logic))

-- the nodes: the source's own covers, the logic, and then the checker in the order of its walk
abbrev pub checked_nodes : Circuit → List NodeOf → List ℕ → List NodeOf
checked_nodes C logic checks =
    (copied_nodes C (kept_places C) 0 ++ logic) ++ checker_nodes (plan_of C checks 0 0) (word_of C checks) (checker_net_of C logic)

-- the circuit, whose outputs are the source's and then the two rails
abbrev pub checked_circuit : Circuit → List NodeOf → List ℕ → Circuit
checked_circuit C logic checks = record {
  inputs = C.inputs;
  latches = [];
  nodes = checked_nodes C logic checks;
  outputs = output_nets C ++ ((checked_plan C logic checks).rail1 ∷ ((checked_plan C logic checks).rail2 ∷ []));
}

-- the names of the covers at some places
abbrev pub cover_names : NetlistOf → List ℕ → List (List ℕ)
cover_names S places = map (λ place. text_at S.names (node_net S.circuit place)) places

-- the first fresh names, so many of them: `t`, the number, `_` and a count from 0 on
abbrev pub fresh_texts : ℕ → ℕ → List (List ℕ)
fresh_texts number count = map (fresh_text number) (range_with_len 0 count)

-- names of nets: those of the inputs, those of the covers at some places, and fresh ones; their number is the least for which
-- no name of the source begins as they do
abbrev pub names_with : NetlistOf → List ℕ → ℕ → List (List ℕ)
names_with S places count = (take S.circuit.inputs S.names ++ cover_names S places) ++ fresh_texts (free_number S.names) count

-- the netlist: the inputs and the source's own covers keep their names, the nodes after them have fresh ones in their order
abbrev pub checked_netlist : NetlistOf → List NodeOf → List ℕ → NetlistOf
checked_netlist S logic checks = record {
  circuit = checked_circuit S.circuit logic checks;
  names = names_with S (kept_places S.circuit) (length (checked_nodes S.circuit logic checks) - length (kept_places S.circuit));
  model = S.model;
}
