-- The twin of a part as it is made, over groups of what it shows, that of the watch among them; it has no names yet.
use Rattle.std.specs.Prelude.{ℕ, ◌+◌, ◌<◌, ◌^◌, List, [], ◌∷◌, ◌++◌, map, length, slice_index, All}
use Rattle.std.specs.List.{range_with_len}
use Rattle.fault_secure.specs.Circuit.{Circuit, NodeOf}
use Rattle.fault_secure.specs.CodePlan.{CodePlan, concat_places}
use Rattle.tsc_net.specs.NetlistOf.{NetlistOf}
use Rattle.code_checkers.specs.CheckerNodes.{checker_nodes, rail1_net, rail2_net}
use Rattle.register_synth.specs.TwinNet.{own_net, twin_latches, twin_covers, widened, twin_checks, twin_check_nets}
use Rattle.register_synth.specs.TwinChecker.{word_plan}
use Rattle.register_synth.specs.TwinCircuit.{showing}

-- the nets that stand for the outputs, and then so many registers, the first of which has the net `first`
abbrev pub shown_over : Circuit → List ℕ → ℕ → ℕ → List ℕ
shown_over C numbers first watched = map (slice_index numbers) C.outputs ++ range_with_len first watched

-- the nodes before the checker
abbrev pub logic_over : ℕ → Circuit → List (List ℕ) → List NodeOf
logic_over watched T all = twin_covers T ++ twin_checks (showing watched T) all

-- the plan whose checker it has, what this reads, and the net of its first node
abbrev pub plan_shown : ℕ → Circuit → List (List ℕ) → CodePlan
plan_shown watched T all = word_plan (showing watched T) all 0 0

abbrev pub word_over : ℕ → Circuit → List (List ℕ) → List ℕ
word_over watched T all = map (own_net T) (showing watched T).outputs ++ twin_check_nets (showing watched T) all

abbrev pub next_over : ℕ → Circuit → List (List ℕ) → ℕ
next_over watched T all = (widened T).inputs + length (logic_over watched T all)

-- the twin as far as its checks
abbrev pub logic_net : NetlistOf → ℕ → Circuit → List (List ℕ) → NetlistOf
logic_net S watched T all = record {
  circuit = record { inputs = T.inputs; latches = twin_latches T; nodes = logic_over watched T all; outputs = [] };
  names = [];
  model = S.model;
}

-- the whole circuit
abbrev pub circuit_over : ℕ → Circuit → List (List ℕ) → Circuit
circuit_over watched T all = record {
  inputs = T.inputs;
  latches = twin_latches T;
  nodes = logic_over watched T all ++ checker_nodes (plan_shown watched T all) (word_over watched T all) (next_over watched T all);
  outputs = map (own_net T) T.outputs ++ rail1_net (plan_shown watched T all) (word_over watched T all) (next_over watched T all)
      ∷ rail2_net (plan_shown watched T all) (word_over watched T all) (next_over watched T all) ∷ [];
}

abbrev pub nameless : NetlistOf → Circuit → NetlistOf
nameless S C = record { circuit = C; names = []; model = S.model }

-- groups of so many places, none of which is empty
pub record IsShownGrouping (shown : ℕ) (all : List (List ℕ)) : Type 0 where
  pub filled : All (λ group. 0 < length group) all
  pub within : All (All (λ place. place < shown)) all

-- the nets before the checker are few
abbrev pub has_room : Circuit → List ℕ → List ℕ → List (List ℕ) → Type 0
has_room C registers covers all =
    C.inputs + (length registers + length registers) + (length covers + length covers) + length (concat_places all) < 2 ^ 32
