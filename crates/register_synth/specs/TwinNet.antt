-- The twin of a source: two copies of its registers and covers, and the checks of groups of outputs over the second copy.
use Rattle.std.specs.Prelude.{◌≡◌, ℕ, ◌+◌, nat_lt, if◌then◌else◌, List, [], ◌∷◌, ◌++◌, map, length}
use Rattle.fault_secure.specs.declared.code.Code.TheVariants.{Parity}
use Rattle.fault_secure.specs.Circuit.{Circuit, LatchOf, NodeOf}
use Rattle.parity_code.specs.GroupChecks.{group_checks, group_check_nets}
use Rattle.parity_code.specs.ParityCircuit.{StandAt}
use Rattle.register_laws.specs.RegisterPlan.{RegisterPlan}
use Rattle.register_laws.specs.Twin.{Placing, renamed}
use Rattle.register_synth.specs.Kept.{renamed_latch}

-- a net of the source in its own copy: the copied registers stand between the own registers and the covers
abbrev pub own_net : Circuit → ℕ → ℕ
own_net T net = if nat_lt net (T.inputs + length T.latches) then net else net + length T.latches

-- and in the second copy, in which an input stands for itself
abbrev pub copied_net : Circuit → ℕ → ℕ
copied_net T net =
    if nat_lt net T.inputs then net
    else (if nat_lt net (T.inputs + length T.latches) then net + length T.latches else net + length T.latches + length T.nodes)

-- where the two copies stand
abbrev pub own_place : Circuit → Placing
own_place T = record { net = own_net T; latch_at = λ l. l; node_at = λ j. j }

abbrev pub copied_place : Circuit → Placing
copied_place T = record { net = copied_net T; latch_at = λ l. length T.latches + l; node_at = λ j. length T.nodes + j }

-- the registers of both copies, and the covers of both
abbrev pub twin_latches : Circuit → List LatchOf
twin_latches T = map (renamed_latch (own_net T)) T.latches ++ map (renamed_latch (copied_net T)) T.latches

abbrev pub twin_covers : Circuit → List NodeOf
twin_covers T = map (renamed (own_net T)) T.nodes ++ map (renamed (copied_net T)) T.nodes

-- the source with so many inputs that the net of the first cover is the twin's
abbrev pub widened : Circuit → Circuit
widened T = record T { inputs = T.inputs + (length T.latches + length T.latches); latches = [] }

-- for each group the chain over the copies of its outputs, and its negation, the check
abbrev pub twin_checks : Circuit → List (List ℕ) → List NodeOf
twin_checks T groups = group_checks (widened T) (copied_net T) groups (length T.nodes + length T.nodes)

-- the nets of the checks
abbrev pub twin_check_nets : Circuit → List (List ℕ) → List ℕ
twin_check_nets T groups = group_check_nets (widened T).inputs groups (length T.nodes + length T.nodes)

-- the plan of a twin with these groups and rails, in which nothing is watched
abbrev pub twin_plan : Circuit → List (List ℕ) → ℕ → ℕ → RegisterPlan
twin_plan T groups rail1 rail2 = record {
  plan = record {
    version = 1;
    code = Parity;
    outputs = length T.outputs;
    checks = twin_check_nets T groups;
    groups = groups;
    latches = length T.latches + length T.latches;
    weight = 0;
    states = [];
    rail1 = rail1;
    rail2 = rail2;
  };
  watches = [];
}

-- N has the registers and covers of both copies first, then the checks, and shows the own outputs and the rails. What stands after the
-- checks is not said here
pub record BeginsAsTwin (T N : Circuit) (groups : List (List ℕ)) (rail1 rail2 : ℕ) : Type 0 where
  pub same_inputs : N.inputs ≡ T.inputs
  pub latches : N.latches ≡ twin_latches T
  pub nodes : StandAt N 0 (twin_covers T ++ twin_checks T groups)
  pub outputs : N.outputs ≡ map (own_net T) T.outputs ++ rail1 ∷ rail2 ∷ []
