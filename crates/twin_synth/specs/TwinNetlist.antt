-- The twin of a source with registers by names: its netlist and its plan, and what is promised of them.
use Rattle.std.specs.Prelude.{◌≡◌, ℕ, zero, ◌+◌, ◌-◌, ◌*◌, ◌≤◌, Bool, true, false, List, [], ◌∷◌, ◌++◌, map, take, length, Option, None, Some}
use Rattle.fault_secure.specs.Circuit.{Circuit, latch_net}
use Rattle.fault_secure.specs.CodePlan.{CodePlan}
use Rattle.tsc_net.specs.Names.{text_at}
use Rattle.tsc_net.specs.NetlistOf.{NetlistOf}
use Rattle.blif_read.specs.declared.clocks.Clock.{Clock}
use Rattle.parity_synth.specs.CheckedNet.{cover_names}
use Rattle.blif_write.specs.RegisterText.{lists_of}
use Rattle.twin_synth.specs.Pushed.{fresh_from, fresh_number}
use Rattle.register_laws.specs.RegisterPlan.{RegisterPlan}
use Rattle.register_synth.specs.Kept.{AreKept, kept_part}
use Rattle.register_synth.specs.RegisterGroups.{AreRegisterGroups}
use Rattle.register_synth.specs.TwinCircuit.{twin_circuit, watched_plan, IsWholeTwin}

-- the name of a clock, where there is one
abbrev pub control_of : Option Clock → Option (List ℕ)
control_of None = None
control_of (Some clock) = Some clock.control

-- the names of the registers at some places
abbrev pub register_names : NetlistOf → List ℕ → List (List ℕ)
register_names S places = map (λ l. text_at S.names (latch_net S.circuit l)) places

-- the names of the nets: the inputs and the kept registers keep theirs, the copied registers have fresh ones; the kept covers keep theirs, and
-- so many nodes after them have fresh ones
abbrev pub twin_names : NetlistOf → Option Clock → List ℕ → List ℕ → ℕ → List (List ℕ)
twin_names S clock registers covers more =
    (take S.circuit.inputs S.names ++ register_names S registers ++ fresh_from (fresh_number S (control_of clock)) 0 (length registers))
    ++ (cover_names S covers ++ fresh_from (fresh_number S (control_of clock)) (length registers) more)

-- the twin of what is kept of a source, over these groups, with so many registers watched: its circuit and its names
abbrev pub twin_netlist : NetlistOf → Option Clock → List ℕ → List ℕ → List (List ℕ) → ℕ → NetlistOf
twin_netlist S clock registers covers groups watched =
    let C = twin_circuit watched (kept_part S.circuit registers covers) groups in
    record {
      circuit = C;
      names = twin_names S clock registers covers (length C.nodes - length covers);
      model = S.model;
    }

-- how many registers are watched: all that are kept, or none
abbrev pub watched_of : Bool → List ℕ → ℕ
watched_of true registers = length registers
watched_of false registers = 0

-- a plan without state words and the watched nets, as a plan of a netlist with so many latches
abbrev pub register_plan : ℕ → CodePlan → List ℕ → RegisterPlan
register_plan latches P watch = record { plan = record P { latches = latches }; watches = lists_of watch }

-- the netlist, the plan and what is watched are those of the twin of what is kept of the source, over its groups; and so the plan is of
-- the netlist, which is secure for the source against any one failing cell and each listed fault, and its watch hears
pub record IsTwinNetlist (S : NetlistOf) (clock : Option Clock) (watching : Bool) (N : NetlistOf) (P : CodePlan) (watch : List ℕ) : Type 0 where
  pub registers : List ℕ
  pub covers : List ℕ
  pub groups : List (List ℕ)
  pub kept : AreKept S.circuit registers covers
  pub grouped : AreRegisterGroups S.circuit groups
  pub net : N ≡ twin_netlist S clock registers covers groups (watched_of watching registers)
  pub plan : register_plan (length N.circuit.latches) P watch ≡ watched_plan (watched_of watching registers) (kept_part S.circuit registers covers) groups
  pub latches : P.latches ≡ 0
  pub whole : IsWholeTwin S.circuit (kept_part S.circuit registers covers) registers covers groups (watched_of watching registers)
  pub few : length N.circuit.nodes ≤ 2 * length S.circuit.nodes + 7 * length S.circuit.outputs + (2 * watched_of watching registers + 5)
