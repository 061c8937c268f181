-- What a netlist with its plan is to a machine, where gates that negate only inputs compute its outputs, their checks and the
-- word of the next state.
use Rattle.std.specs.Prelude.{◌≡◌, ℕ, ◌+◌, ◌<◌, ◌≤◌, Bool, List, [], ◌∷◌, ◌++◌, codes, map, take, length, All}
use Rattle.std.specs.List.{range_with_len}
use Rattle.fault_secure.specs.Circuit.{Circuit, bit, nets}
use Rattle.fault_secure.specs.StuckAt.StuckAt.{NoFault}
use Rattle.fault_secure.specs.Settle.{Settles}
use Rattle.fault_secure.specs.CodePlan.{CodePlan, monitored, next_nets, word}
use Rattle.fault_secure.specs.Logic.{StateTable}
use Rattle.tsc_net.specs.NetlistOf.{NetlistOf, names_of}
use Rattle.tsc_net.specs.Parts.{fresh_text, free_number}
use Rattle.tsc_bits.specs.Lists.{AreApart}
use Rattle.unate_synth.specs.UnateNetlist.{IsOutputOrFresh, SharesEqualGates, HasStatedRails, HasNothingElse, IsNarrow}
use Rattle.machine_synth.specs.MachineFunction.{IsMachinePlan, StartsAtReset, chosen_bit}

-- the model's name is `machine`, and the inputs have these names
pub record HasMachineInputs (M : StateTable) (inputs : List (List ℕ)) (N : NetlistOf) : Type 0 where
  pub model : N.model ≡ codes "machine"
  pub count : N.circuit.inputs ≡ M.inputs
  pub names : take N.circuit.inputs N.names ≡ inputs

-- the nets that latches give
abbrev pub latch_nets : Circuit → List ℕ
latch_nets N = range_with_len N.inputs (length N.latches)

-- the nets that have the first fresh names, in this order: latch outputs, nets at the latch inputs, checks, rails
abbrev pub fresh_nets : Circuit → CodePlan → List ℕ
fresh_nets N P = ((latch_nets N ++ next_nets N) ++ P.checks) ++ (P.rail1 ∷ (P.rail2 ∷ []))

-- the first fresh names with a number, so many of them
abbrev pub first_fresh_texts : ℕ → ℕ → List (List ℕ)
first_fresh_texts number count = map (fresh_text number) (range_with_len 0 count)

-- the outputs have these names, and after them stand the rails; fresh names have this number
pub record HasMachineNames (texts : List (List ℕ)) (number : ℕ) (N : NetlistOf) (P : CodePlan) : Type 0 where
  pub outputs : names_of N.names (take P.outputs N.circuit.outputs) ≡ texts
  pub rails : N.circuit.outputs ≡ take P.outputs N.circuit.outputs ++ (P.rail1 ∷ (P.rail2 ∷ []))
  pub fresh : names_of N.names (fresh_nets N.circuit P) ≡ first_fresh_texts number (length (fresh_nets N.circuit P))
  pub inner : (net : ℕ) → N.circuit.inputs ≤ net → net < nets N.circuit → IsOutputOrFresh N number net

-- each monitored net is one that a node drives, and no two places of the word share one
pub record HasOwnNodes (N : Circuit) (P : CodePlan) : Type 0 where
  pub driven : All (λ net. N.inputs + length N.latches ≤ net) (monitored N P)
  pub apart : AreApart (monitored N P)

-- whatever the input list and the state bits, each place of the word has the chosen bit where all nets settle without a fault
abbrev pub HasChosenBits : StateTable → Circuit → CodePlan → Type 0
HasChosenBits M N P =
    (x : List Bool) (s : ℕ → Bool) (v : List Bool) (place : ℕ) → Settles N NoFault (bit x) s v → place < length (monitored N P)
    → bit (word N P v) place ≡ chosen_bit M P x s place

-- the netlist with its plan is one of the machine whose inputs and outputs have these names. The number of fresh names is the
-- least for which none of these names begins as the fresh ones do
pub record IsMachineNetlist (M : StateTable) (inputs outputs : List (List ℕ)) (N : NetlistOf) (P : CodePlan) : Type 0 where
  pub given : HasMachineInputs M inputs N
  pub plan : IsMachinePlan M P
  pub reset : StartsAtReset M N.circuit P
  pub names : HasMachineNames outputs (free_number (inputs ++ outputs)) N P
  pub own : HasOwnNodes N.circuit P
  pub narrow : All IsNarrow N.circuit.nodes
  pub shared : SharesEqualGates N.circuit P
  pub rails : HasStatedRails N.circuit P
  pub whole : HasNothingElse N.circuit P
  pub chosen : HasChosenBits M N.circuit P
