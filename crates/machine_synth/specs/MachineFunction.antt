-- What the function of a machine's netlist is: gates that negate only inputs, and choose among the answers of the states.
use Rattle.std.specs.Prelude.{◌≡◌, ℕ, ◌*◌, ◌<◌, Bool, List, [], map, length, slice_index_or, All}
use Rattle.tsc_bits.specs.Bits.{bits_of}
use Rattle.fault_secure.specs.Circuit.{Circuit, bit}
use Rattle.fault_secure.specs.Run.{init_state}
use Rattle.fault_secure.specs.CodePlan.{CodePlan, HasWidth, IsUnorderedCode, monitored}
use Rattle.fault_secure.specs.Logic.{StateTable}
use Rattle.gate_net.specs.Signal.{Signal, values}
use Rattle.gate_net.specs.Realised.{AllRealise, NegatesInputs}
use Rattle.state_code.specs.Words.{IsLeastWeight, state_words}
use Rattle.state_code.specs.Lines.{decoded}
use Rattle.tsc_bits.specs.Counting.{some_both}
use Rattle.machine_lines.specs.MachineLines.{bits_of_states}

-- the words of a plan's states as numbers: the first ones of its width and weight, so many as the machine has states
abbrev pub words_of : StateTable → CodePlan → List ℕ
words_of M P = state_words P.latches P.weight M.states

-- the plan has version 2, an unordered code, the machine's number of outputs and as many checks as the code has for them, no
-- groups, and for each state its word. The words are of the least even length for which there are enough words with half their bits 1
pub record IsMachinePlan (M : StateTable) (P : CodePlan) : Type 0 where
  pub version : P.version ≡ 2
  pub code : IsUnorderedCode P.code
  pub outputs : P.outputs ≡ M.outputs
  pub width : HasWidth P.code P.outputs (length P.checks)
  pub groupless : P.groups ≡ []
  pub half : P.latches ≡ 2 * P.weight
  pub least : IsLeastWeight M.states P.weight
  pub states : P.states ≡ map (bits_of P.latches) (words_of M P)

-- at the state bits s, whichever they are, some state whose word's ones are all 1 there answers at the input x with a 1 at this
-- place of the word
abbrev pub chosen_bit : StateTable → CodePlan → List Bool → (ℕ → Bool) → ℕ → Bool
chosen_bit M P x s place =
    some_both (map (decoded P.latches s) (words_of M P)) (bits_of_states P.code (length P.checks) P.latches (words_of M P) M x place)

-- the latches hold the reset state's word first
abbrev pub StartsAtReset : StateTable → Circuit → CodePlan → Type 0
StartsAtReset M N P = init_state N ≡ slice_index_or P.states M.reset []

-- before place hi gates of N that negate only inputs compute the chosen bit of each place of the word
pub record IsMachineFunction (M : StateTable) (N : Circuit) (P : CodePlan) (hi : ℕ) : Type 0 where
  pub plan : IsMachinePlan M P
  pub reset : StartsAtReset M N P
  pub signals : List Signal
  pub stand : AllRealise N hi signals (monitored N P)
  pub negate : All NegatesInputs signals
  pub chosen : (x : List Bool) (s : ℕ → Bool) (place : ℕ) → place < length signals → bit (values (bit x) s signals) place ≡ chosen_bit M P x s place
