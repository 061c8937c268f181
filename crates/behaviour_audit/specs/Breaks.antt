-- How a netlist breaks with its source in a step without a fault: from a listed state, at an input of as many bits as inputs.
use Rattle.std.specs.Prelude.{◌≡◌, ℕ, ◌<◌, ◌⊎◌, Bool, List, length, Some, IsTrue}
use Rattle.fault_secure.specs.Circuit.{Circuit, bit}
use Rattle.fault_secure.specs.StuckAt.{NoFault}
use Rattle.fault_secure.specs.Settle.{Settles}
use Rattle.fault_secure.specs.CodePlan.{CodePlan, word, IsCodeword}
use Rattle.fault_secure.specs.Logic.{Logic, Network, States, Loose, answering, outputs_of_rows, is_free_output, NetworkHas, IsLooseOutput, AllowsNext}
use Rattle.fault_secure.specs.FaultSecure.{outputs_in, next_in, state_at}
use Rattle.fault_secure.specs.Exposing.{word_of_state}

-- a step without a fault from a listed state at an input of as many bits as inputs
pub record IsStepAt (N : Circuit) (P : CodePlan) (q : ℕ) (x v : List Bool) : Type 0 where
  pub word : List Bool
  pub is_state : word_of_state P q ≡ Some word
  pub sized : length x ≡ N.inputs
  pub settles : Settles N NoFault (bit x) (bit word) v

-- the step arrives at a listed state that the source allows
pub record Arrives (M : Logic) (N : Circuit) (P : CodePlan) (q : ℕ) (x v : List Bool) : Type 0 where
  pub next : ℕ
  pub arrives : state_at P (next_in N v) ≡ Some next
  pub allowed : AllowsNext M P.version q x next

-- the source allows the bit at an output's place, under a plan of this version
abbrev pub AllowsBit : Logic → ℕ → ℕ → List Bool → ℕ → Bool → Type 0
AllowsBit (Network C) version q x place b = NetworkHas C x place b
AllowsBit (States M) version q x place b =
    IsTrue (is_free_output version (answering M q x) place) ⊎ (b ≡ bit (outputs_of_rows M (answering M q x)) place)
AllowsBit (Loose V F) version q x place b = IsLooseOutput F version x place ⊎ NetworkHas V x place b

-- a step arrives at no listed state, or at one that the source doesn't allow
pub record BreaksNext (M : Logic) (N : Circuit) (P : CodePlan) (q : ℕ) (x : List Bool) : Type 0 where
  pub valuation : List Bool
  pub step : IsStepAt N P q x valuation
  pub wrong : Arrives M N P q x valuation → ⊥

-- a step's word is no codeword
pub record BreaksWord (N : Circuit) (P : CodePlan) (q : ℕ) (x : List Bool) : Type 0 where
  pub valuation : List Bool
  pub step : IsStepAt N P q x valuation
  pub wrong : IsCodeword P (word N P valuation) → ⊥

-- a step has at an output a bit that the source doesn't allow
pub record BreaksOutput (M : Logic) (N : Circuit) (P : CodePlan) (q : ℕ) (x : List Bool) (place : ℕ) : Type 0 where
  pub valuation : List Bool
  pub step : IsStepAt N P q x valuation
  pub is_output : place < P.outputs
  pub wrong : AllowsBit M P.version q x place (bit (outputs_in N P valuation) place) → ⊥
