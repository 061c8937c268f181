-- Points at which cells fail: a listed state, by its number, and an input of as many bits as inputs. What is silent there.
use Rattle.std.specs.Prelude.{◌≡◌, ℕ, Bool, List, length, Some}
use Rattle.fault_secure.specs.Circuit.{Circuit, bit}
use Rattle.fault_secure.specs.StuckAt.{NoFault, Stem}
use Rattle.fault_secure.specs.Settle.{Settles}
use Rattle.fault_secure.specs.CodePlan.{CodePlan, word, RailsAgree}
use Rattle.fault_secure.specs.FailingCell.{IsCell, SettlesBut}
use Rattle.fault_secure.specs.FaultSecure.{Shows}
use Rattle.fault_secure.specs.Exposing.{word_of_state}

-- a step without a fault at a point settles in this valuation
pub record IsStepAt (N : Circuit) (P : CodePlan) (q : ℕ) (x v : List Bool) : Type 0 where
  pub word : List Bool
  pub is_state : word_of_state P q ≡ Some word
  pub sized : length x ≡ N.inputs
  pub settles : Settles N NoFault (bit x) (bit word) v

-- so does a step there in which a cell fails
pub record IsStepButAt (N : Circuit) (P : CodePlan) (cell q : ℕ) (x u : List Bool) : Type 0 where
  pub word : List Bool
  pub is_state : word_of_state P q ≡ Some word
  pub sized : length x ≡ N.inputs
  pub settles : SettlesBut N cell (bit x) (bit word) u

-- and one there with the stem of a net held at a bit
pub record IsStepUnderAt (N : Circuit) (P : CodePlan) (net : ℕ) (held : Bool) (q : ℕ) (x u : List Bool) : Type 0 where
  pub word : List Bool
  pub is_state : word_of_state P q ≡ Some word
  pub sized : length x ≡ N.inputs
  pub settles : Settles N (Stem net held) (bit x) (bit word) u

-- a false alarm at a point: the rails agree without a fault
pub record IsFalseAlarmAt (N : Circuit) (P : CodePlan) (q : ℕ) (x : List Bool) : Type 0 where
  pub valuation : List Bool
  pub step : IsStepAt N P q x valuation
  pub rails_agree : RailsAgree P valuation

-- the wrong valuation is silent: its word isn't the right one, and it is a codeword or the rails differ
pub record IsSilent (N : Circuit) (P : CodePlan) (right wrong : List Bool) : Type 0 where
  pub differ : word N P wrong ≡ word N P right → ⊥
  pub unshown : Shows N P wrong → ⊥

-- at a point a cell fails silently
pub record IsSilentAt (N : Circuit) (P : CodePlan) (cell q : ℕ) (x : List Bool) : Type 0 where
  pub right : List Bool
  pub wrong : List Bool
  pub step : IsStepAt N P q x right
  pub failing : IsStepButAt N P cell q x wrong
  pub silent : IsSilent N P right wrong

-- at a point a held stem is silent
pub record IsSilentUnder (N : Circuit) (P : CodePlan) (net : ℕ) (held : Bool) (q : ℕ) (x : List Bool) : Type 0 where
  pub right : List Bool
  pub wrong : List Bool
  pub step : IsStepAt N P q x right
  pub failing : IsStepUnderAt N P net held q x wrong
  pub silent : IsSilent N P right wrong

-- secure at its points: at none is there a false alarm, and at none does a cell fail silently
pub record IsSecureAtPoints (N : Circuit) (P : CodePlan) : Type 0 where
  pub quiet : (q : ℕ) (x : List Bool) → IsFalseAlarmAt N P q x → ⊥
  pub shown : (cell q : ℕ) (x : List Bool) → IsCell N cell → IsSilentAt N P cell q x → ⊥
