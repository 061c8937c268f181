-- The weaker question, of what is seen from outside alone: no wrong output and no wrong next state without the rails agreeing.
use Rattle.std.specs.Prelude.{◌≡◌, ℕ, Bool, List, ◌++◌, map, take, length, All}
use Rattle.fault_secure.specs.Circuit.{Circuit, bit}
use Rattle.fault_secure.specs.StuckAt.{NoFault}
use Rattle.fault_secure.specs.Settle.{Settles}
use Rattle.fault_secure.specs.Run.{Runs, HasOneRun}
use Rattle.fault_secure.specs.CodePlan.{CodePlan, next_nets, RailsAgree}
use Rattle.fault_secure.specs.Logic.{Logic, AllowsOutputs}
use Rattle.fault_secure.specs.FailingCell.{IsCell, SettlesBut, RunsBut, HasOneRunBut}
use Rattle.fault_secure.specs.FaultSecure.{outputs_in, Follows, IsQuiet, NoSilentError}
use Rattle.point_laws.specs.Points.{IsStepAt, IsStepButAt, IsStepUnderAt, IsFalseAlarmAt}
use Rattle.point_laws.specs.Reached.{IsReached, IsQuietWhereReached}

-- the outputs and the next bits of a valuation: its word without the checks
abbrev pub shown_bits : Circuit → CodePlan → List Bool → List Bool
shown_bits N P v = map (bit v) (take P.outputs N.outputs ++ next_nets N)

-- the wrong valuation is unheard: an output or a next bit is wrong, and the rails differ
pub record IsUnheard (N : Circuit) (P : CodePlan) (right wrong : List Bool) : Type 0 where
  pub differ : shown_bits N P wrong ≡ shown_bits N P right → ⊥
  pub rails_differ : RailsAgree P wrong → ⊥

-- at a point a cell fails unheard
pub record IsUnheardAt (N : Circuit) (P : CodePlan) (cell q : ℕ) (x : List Bool) : Type 0 where
  pub right : List Bool
  pub wrong : List Bool
  pub step : IsStepAt N P q x right
  pub failing : IsStepButAt N P cell q x wrong
  pub unheard : IsUnheard N P right wrong

-- at a point a held stem is unheard
pub record IsUnheardUnder (N : Circuit) (P : CodePlan) (net : ℕ) (held : Bool) (q : ℕ) (x : List Bool) : Type 0 where
  pub right : List Bool
  pub wrong : List Bool
  pub step : IsStepAt N P q x right
  pub failing : IsStepUnderAt N P net held q x wrong
  pub unheard : IsUnheard N P right wrong

-- heard at its points: at none is there a false alarm, and at none does a cell fail unheard
pub record IsHeardAtPoints (N : Circuit) (P : CodePlan) : Type 0 where
  pub quiet : (q : ℕ) (x : List Bool) → IsFalseAlarmAt N P q x → ⊥
  pub heard : (cell q : ℕ) (x : List Bool) → IsCell N cell → IsUnheardAt N P cell q x → ⊥

-- the same at the states that runs come to
pub record IsHeardWhereReached (N : Circuit) (P : CodePlan) : Type 0 where
  pub quiet : IsQuietWhereReached N P
  pub heard : (cell : ℕ) (s x v u : List Bool) → IsCell N cell → IsReached N s → Settles N NoFault (bit x) (bit s) v → SettlesBut N cell (bit x) (bit s) u
      → (shown_bits N P u ≡ shown_bits N P v → ⊥) → RailsAgree P u

-- at a point a failing cell makes outputs that the source doesn't allow, and the rails differ
pub record IsWrongUnheardAt (M : Logic) (N : Circuit) (P : CodePlan) (cell q : ℕ) (x : List Bool) : Type 0 where
  pub right : List Bool
  pub wrong : List Bool
  pub step : IsStepAt N P q x right
  pub failing : IsStepButAt N P cell q x wrong
  pub not_allowed : AllowsOutputs M P.version q x (outputs_in N P wrong) → ⊥
  pub rails_differ : RailsAgree P wrong → ⊥

-- alarm-secure: as secure against any one failing cell, except for what is asked of the first wrong word. With one failing cell no wrong
-- output comes before its alarm
pub record IsAlarmSecure (M : Logic) (N : Circuit) (P : CodePlan) : Type 0 where
  pub one_run : (w : List Bool) (xs : List (List Bool)) → length w ≡ length xs → HasOneRun N NoFault w xs
  pub one_run_but : (cell : ℕ) (bits : List Bool) (xs : List (List Bool)) → IsCell N cell → length bits ≡ length xs → HasOneRunBut N cell bits xs
  pub follows : (w : List Bool) (xs vs : List (List Bool)) → Runs N NoFault w xs vs → Follows M N P xs vs
  pub quiet : (w : List Bool) (xs vs : List (List Bool)) → Runs N NoFault w xs vs → All (IsQuiet N P) vs
  pub alarmed : (cell : ℕ) (w : List Bool) (xs vs us : List (List Bool)) → IsCell N cell
      → Runs N NoFault w xs vs → RunsBut N cell xs us → NoSilentError M N P xs vs us

-- a source allows one list of outputs at each state and input, under a plan of this version: there no output is free
abbrev pub AllowsOneOutput : Logic → ℕ → Type 0
AllowsOneOutput M version = (q : ℕ) (x ys zs : List Bool) → AllowsOutputs M version q x ys → AllowsOutputs M version q x zs → ys ≡ zs
