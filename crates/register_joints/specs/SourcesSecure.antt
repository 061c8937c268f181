-- Secure for the sources of all parts: no wrong output of any part comes before the joint's alarm, whichever one cell of the joint fails.
use Rattle.std.specs.Prelude.{◌≡◌, ℕ, ◌<◌, ◌⊎◌, Bool, List, length, map, All, IsTrue}
use Rattle.fault_secure.specs.Circuit.{Circuit}
use Rattle.fault_secure.specs.StuckAt.{StuckAt, NoFault, is_listed}
use Rattle.fault_secure.specs.Run.{Runs, HasOneRun}
use Rattle.fault_secure.specs.FailingCell.{IsCell, RunsBut, HasOneRunBut}
use Rattle.fault_secure.specs.FaultSecure.{outputs_in, Follows, at_step}
use Rattle.joint_laws.specs.Joint.{JointOf, PartOf, part, shown_outputs}
use Rattle.joint_laws.specs.JointSecure.{JointRailsAgree, JointAlarmBy, NoSilentPart, inputs_over, run_over}
use Rattle.register_laws.specs.RegisterSecure.{shown}
use Rattle.register_joints.specs.PartSource.{PartSource, Logical, Registers, HasSourceRuns}

-- a run of the joint without a fault (vs), over its inputs (xs), follows the source of a part. Over the inputs that the part reads, its run
-- follows logic; and what the joint shows of it are, step by step, the outputs of the own run (ws) of a circuit with registers
abbrev pub FollowsInJoint : PartSource → JointOf → PartOf → List (List Bool) → List (List Bool) → Type 0
FollowsInJoint (Logical M) J p xs vs = Follows M p.circuit p.plan (inputs_over p xs) (run_over p vs)
FollowsInJoint (Registers S) J p xs vs =
    (m : List Bool) (ws : List (List Bool)) → Runs S NoFault m (inputs_over p xs) ws → map (shown_outputs J p) vs ≡ map (shown S) ws

-- no output that the joint shows of the part differs from what the circuit with registers shows in its run (ws), before the joint's alarm
abbrev pub NoWrongPart : Circuit → JointOf → PartOf → List (List Bool) → List (List Bool) → List (List Bool) → Type 0
NoWrongPart S J p xs ws us = (step : ℕ) → step < length xs → (shown_outputs J p (at_step us step) ≡ shown S (at_step ws step) → ⊥) → JointAlarmBy J us step

-- no wrong output of a part before the joint's alarm, in a run of the joint with a fault (us): none that logic doesn't allow, at the state
-- that the run without a fault (vs) has there, and none that differs from those of the run of a circuit with registers over the part's inputs
abbrev pub NoSilentOutput : PartSource → JointOf → PartOf → List (List Bool) → List (List Bool) → List (List Bool) → Type 0
NoSilentOutput (Logical M) J p xs vs us = NoSilentPart M J p xs vs us
NoSilentOutput (Registers S) J p xs vs us = (m : List Bool) (ws : List (List Bool)) → Runs S NoFault m (inputs_over p xs) ws → NoWrongPart S J p xs ws us

-- over every list of inputs there is exactly one run of each source with registers, one run of the joint without a fault, and one for whatever
-- bits a failing cell gives. Without a fault each part runs in it as it does alone, over its own inputs, the joint shows the part's outputs,
-- which follow its source, and the rails differ at every step. A failing cell of another part or of the tree leaves a part as it is alone;
-- and with one failing cell, whichever it is, no wrong output of any part comes before the joint's alarm
pub record IsCellSecureForSources (source : ℕ → PartSource) (J : JointOf) : Type 0 where
  pub source_runs : (i : ℕ) → i < length J.parts → HasSourceRuns (source i)
  pub one_run : (w : List Bool) (xs : List (List Bool)) → length w ≡ length xs → HasOneRun J.circuit NoFault w xs
  pub one_run_but : (cell : ℕ) (bits : List Bool) (xs : List (List Bool)) → IsCell J.circuit cell → length bits ≡ length xs
      → HasOneRunBut J.circuit cell bits xs
  pub alone : (i : ℕ) (w : List Bool) (xs vs : List (List Bool)) → i < length J.parts → Runs J.circuit NoFault w xs vs
      → Runs (part J i).circuit NoFault w (inputs_over (part J i) xs) (run_over (part J i) vs)
  pub shown : (i : ℕ) (w : List Bool) (xs vs : List (List Bool)) → i < length J.parts → Runs J.circuit NoFault w xs vs
      → map (shown_outputs J (part J i)) vs ≡ map (outputs_in (part J i).circuit (part J i).plan) (run_over (part J i) vs)
  pub follows : (i : ℕ) (w : List Bool) (xs vs : List (List Bool)) → i < length J.parts → Runs J.circuit NoFault w xs vs
      → FollowsInJoint (source i) J (part J i) xs vs
  pub quiet : (w : List Bool) (xs vs : List (List Bool)) → Runs J.circuit NoFault w xs vs → All (λ v. JointRailsAgree J v → ⊥) vs
  pub untouched : (cell i : ℕ) (w : List Bool) (xs us : List (List Bool)) → IsCell J.circuit cell → i < length J.parts
      → ((c : ℕ) → IsCell (part J i).circuit c → (part J i).at c ≡ cell → ⊥) → length w ≡ length xs → RunsBut J.circuit cell xs us
      → Runs (part J i).circuit NoFault w (inputs_over (part J i) xs) (run_over (part J i) us)
  pub alarmed : (cell i : ℕ) (w : List Bool) (xs vs us : List (List Bool)) → IsCell J.circuit cell → i < length J.parts
      → Runs J.circuit NoFault w xs vs → RunsBut J.circuit cell xs us → NoSilentOutput (source i) J (part J i) xs vs us

-- and the same of each listed stuck-at fault, present at any steps
pub record IsFaultSecureForSources (source : ℕ → PartSource) (J : JointOf) : Type 0 where
  pub source_runs : (i : ℕ) → i < length J.parts → HasSourceRuns (source i)
  pub one_run : (f : StuckAt) (w : List Bool) (xs : List (List Bool)) → (f ≡ NoFault) ⊎ IsTrue (is_listed J.circuit f)
      → length w ≡ length xs → HasOneRun J.circuit f w xs
  pub alone : (i : ℕ) (w : List Bool) (xs vs : List (List Bool)) → i < length J.parts → Runs J.circuit NoFault w xs vs
      → Runs (part J i).circuit NoFault w (inputs_over (part J i) xs) (run_over (part J i) vs)
  pub shown : (i : ℕ) (w : List Bool) (xs vs : List (List Bool)) → i < length J.parts → Runs J.circuit NoFault w xs vs
      → map (shown_outputs J (part J i)) vs ≡ map (outputs_in (part J i).circuit (part J i).plan) (run_over (part J i) vs)
  pub follows : (i : ℕ) (w : List Bool) (xs vs : List (List Bool)) → i < length J.parts → Runs J.circuit NoFault w xs vs
      → FollowsInJoint (source i) J (part J i) xs vs
  pub quiet : (w : List Bool) (xs vs : List (List Bool)) → Runs J.circuit NoFault w xs vs → All (λ v. JointRailsAgree J v → ⊥) vs
  pub alarmed : (f : StuckAt) (i : ℕ) (w : List Bool) (xs vs us : List (List Bool)) → IsTrue (is_listed J.circuit f) → i < length J.parts
      → Runs J.circuit NoFault w xs vs → Runs J.circuit f w xs us → NoSilentOutput (source i) J (part J i) xs vs us
